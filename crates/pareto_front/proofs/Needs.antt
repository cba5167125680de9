-- Bounds on the needs of a list of points, from other bounds.
use Rattle.std.proofs.Common.{ℕ, ◌+◌, ◌<◌, ◌≤◌, List, arith}
use Rattle.std.specs.Prelude.{All}
use Rattle.std.proofs.lemmas.List.Elements.{All-weaker}
use Rattle.pareto_front.specs.declared.point.Point.{Point}
use Rattle.pareto_front.specs.Front.{NeedsWithin}
use Rattle.pareto_front.specs.Sweep.{NeedsBelow, NeedsFrom}

-- every need is above the budget
abbrev pub NeedsAbove : ℕ → List Point → Type 0
NeedsAbove budget points = All (λ point. budget < point.need) points

pub within_from_below : (need b : ℕ) (ps : List Point) → need ≤ b + 1 → NeedsBelow need ps → NeedsWithin b ps
within_from_below need b ps bound below = All-weaker (λ p. p.need < need) (λ p. p.need ≤ b) (λ p h. omega arith) ps below

pub within_later : (b c : ℕ) (ps : List Point) → b ≤ c → NeedsWithin b ps → NeedsWithin c ps
within_later b c ps bound within = All-weaker (λ p. p.need ≤ b) (λ p. p.need ≤ c) (λ p h. omega arith) ps within

pub below_later : (need later : ℕ) (ps : List Point) → need ≤ later → NeedsBelow need ps → NeedsBelow later ps
below_later need later ps bound below = All-weaker (λ p. p.need < need) (λ p. p.need < later) (λ p h. omega arith) ps below

pub above_from : (need b : ℕ) (ps : List Point) → b < need → NeedsFrom need ps → NeedsAbove b ps
above_from need b ps bound from = All-weaker (λ p. need ≤ p.need) (λ p. b < p.need) (λ p h. omega arith) ps from

pub from_above : (b need : ℕ) (ps : List Point) → need ≤ b + 1 → NeedsAbove b ps → NeedsFrom need ps
from_above b need ps bound above = All-weaker (λ p. b < p.need) (λ p. need ≤ p.need) (λ p h. omega arith) ps above
