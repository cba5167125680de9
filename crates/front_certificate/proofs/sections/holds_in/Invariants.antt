use Rattle.std.proofs.Common.{ℕ, ◌-◌, ◌^◌, ◌≤◌}
use Rattle.front_certificate.specs.Sound.{HoldsAt}
use Rattle.front_certificate.proofs.sections.holds_in.Given as goal

abbrev pub invariant-loop-need : goal.invariant-loop-need
invariant-loop-need l =
    (rest : ℕ) → rest ≤ l.rest → HoldsAt l.stated.net l.stated.fronts l.s l.k rest

abbrev pub decreases-loop-need : goal.decreases-loop-need
decreases-loop-need l = 2 ^ 64 - l.rest
