use Rattle.std.proofs.Common.{ℕ, ◌<◌}
use Rattle.front_certificate.specs.Sound.{HoldsBeside}
use Rattle.front_certificate.proofs.sections.holds_at.Given as goal

abbrev pub invariant-loop-g : goal.invariant-loop-g
invariant-loop-g l =
    (g : ℕ) → g < l.g → HoldsBeside l.stated.net l.stated.fronts l.s l.k l.rest l.sum g
