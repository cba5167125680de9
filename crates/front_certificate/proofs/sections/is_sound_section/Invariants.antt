use Rattle.std.proofs.Common.{ℕ, ◌<◌}
use Rattle.front_certificate.specs.Sound.{HoldsAt}
use Rattle.front_certificate.proofs.sections.is_sound_section.Given as goal

abbrev pub invariant-loop-k : goal.invariant-loop-k
invariant-loop-k l =
    (k : ℕ) → k < l.k → (rest : ℕ) → HoldsAt l.stated.net l.stated.fronts l.s k rest
