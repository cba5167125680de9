use Rattle.std.proofs.Common.{ℕ, ◌<◌}
use Rattle.least_laws.specs.Choosing.{Attains}
use Rattle.expand_sizes.proofs.sizes.first_attaining.Given as goal

abbrev pub invariant-loop-k : goal.invariant-loop-k
invariant-loop-k l = (k : ℕ) → k < l.k → Attains l.net l.s l.g l.left k → ⊥
