use Rattle.std.proofs.Common.{◌<◌, ℕ}
use Rattle.std.specs.Prelude.{IsSome}
use Rattle.duct_definitions.specs.Designs.{pair_of}
use Rattle.net_model.proofs.designs.has_pairs.Given as goal

abbrev pub invariant-loop-s : goal.invariant-loop-s
invariant-loop-s l = (s : ℕ) → s < l.s → IsSome (pair_of l.net l.d s)
