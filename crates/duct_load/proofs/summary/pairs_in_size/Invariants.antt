use Rattle.std.proofs.Common.{◌≡◌, count_by}
use Rattle.std.specs.Prelude.{is_some}
use Rattle.std.specs.List.{range_with_len}
use Rattle.duct_definitions.specs.Network.{pair_at}
use Rattle.duct_load.proofs.summary.pairs_in_size.Given as goal

-- how many of the pairs so far are there
abbrev pub invariant-loop-g : goal.invariant-loop-g
invariant-loop-g l = l.count ≡ count_by (λ g. is_some (pair_at l.net l.s l.k g)) (range_with_len 0 l.g)
