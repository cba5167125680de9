use Rattle.std.proofs.Common.{take}
use Rattle.contract_join.specs.Join.{AreSumOf}
use Rattle.contract_join.proofs.side.sum_of_roots.Given as goal

abbrev pub invariant-loop-s : goal.invariant-loop-s
invariant-loop-s l = AreSumOf l.net 0 (take l.s-index l.sections) l.sum
