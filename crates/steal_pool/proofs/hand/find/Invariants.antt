use Rattle.std.proofs.Common.{◌≡◌, None, vec_len}
use Rattle.steal_pool.specs.HandFields.{Searched}
use Rattle.steal_pool.proofs.hand.find.Given as goal

abbrev pub invariant-loop-k : goal.invariant-loop-k
invariant-loop-k l = Searched l.fn.own l.own l.fn.others.items l.others.items None × (vec_len l.others ≡ l.count)
