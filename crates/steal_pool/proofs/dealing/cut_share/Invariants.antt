use Rattle.std.proofs.Common.{◌≡◌, ◌++◌, drop}
use Rattle.steal_pool.specs.Deals.{share_of, share_from}
use Rattle.steal_pool.proofs.dealing.cut_share.Given as goal

abbrev pub invariant-loop-p : goal.invariant-loop-p
invariant-loop-p l = l.share.items ++ share_from l.p l.n l.i (drop l.p l.tasks) ≡ share_of l.tasks l.n l.i
