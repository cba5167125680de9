use Rattle.std.proofs.Common.{arith}
use Rattle.steal_pool.proofs.Keeping.{take-keeps}
use Rattle.steal_pool.proofs.deque.Reach.steal.Goals as goal

pub steal_as-requires-clause-takes : goal.steal_as-requires-clause-takes
steal_as-requires-clause-takes c = take-keeps _ _ (let a = c.args.self.now.one_part in omega arith)
