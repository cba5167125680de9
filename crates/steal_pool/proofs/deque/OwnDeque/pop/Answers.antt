use Rattle.steal_pool.proofs.Keeping.{take-keeps}
use Rattle.steal_pool.proofs.deque.OwnDeque.pop.Goals as goal

pub pop_as-requires-clause-fifo : goal.pop_as-requires-clause-fifo
pop_as-requires-clause-fifo c = λ _. take-keeps _ _ c.args.self.now.some_part
