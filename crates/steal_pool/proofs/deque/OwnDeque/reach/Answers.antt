use Rattle.steal_pool.proofs.Keeping.{fork-keeps}
use Rattle.steal_pool.proofs.deque.OwnDeque.reach.Goals as goal

pub another-pass-requires : goal.another-pass-requires
another-pass-requires c = fork-keeps _ _ c.requires
