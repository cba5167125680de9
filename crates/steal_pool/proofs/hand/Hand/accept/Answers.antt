use Rattle.steal_pool.proofs.Looking.{accept-keeps}
use Rattle.steal_pool.proofs.hand.Hand.accept.Goals as goal

pub invariant_of-self-2 : goal.invariant_of-self-2
invariant_of-self-2 c = accept-keeps _ _ _ c.args.reach _ _ _ _ _ c.self.invariant c.in_ok-push.ensures.items c.requires
