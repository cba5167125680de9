use Rattle.std.proofs.Common.{sym, subst, ◌-◌}
use Rattle.std.specs.Prelude.{vec_capacity}
use Rattle.steal_pool.specs.HandFields.{IsHand}
use Rattle.steal_pool.proofs.Looking.{found-keeps}
use Rattle.steal_pool.proofs.hand.Hand.take.Goals as goal

pub invariant_of-self : goal.invariant_of-self
invariant_of-self c =
    let s = c.self.inside in
    let e = c.in-Ok.ensures in
    subst (λ ts. IsHand c.find.new.own c.find.new.others.items s.share.items ts s.given (s.budget - 1) (vec_capacity c.push.new.self)) (sym e.items)
    (found-keeps s.own c.find.new.own s.others.items c.find.new.others.items s.share.items s.taken.items s.given s.budget (vec_capacity s.taken) (vec_capacity c.push.new.self) c.in-Some.task c.self.invariant c.in-Some.ensures c.if-self-gt0.true e.capacity)
