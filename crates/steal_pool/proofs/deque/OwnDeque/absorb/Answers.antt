use Rattle.std.proofs.Common.{sym, subst, []}
use Rattle.crossbeam_deque.specs.Tasks.{Merges}
use Rattle.steal_pool.specs.Rule.{deque_view, joined, IsKept}
use Rattle.steal_pool.proofs.Keeping.{merge-keeps}
use Rattle.steal_pool.proofs.deque.OwnDeque.absorb.Goals as goal

pub absorb-requires-clause-rule : goal.absorb-requires-clause-rule
absorb-requires-clause-rule c =
    let v = c.args.self.now.worker.end.pass.me.view.client in
    let u = c.args.reach.pass.me.view.client in
    subst (λ seat. Merges IsKept seat v c.args.reach.pass.id u (joined v u) (deque_view 0 [] [])) (sym c.args.self.now.first_seat) (merge-keeps v c.args.reach.pass.id u c.args.self.now.some_part)
