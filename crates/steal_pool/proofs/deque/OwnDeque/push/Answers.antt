use Rattle.std.proofs.Common.{◌≡◌, sym, subst, ◌∷◌, []}
use Rattle.crossbeam_deque.specs.Tasks.{Pushes}
use Rattle.steal_pool.specs.Rule.{with_pushed, IsKept}
use Rattle.steal_pool.proofs.Keeping.{push-keeps}
use Rattle.steal_pool.proofs.deque.OwnDeque.push.Goals as goal

pub push_as-requires-clause-pushes : goal.push_as-requires-clause-pushes
push_as-requires-clause-pushes c =
    let w = c.args.self.now.worker in
    let v = w.end.pass.me.view.client in
    subst (λ seat. Pushes IsKept seat v (c.args.task ∷ []) (λ y. y ≡ with_pushed v (c.args.task ∷ []))) (sym c.args.self.now.first_seat) (push-keeps v c.args.task c.args.self.now.some_part)
