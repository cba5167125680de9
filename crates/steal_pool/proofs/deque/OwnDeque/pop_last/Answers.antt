use Rattle.std.proofs.Common.{◌≡◌, sym, subst}
use Rattle.crossbeam_deque.specs.Tasks.{Takes, Finds}
use Rattle.steal_pool.specs.Rule.{with_got, IsDrained, IsWithinPushed, IsKept}
use Rattle.steal_pool.proofs.Keeping.{take_last-keeps, find-tells}
use Rattle.steal_pool.proofs.deque.OwnDeque.pop_last.Goals as goal

pub pop_as-requires-clause-fifo : goal.pop_as-requires-clause-fifo
pop_as-requires-clause-fifo c =
    let v = c.args.self.now.worker.end.pass.me.view.client in
    λ _. subst (λ seat. Takes IsKept seat v 1 (λ xs w. (w ≡ with_got v xs) × IsWithinPushed w)) (sym c.args.self.now.first_seat) (take_last-keeps v c.args.self.now.some_part)

pub pop_as-requires-clause-empty : goal.pop_as-requires-clause-empty
pop_as-requires-clause-empty c =
    let v = c.args.self.now.worker.end.pass.me.view.client in
    subst (λ seat. Finds IsKept seat v (IsDrained v)) (sym c.args.self.now.first_seat) (find-tells v)
