use Rattle.std.proofs.Common.{ap, sym, ◌∙◌, subst}
use Rattle.std.specs.List.Sorted.{IsStrictlyIncreasing}
use Rattle.child_counter.specs.Closed.{ClosedData, AreSorted}
use Rattle.child_counter.proofs.Sorted.{refused-rise}
use Rattle.child_counter.proofs.closed.Closed.refused.Goals as goal

pub returns-clause-rising : goal.returns-clause-rising
returns-clause-rising c =
    let sorted = subst (λ (x : ClosedData). AreSorted x.net x.fronts x.refused) c.self.view_is c.self.invariant.0 in
    let list = c.as_slice.ensures ∙ ap (λ (x : ClosedData). x.refused) c.self.view_is in
    subst IsStrictlyIncreasing (sym list) (refused-rise _ _ _ sorted)
