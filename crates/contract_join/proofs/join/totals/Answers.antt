use Rattle.std.proofs.Common.{◌+◌, sym, ◌∙◌, subst, List, length}
use Rattle.std.proofs.lemmas.Iterator.Adapters.{YieldsList-from_vec}
use Rattle.std.proofs.lemmas.Iterator.Consumers.{YieldsList-turn, YieldsList-end}
use Rattle.std.proofs.lemmas.List.{length_push}
use Rattle.pareto_front.specs.declared.point.Point.{Point}
use Rattle.contract_join.specs.Join.{AreTotals}
use Rattle.contract_join.proofs.Children.{AreTotalsTo, AreTotalsTo-next, AreTotals-all}
use Rattle.contract_join.proofs.join.totals.Goals as goal

pub loop-sum-preserved : goal.loop-sum-preserved
loop-sum-preserved c =
    let sums : List (List (List Point)) = c.args.sums.items in
    let made = c.into_iter-sum-iterator.ensures.into_iter_gives in
    let turn = YieldsList-turn (YieldsList-from_vec {s = c.into_iter-sum-iterator.result} c.args.sums.items made.0 (made.1 ∙ c.args.sums.ok.0))
    c.loop-sum.yielded c.loop-sum.sum-iterator c.loop-sum.yielded_by c.next.result c.next.new.self c.in-Some.sum c.in-Some.is c.next.ensures.steps in
    subst (AreTotalsTo sums c.push.new.self.items) (sym (length_push c.loop-sum.yielded c.in-Some.sum))
    (subst (λ (l : List (List Point)). AreTotalsTo sums l (length c.loop-sum.yielded + 1)) (sym {A = List (List Point)} c.in_ok-push.ensures.items)
    (AreTotalsTo-next sums c.loop-sum.fronts.items (length c.loop-sum.yielded) c.in-Some.sum c.in_ok-total.field-0 turn.0 turn.1
    c.loop-sum.invariant c.in_ok-total.ensures))

pub returns : goal.returns
returns c =
    let sums : List (List (List Point)) = c.args.sums.items in
    let made = c.into_iter-sum-iterator.ensures.into_iter_gives in
    let end = YieldsList-end (YieldsList-from_vec {s = c.into_iter-sum-iterator.result} c.args.sums.items made.0 (made.1 ∙ c.args.sums.ok.0))
    c.loop-sum.yielded c.loop-sum.sum-iterator c.loop-sum.yielded_by c.next.result c.next.new.self c.in-None.is c.next.ensures.steps in
    subst (AreTotals sums) (sym {A = List (List Point)} c.from_vec.ensures)
    (AreTotals-all c.args.sums.items c.loop-sum.fronts.items (length c.loop-sum.yielded) end.1 c.loop-sum.invariant)
