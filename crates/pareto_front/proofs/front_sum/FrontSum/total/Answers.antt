use Rattle.std.proofs.Common.{◌∷◌, [], List, subst, ◌∙◌}
use Rattle.std.specs.Prelude.{IfOk}
use Rattle.std.proofs.lemmas.Result.{IfOk-weaker}
use Rattle.pareto_front.specs.declared.point.Point.{Point}
use Rattle.pareto_front.specs.FrontSum.{IsTotal, CostsAlike}
use Rattle.pareto_front.proofs.Together.{IsTotal-alike}
use Rattle.pareto_front.proofs.front_sum.FrontSum.total.Goals as goal

pub returns : goal.returns
returns c =
    IfOk-weaker c.sum_of.result (λ sum. CostsAlike c.args.self (sum ∷ [])) (IsTotal c.args.self) (IsTotal-alike c.args.self)
    (subst (λ (l : List (List Point)). IfOk c.sum_of.result (λ sum. CostsAlike l (sum ∷ []))) (c.in_ok-parts.ensures ∙ c.self.view_is) c.sum_of.ensures)
