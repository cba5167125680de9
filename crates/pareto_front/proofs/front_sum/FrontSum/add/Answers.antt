use Rattle.std.proofs.Common.{◌++◌, ◌∷◌, [], sym, subst, List, Option}
use Rattle.std.proofs.lemmas.Result.{IfOk-weaker}
use Rattle.pareto_front.specs.declared.point.Point.{Point}
use Rattle.pareto_front.specs.CostFalls.{fronts_with}
use Rattle.pareto_front.specs.FrontSum.{CostsAlike}
use Rattle.pareto_front.proofs.Together.{CostsAlike-part}
use Rattle.pareto_front.proofs.front_sum.FrontSum.add.Goals as goal

pub returns : goal.returns
returns c =
    let front : List Point = c.args.front.now in
    let parts : List (List Point) = c.self.inside.parts.items in
    let falls : Option (List Point) = c.self.inside.falls in
    let new : List (List Point) = c.add_part.new.parts.items in
    IfOk-weaker c.add_part.result (λ _. CostsAlike (parts ++ front ∷ []) new)
    (λ _. CostsAlike (c.args.self.now ++ front ∷ []) (fronts_with new c.add_by_need.new.falls))
    (λ _ alike.
    subst (λ (o : Option (List Point)). CostsAlike (c.args.self.now ++ front ∷ []) (fronts_with new o)) (sym (c.add_by_need.ensures.kept c.if-add_by_need.false))
    (subst (λ (l : List (List Point)). CostsAlike (l ++ front ∷ []) (fronts_with new falls)) c.self.view_is
    (CostsAlike-part parts new falls front alike)))
    c.add_part.ensures
