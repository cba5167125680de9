use Rattle.std.proofs.Common.{◌++◌, ◌∷◌, [], sym, subst, List, Option}
use Rattle.pareto_front.specs.declared.point.Point.{Point}
use Rattle.pareto_front.specs.CostFalls.{fronts_with}
use Rattle.pareto_front.specs.FrontSum.{CostsAlike}
use Rattle.pareto_front.proofs.Together.{CostsAlike-joined}
use Rattle.pareto_front.proofs.front_sum.add_by_need.Goals as goal

pub returns-in-Some-clause-laid : goal.returns-in-Some-clause-laid
returns-in-Some-clause-laid c laid parts =
    let front : List Point = c.args.front.now in
    let new : List Point = c.add.new.self in
    subst (λ (o : Option (List Point)). CostsAlike (fronts_with parts o ++ front ∷ []) (parts ++ new ∷ [])) (sym c.in-Some.is)
    (CostsAlike-joined parts c.in-Some.sum front new (c.add.ensures.added laid))
