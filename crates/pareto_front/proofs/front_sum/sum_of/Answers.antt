use Rattle.std.proofs.Common.{◌++◌, ◌∷◌, [], subst, List}
use Rattle.pareto_front.specs.declared.point.Point.{Point}
use Rattle.pareto_front.specs.FrontSum.{CostsAlike}
use Rattle.pareto_front.proofs.Together.{CostsAlike-trans, CostsAlike-joined}
use Rattle.pareto_front.proofs.front_sum.sum_of.Goals as goal

pub loop-last-preserved : goal.loop-last-preserved
loop-last-preserved c =
    let start : List (List Point) = c.args.parts.items in
    let rest : List (List Point) = c.pop-in-loop-last.new.self.items in
    let last : List Point = c.in-Some-pop.last in
    let sum : List Point = c.loop-last.sum in
    let both : List Point = c.in_ok-sum.sum in
    CostsAlike-trans start ((rest ++ last ∷ []) ++ sum ∷ []) (rest ++ both ∷ [])
    (subst (λ (l : List (List Point)). CostsAlike start (l ++ sum ∷ [])) c.in-Some-pop.ensures.items c.loop-last.invariant)
    (CostsAlike-joined rest last sum both c.in_ok-sum.ensures)
