use Rattle.std.proofs.Common.{◌++◌, ◌∷◌, [], arith, subst, List}
use Rattle.pareto_front.specs.declared.point.Point.{Point}
use Rattle.pareto_front.specs.FrontSum.{CostsAlike}
use Rattle.pareto_front.proofs.Together.{CostsAlike-trans, CostsAlike-joined, last_fit}
use Rattle.pareto_front.proofs.front_sum.with_last.Goals as goal

pub in_one-requires : goal.in_one-requires
in_one-requires c =
    let start : List (List Point) = c.args.parts.now.items ++ c.args.sum ∷ [] in
    let rest : List (List Point) = c.pop_within.new.parts.items in
    let last : List Point = c.in-Some.last in
    let sum : List Point = c.loop-last.sum in
    let before : CostsAlike start ((rest ++ last ∷ []) ++ sum ∷ []) =
    subst (λ (l : List (List Point)). CostsAlike start (l ++ sum ∷ [])) c.in-Some.ensures.some c.loop-last.invariant in
    let less = before.costs in
    let fits = c.requires in
    last_fit rest last sum (omega arith)

pub loop-last-preserved : goal.loop-last-preserved
loop-last-preserved c =
    let start : List (List Point) = c.args.parts.now.items ++ c.args.sum ∷ [] in
    let rest : List (List Point) = c.pop_within.new.parts.items in
    let last : List Point = c.in-Some.last in
    let sum : List Point = c.loop-last.sum in
    let both : List Point = c.in_ok-sum.sum in
    CostsAlike-trans start ((rest ++ last ∷ []) ++ sum ∷ []) (rest ++ both ∷ [])
    (subst (λ (l : List (List Point)). CostsAlike start (l ++ sum ∷ [])) c.in-Some.ensures.some c.loop-last.invariant)
    (CostsAlike-joined rest last sum both c.in_ok-sum.ensures)
