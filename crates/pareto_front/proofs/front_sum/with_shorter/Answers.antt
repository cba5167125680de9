use Rattle.std.proofs.Common.{◌++◌, ◌∷◌, [], subst, sym, List}
use Rattle.std.proofs.lemmas.Result.{IfOk-weaker}
use Rattle.pareto_front.specs.declared.point.Point.{Point}
use Rattle.pareto_front.specs.FrontSum.{IsBoth, CostsAlike}
use Rattle.pareto_front.proofs.Together.{CostsAlike-trans, CostsAlike-push, CostsAlike-joined}
use Rattle.pareto_front.proofs.front_sum.with_shorter.Goals as goal

pub returns : goal.returns
returns c =
    let start : List (List Point) = c.args.parts.now.items in
    let front : List Point = c.args.front.now in
    let rest : List (List Point) = c.pop_within.new.parts.items in
    let last : List Point = c.in-Some.last in
    let left : List (List Point) = c.with_last.new.parts.items in
    let shorter : List Point = c.in_ok-shorter.shorter in
    let before : CostsAlike start (left ++ shorter ∷ []) =
    subst (λ (l : List (List Point)). CostsAlike l (left ++ shorter ∷ [])) (sym {A = List (List Point)} c.in-Some.ensures.some) c.in_ok-shorter.ensures in
    IfOk-weaker c.in_one.result (IsBoth shorter front) (λ sum. CostsAlike (start ++ front ∷ []) (left ++ sum ∷ []))
    (λ sum both.
    CostsAlike-trans (start ++ front ∷ []) ((left ++ shorter ∷ []) ++ front ∷ []) (left ++ sum ∷ [])
    (CostsAlike-push start (left ++ shorter ∷ []) front before)
    (CostsAlike-joined left shorter front sum both))
    c.in_one.ensures
