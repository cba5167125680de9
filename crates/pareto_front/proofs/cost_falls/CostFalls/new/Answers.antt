use Rattle.std.proofs.Common.{◌≤◌, arith, ap, sym, subst, List, ◌∷◌, drop}
use Rattle.std.specs.Prelude.{All}
use Rattle.std.proofs.lemmas.List.Elements.{All-drop, All-replicate}
use Rattle.pareto_front.specs.declared.point.Point.{Point}
use Rattle.pareto_front.proofs.FallsByNeed.{after-level}
use Rattle.pareto_front.proofs.cost_falls.CostFalls.new.Goals as goal

pub returns : goal.returns
returns c =
    let zero : Point = record { need = 0; cost = 0 } in
    let falls = c.in_ok-vec.field-0.items in
    ap (λ (l : List Point). zero ∷ l)
    (after-level 1 0 (drop 1 falls) (All-drop (λ f. f ≤ 0) 1 falls
    (subst (All (λ f. f ≤ 0)) (sym (c.in_ok-vec.ensures.items_if_clones_equal (λ y same. same))) (All-replicate (λ f. f ≤ 0) c.args.needs 0 (omega arith)))))
