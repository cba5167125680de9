use Rattle.std.proofs.Common.{◌≡◌, ℕ, ◌<◌, sym, subst, List, None}
use Rattle.std.specs.Prelude.{All, IfOk}
use Rattle.std.proofs.lemmas.Result.{IfOk-weaker}
use Rattle.duct_definitions.specs.Tree.{Tree, section_count, neighbour, roots}
use Rattle.pareto_front.specs.FrontSum.{IsTotal}
use Rattle.contract_join.specs.SideFront.{IsSideFront}
use Rattle.contract_join.proofs.Adding.{IsSumOf}
use Rattle.contract_join.proofs.Sides.{roots-at_fan, roots-are, roots_fit, roots-total, side-below}
use Rattle.contract_join.proofs.side.side_of.Goals as goal

pub sum_of_roots-requires-clause-in_range : goal.sum_of_roots-requires-clause-in_range
sum_of_roots-requires-clause-in_range c =
    subst (λ (t : Tree). All (λ s. s < section_count t) c.roots.result.now) c.tree.ensures.tree c.roots.ensures.sections

pub sum_of_roots-requires-clause-at_fan : goal.sum_of_roots-requires-clause-at_fan
sum_of_roots-requires-clause-at_fan c =
    let net = c.args.net.now in
    subst (λ (l : List ℕ). All (λ s. neighbour net.tree s ≡ None) l)
    (sym (roots-are net c.args.side c.tree.result.now c.roots.result.now c.tree.ensures.tree c.roots.ensures.value))
    (roots-at_fan net c.args.side)

pub total-requires : goal.total-requires
total-requires c =
    roots_fit c.args.net.now c.args.side c.tree.result.now c.roots.result.now c.tree.ensures.tree c.roots.ensures.value
    c.in_ok-sum.sum c.in_ok-sum.ensures c.tree.ensures.network

total_is : (c : goal.After-total) → IfOk c.total.result (IsSumOf c.args.net.now 0 (roots c.args.net.now.tree c.args.side))
total_is c =
    IfOk-weaker c.total.result (IsTotal c.in_ok-sum.sum) (IsSumOf c.args.net.now 0 (roots c.args.net.now.tree c.args.side))
    (roots-total c.args.net.now c.args.side c.tree.result.now c.roots.result.now c.tree.ensures.tree c.roots.ensures.value
    c.in_ok-sum.sum c.in_ok-sum.ensures)
    c.total.ensures

pub returns : goal.returns
returns c =
    let net = c.args.net.now in
    IfOk-weaker c.total.result (IsSumOf net 0 (roots net.tree c.args.side)) (IsSideFront net c.args.side)
    (λ front is. record {
      exact = is.value;
      needs = is.needs;
      below = side-below net c.tree.ensures.network c.args.side front is.costs;
    }) (total_is c)
