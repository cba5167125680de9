use Rattle.std.proofs.Common.{◌≡◌, sym, subst, List, length}
use Rattle.pareto_front.specs.declared.point.Point.{Point}
use Rattle.duct_definitions.specs.Tree.{children}
use Rattle.contract_join.specs.Join.{Joining, AreSums}
use Rattle.contract_join.proofs.Children.{all_fit, AreSums-totals}
use Rattle.contract_join.proofs.join.Join.close.Goals as goal

pub totals-requires : goal.totals-requires
totals-requires c =
    let own = c.self.inside in
    all_fit own.net.now own.section own.added c.in-Some.sums.items (c.self.invariant c.in-Some.sums c.in-Some.is)

pub fronts_beside-requires : goal.fronts_beside-requires
fronts_beside-requires c =
    let own = c.self.inside in
    subst (λ (l : List (List Point)). AreSums own.net.now own.section l) (sym {A = List (List Point)} c.as_slice.ensures)
    (AreSums-totals own.net.now own.section own.added c.in-Some.sums.items c.in_ok-sums.sums
    (c.self.invariant c.in-Some.sums c.in-Some.is)
    (subst (λ (v : Joining). v.added ≡ length (children v.net.tree v.section)) (sym c.self.view_is) c.requires)
    c.in_ok-sums.ensures)
