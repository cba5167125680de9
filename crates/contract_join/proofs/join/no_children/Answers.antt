use Rattle.std.proofs.Common.{◌+◌, arith, sym, subst, List}
use Rattle.pareto_front.specs.declared.point.Point.{Point}
use Rattle.contract_join.proofs.Children.{AreEmpty, AreEmpty-push}
use Rattle.contract_join.proofs.Fronts.{cap-le}
use Rattle.contract_join.proofs.join.no_children.Goals as goal

pub start-requires : goal.start-requires
start-requires c =
    let most = cap-le c.args.net.now c.network_is_valid.ensures in
    let is = c.cap.ensures in
    omega arith

pub loop-preserved : goal.loop-preserved
loop-preserved c =
    subst (λ (l : List (List (List Point))). AreEmpty l (c.loop.counter + 1)) (sym {A = List (List (List Point))} c.in_ok-push.ensures.items)
    (AreEmpty-push c.loop.sums.items c.loop.counter c.in_ok-start.field-0 c.loop.invariant c.in_ok-start.ensures)
