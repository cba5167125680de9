use Rattle.std.proofs.Common.{List, sym, subst}
use Rattle.pareto_front.specs.declared.point.Point.{Point}
use Rattle.duct_definitions.specs.Network.{Network}
use Rattle.contract_join.specs.SectionFronts.{AreExact}
use Rattle.contract_join.specs.Join.{AreSums}
use Rattle.contract_join.proofs.Children.{AreSums-only}
use Rattle.contract_join.proofs.only_child.beyond_one.Goals as goal

pub fronts_beside-requires : goal.fronts_beside-requires
fronts_beside-requires c =
    let child = c.args.child.now in
    subst (λ (l : List (List Point)). AreSums c.args.net.now c.args.s l) (sym {A = List (List Point)} c.fronts.ensures.value)
    (AreSums-only c.args.net.now c.network_is_valid.ensures c.args.s child.section c.requires.section c.requires.only child.fronts
    (subst (λ (n : Network). AreExact n child.section child.fronts) c.requires.same_network c.fronts.ensures.exact))
