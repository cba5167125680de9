use Rattle.std.proofs.Common.{◌≡◌, ◌<◌, ◌≤◌, arith, subst, List, get_or}
use Rattle.pareto_front.specs.declared.point.Point.{Point}
use Rattle.pareto_front.specs.Front.{cheapest}
use Rattle.least_laws.specs.Least.{IsLeast}
use Rattle.duct_definitions.specs.Network.{columns, cap}
use Rattle.contract_join.specs.SectionFronts.{SectionData, front_of}
use Rattle.contract_join.proofs.Fronts.{front_of-read}
use Rattle.contract_join.proofs.section_fronts.SectionFronts.front.Goals as goal

pub returns-clause-least : goal.returns-clause-least
returns-clause-least c budget within =
    let own = c.self.inside in
    let front : List Point = c.index-as_slice-g.result in
    subst (λ (v : SectionData). c.args.g < columns v.net v.section → budget ≤ cap v.net → IsLeast v.net v.section c.args.g budget (cheapest front budget))
    c.self.view_is
    (λ beside in_cap.
    let count = c.self.invariant.count in
    let is : front_of own.fronts c.args.g ≡ front =
    front_of-read own.fronts c.args.g front (omega arith)
    (subst (λ (l : List (List Point)). front ≡ get_or l c.args.g front) c.as_slice.ensures c.index-as_slice-g.is) in
    subst (λ (f : List Point). IsLeast own.net.now own.section c.args.g budget (cheapest f budget)) is
    (c.self.invariant.exact c.args.g budget beside in_cap))
    c.requires within
