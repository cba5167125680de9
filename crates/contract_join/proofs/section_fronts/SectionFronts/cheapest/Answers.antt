use Rattle.std.proofs.Common.{◌≤◌, ◌*◌, arith, sym, subst}
use Rattle.std.specs.Prelude.{IfSome}
use Rattle.std.proofs.lemmas.Option.{IfSome_then}
use Rattle.contract_join.specs.SectionFronts.{SectionData, most_beyond}
use Rattle.duct_definitions.specs.declared.limits.TheConstants.{MAX_SECTIONS, MAX_PRICE}
use Rattle.contract_join.proofs.Fronts.{cheapest-most, most_beyond-le}
use Rattle.contract_join.proofs.section_fronts.SectionFronts.cheapest.Goals as goal

pub returns-clause-bounds : goal.returns-clause-bounds
returns-clause-bounds c =
    subst (λ o. IfSome o (λ cost. cost ≤ most_beyond c.args.self.now.net)) (sym c.cheapest.ensures.value)
    (cheapest-most c.front.result.now c.args.budget (most_beyond c.args.self.now.net) c.front.ensures.costs)

pub returns-clause-below : goal.returns-clause-below
returns-clause-below c =
    let most : most_beyond c.args.self.now.net ≤ MAX_SECTIONS * MAX_PRICE =
    subst (λ (v : SectionData). most_beyond v.net ≤ MAX_SECTIONS * MAX_PRICE) c.self.view_is
    (most_beyond-le c.self.inside.net.now c.network_is_valid.ensures.tree) in
    IfSome_then c.cheapest.result (returns-clause-bounds c) (λ cost low. omega arith)
