use Rattle.std.proofs.Common.{◌∙◌, sym}
use Rattle.duct_units.specs.declared.side.Side.TheVariants.{Supply, Return}
use Rattle.pareto_front.specs.Front.{cheapest}
use Rattle.least_laws.specs.Choosing.{side_least}
use Rattle.expand_sizes.specs.BestChoice.{NoneHasCost}
use Rattle.expand_sizes.proofs.laws.nothing_priced_is_no_design.Goals as goal

pub returns-clause-cost : goal.returns-clause-cost
returns-clause-cost c fan own budget offered =
    let net = c.args.net.now in
    sym (c.choice_depends_on_budgets_up_to_cap.ensures.cost net (cheapest c.args.supply.now) (side_least net Supply)
    (cheapest c.args.back.now) (side_least net Return) c.requires.supply c.requires.back fan own budget offered)
    ∙ c.requires.unpriced fan own budget offered

pub returns-clause-design : goal.returns-clause-design
returns-clause-design c =
    c.no_cost_no_design.ensures c.args.net.now c.network_is_valid.ensures.tree (returns-clause-cost c)
