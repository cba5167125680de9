use Rattle.duct_units.specs.declared.side.Side.TheVariants.{Supply, Return}
use Rattle.pareto_front.specs.Front.{cheapest}
use Rattle.least_laws.specs.Choosing.{side_least}
use Rattle.expand_sizes.proofs.laws.choice_of_side_fronts_is_best.Goals as goal

pub returns : goal.returns
returns c =
    let net = c.args.net.now in
    let choice = c.args.choice.now in
    record {
      chosen =
          c.choice_depends_on_budgets_up_to_cap.ensures.chosen net (cheapest c.args.supply.now) (side_least net Supply)
          (cheapest c.args.back.now) (side_least net Return) c.requires.supply c.requires.back
          choice.fan choice.back choice.supply_budget choice.cost c.requires.choice.chosen;
      return_budget = c.requires.choice.return_budget;
    }
