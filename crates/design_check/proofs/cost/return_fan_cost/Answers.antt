use Rattle.std.proofs.Common.{sym, ap, ◌∙◌, Option}
use Rattle.std.proofs.lemmas.Bool.{and_parts}
use Rattle.duct_definitions.specs.declared.listed.ListedFan.{ListedFan}
use Rattle.design_check.specs.Verdicts.{back_agrees}
use Rattle.design_check.proofs.FanLaws.{listed_cost_le}
use Rattle.design_check.proofs.cost.return_fan_cost.Goals as goal

pub returns-in-Some-clause-bound : goal.returns-in-Some-clause-bound
returns-in-Some-clause-bound c = listed_cost_le c.args.net.now.return_fans c.in-Some.fan c.network_is_valid.ensures.return_fans
    (ap (λ (o : Option ListedFan). back_agrees c.args.net.now.return_fans o) (sym c.in-Some.is) ∙ (and_parts _ (back_agrees c.args.net.now.return_fans c.args.listed.now.back) c.requires.fans).1)
