use Rattle.std.proofs.Common.{arith}
use Rattle.std.proofs.lemmas.Bool.{and_parts}
use Rattle.design_check.specs.Verdicts.{fan_agrees}
use Rattle.duct_definitions.specs.DesignText.{first_fan}
use Rattle.design_check.proofs.FanLaws.{listed_cost_le}
use Rattle.design_check.proofs.cost.fans_cost.Goals as goal

pub overflow_add-result : goal.overflow_add-result
overflow_add-result c =
    omega (arith, listed_cost_le c.args.net.now.fans (first_fan c.args.listed.now) c.network_is_valid.ensures.fans (and_parts (fan_agrees c.args.net.now.fans (first_fan c.args.listed.now)) _ c.requires.fans).0, c.return_fan_cost.ensures.bound)

pub returns-clause-bound : goal.returns-clause-bound
returns-clause-bound c =
    omega (arith, listed_cost_le c.args.net.now.fans (first_fan c.args.listed.now) c.network_is_valid.ensures.fans (and_parts (fan_agrees c.args.net.now.fans (first_fan c.args.listed.now)) _ c.requires.fans).0, c.return_fan_cost.ensures.bound)
