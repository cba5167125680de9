use Rattle.std.proofs.Common.{◌≡◌, ◌*◌, refl, arith}
use Rattle.std.specs.Int.{div_ceil}
use Rattle.fan_points.specs.declared.limits.TheConstants.{ENERGY_UNITS}
use Rattle.fan_points.specs.Energy.{energy_product}
use Rattle.fan_points.proofs.EnergyLaws.{cost_is, cost_most, product_most}
use Rattle.fan_points.proofs.cost.energy.Goals as goal

pub overflow_mul-yearly-3 : goal.overflow_mul-yearly-3
overflow_mul-yearly-3 c =
    let most = product_most c.args.fan.now.watts c.args.terms.now.hours c.args.terms.now.tariff c.args.terms.now.worth c.requires.fan.watts c.requires.terms.hours c.requires.terms.tariff c.requires.terms.worth in
    let same : c.from.result * c.from-2.result * c.from-3.result * c.from-4.result ≡ energy_product c.args.fan.now.watts c.args.terms.now.hours c.args.terms.now.tariff c.args.terms.now.worth =
    rw (c.from.ensures, c.from-2.ensures, c.from-3.ensures, c.from-4.ensures) refl in
    omega (arith, most, same)

pub returns-clause-most : goal.returns-clause-most
returns-clause-most c =
    let most = product_most c.args.fan.now.watts c.args.terms.now.hours c.args.terms.now.tariff c.args.terms.now.worth c.requires.fan.watts c.requires.terms.hours c.requires.terms.tariff c.requires.terms.worth in
    let is : c.div_ceil.result ≡ div_ceil (energy_product c.args.fan.now.watts c.args.terms.now.hours c.args.terms.now.tariff c.args.terms.now.worth) ENERGY_UNITS =
    rw (c.from.ensures, c.from-2.ensures, c.from-3.ensures, c.from-4.ensures, c.from-5.ensures) at c.div_ceil.ensures in
    cost_most c.args.fan.now.watts c.args.terms.now.hours c.args.terms.now.tariff c.args.terms.now.worth c.div_ceil.result most (cost_is c.args.fan.now.watts c.args.terms.now.hours c.args.terms.now.tariff c.args.terms.now.worth c.div_ceil.result is)

pub overflow_cast-result : goal.overflow_cast-result
overflow_cast-result c = omega (arith, returns-clause-most c)

pub returns-clause-fan_cost : goal.returns-clause-fan_cost
returns-clause-fan_cost c = omega (arith, returns-clause-most c, c.requires.fan.price)
