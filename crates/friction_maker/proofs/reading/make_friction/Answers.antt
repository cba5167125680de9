use Rattle.friction_maker.specs.Making.{air_of}
use Rattle.friction_maker.proofs.OrderLaws.{in_order, rows_made, of_sizes}
use Rattle.friction_maker.proofs.reading.make_friction.Goals as goal

pub returns-clause-order : goal.returns-clause-order
returns-clause-order c =
    in_order c.args.sizes.now (air_of c.args.density c.args.viscosity) c.in_ok-tables.tables c.in_ok-rows.field-0 c.in_ok-tables.ensures.made c.in_ok-rows.ensures

pub returns-clause-rates : goal.returns-clause-rates
returns-clause-rates c =
    rows_made c.args.sizes.now (air_of c.args.density c.args.viscosity) c.in_ok-tables.tables c.in_ok-rows.field-0 c.in_ok-tables.ensures.made c.in_ok-rows.ensures

pub returns-clause-sizes : goal.returns-clause-sizes
returns-clause-sizes c =
    of_sizes c.args.sizes.now (air_of c.args.density c.args.viscosity) c.in_ok-tables.tables c.in_ok-rows.field-0 c.in_ok-tables.ensures.made c.in_ok-rows.ensures
