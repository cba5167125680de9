use Rattle.friction_maker.proofs.TableLaws.{answer_made}
use Rattle.friction_maker.proofs.making.table_for.Goals as goal

pub returns-clause-made : goal.returns-clause-made
returns-clause-made c =
    (answer_made c.made_table.result c.args.sizes.now c.args.air c.args.size c.args.row.now c.duct_of-duct.result c.duct_of-duct.ensures.value c.duct_of-duct.ensures.bounds
    c.requires.air c.requires.row c.requires.flow c.made_table.ensures).0

pub returns-clause-rows : goal.returns-clause-rows
returns-clause-rows c =
    (answer_made c.made_table.result c.args.sizes.now c.args.air c.args.size c.args.row.now c.duct_of-duct.result c.duct_of-duct.ensures.value c.duct_of-duct.ensures.bounds
    c.requires.air c.requires.row c.requires.flow c.made_table.ensures).1
