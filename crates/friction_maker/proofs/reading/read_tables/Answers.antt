use Rattle.std.proofs.Common.{arith, rules}
use Rattle.duct_units.specs.Rules.{Fails}
use Rattle.file_definitions.specs.Rows.{rows_of}
use Rattle.csv_fields.specs.RowsLeft.{IsNextRow}
use Rattle.csv_fields.proofs.ReadingLaws.{opened-refused, refused_row}
use Rattle.friction_maker.specs.Making.{ducts_form, tables_of}
use Rattle.friction_maker.proofs.ReadingLaws.{starts, goes_on, number_most}
use Rattle.friction_maker.proofs.reading.read_tables.Goals as goal

pub returns-in_err-rows-clause-value : goal.returns-in_err-rows-clause-value
returns-in_err-rows-clause-value c =
    let fails : Fails c.in_err-rows.field-0.0 (tables_of c.args.sizes.now c.args.air c.args.bytes.now) =
    opened-refused (ducts_form c.args.sizes.now c.args.air) (rows_of c.args.bytes.now) c.in_err-rows.field-0.0 c.in_err-rows.ensures in
    search rules

pub loop-tables-init : goal.loop-tables-init
loop-tables-init c =
    starts c.args.sizes.now c.args.air c.args.bytes.now c.in_ok-rows.rows c.in_ok-tables.tables c.len.result c.in_ok-rows.ensures c.in_ok-tables.ensures c.len.ensures.value c.len.ensures.most

pub advance-requires : goal.advance-requires
advance-requires c = omega (arith, number_most _ _ _ _ _ c.loop-tables.invariant)

pub returns-in_err-tables-2-clause-value : goal.returns-in_err-tables-2-clause-value
returns-in_err-tables-2-clause-value c =
    let next : IsNextRow c.loop-tables.rows c.advance.new.self = rw c.if-branch.true at c.in_ok-advance.ensures.row in
    let fails : Fails c.in_err-tables-2.field-0.0 (tables_of c.args.sizes.now c.args.air c.args.bytes.now) =
    refused_row (ducts_form c.args.sizes.now c.args.air) (rows_of c.args.bytes.now) c.loop-tables.rows c.advance.new.self c.loop-tables.tables c.in_err-tables-2.field-0.0
    c.loop-tables.invariant.read next c.in_err-tables-2.ensures.takes in
    search rules

pub loop-tables-preserved : goal.loop-tables-preserved
loop-tables-preserved c =
    let next : IsNextRow c.loop-tables.rows c.advance.new.self = rw c.if-branch.true at c.in_ok-advance.ensures.row in
    goes_on c.args.sizes.now c.args.air c.args.bytes.now c.loop-tables.rows c.advance.new.self c.loop-tables.tables c.in_ok-tables-2.tables
    c.loop-tables.invariant next c.in_ok-tables-2.ensures.takes c.in_ok-tables-2.ensures.made c.in_ok-tables-2.ensures.grows

pub missing-requires : goal.missing-requires
missing-requires c = omega (arith, c.loop-tables.invariant.made.all, c.loop-tables.invariant.most)
