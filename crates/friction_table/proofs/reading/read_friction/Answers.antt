use Rattle.std.proofs.Common.{arith, rules, sym}
use Rattle.duct_units.specs.Rules.{Fails}
use Rattle.file_definitions.specs.Rows.{rows_of}
use Rattle.csv_fields.specs.RowsLeft.{IsNextRow}
use Rattle.csv_fields.proofs.ReadingLaws.{opened-refused, refused_row}
use Rattle.friction_table.specs.Reading.{friction_form, friction_of}
use Rattle.friction_table.proofs.ReadingLaws.{starts, goes_on, number_most}
use Rattle.friction_table.proofs.TableLaws.{each_has_a_row}
use Rattle.friction_table.proofs.reading.read_friction.Goals as goal

pub returns-in_err-rows-clause-value : goal.returns-in_err-rows-clause-value
returns-in_err-rows-clause-value c =
    let fails : Fails c.in_err-rows.field-0.0 (friction_of c.args.sizes.now c.args.bytes.now) =
    opened-refused (friction_form c.args.sizes.now) (rows_of c.args.bytes.now) c.in_err-rows.field-0.0 c.in_err-rows.ensures in
    search rules

pub loop-friction-init : goal.loop-friction-init
loop-friction-init c =
    starts c.args.sizes.now c.args.bytes.now c.in_ok-rows.rows c.in_ok-friction.friction c.len.result c.in_ok-rows.ensures c.in_ok-friction.ensures c.len.ensures.value c.len.ensures.most

pub advance-requires : goal.advance-requires
advance-requires c = omega (arith, number_most _ _ _ _ c.loop-friction.invariant)

pub returns-in_err-friction-2-clause-value : goal.returns-in_err-friction-2-clause-value
returns-in_err-friction-2-clause-value c =
    let next : IsNextRow c.loop-friction.rows c.advance.new.self = rw c.if-branch.true at c.in_ok-advance.ensures.row in
    let fails : Fails c.in_err-friction-2.field-0.0 (friction_of c.args.sizes.now c.args.bytes.now) =
    refused_row (friction_form c.args.sizes.now) (rows_of c.args.bytes.now) c.loop-friction.rows c.advance.new.self c.loop-friction.friction c.in_err-friction-2.field-0.0
    c.loop-friction.invariant.read next c.in_err-friction-2.ensures.takes in
    search rules

pub loop-friction-preserved : goal.loop-friction-preserved
loop-friction-preserved c =
    let next : IsNextRow c.loop-friction.rows c.advance.new.self = rw c.if-branch.true at c.in_ok-advance.ensures.row in
    goes_on c.args.sizes.now c.args.bytes.now c.loop-friction.rows c.advance.new.self c.loop-friction.friction c.in_ok-friction-2.friction
    c.loop-friction.invariant next c.in_ok-friction-2.ensures.takes c.in_ok-friction-2.ensures.adds

pub missing-requires : goal.missing-requires
missing-requires c = omega (arith, c.loop-friction.invariant.tables, c.loop-friction.invariant.most)

pub returns-clause-rows : goal.returns-clause-rows
returns-clause-rows c = each_has_a_row 1 c.loop-friction.friction (sym c.in-None.ensures)
