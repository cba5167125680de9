use Rattle.std.proofs.Common.{arith, rules, sym}
use Rattle.duct_units.specs.Rules.{Fails}
use Rattle.file_definitions.specs.Rows.{rows_of}
use Rattle.csv_fields.specs.RowsLeft.{IsNextRow}
use Rattle.csv_fields.proofs.ReadingLaws.{opened-refused, refused_row}
use Rattle.fitting_tables.specs.Reading.{fittings_form, fittings_of}
use Rattle.fitting_tables.proofs.ReadingLaws.{starts, goes_on, number_most}
use Rattle.fitting_tables.proofs.FittingsLaws.{each_is_full}
use Rattle.fitting_tables.proofs.reading.read_fittings.Goals as goal

pub returns-in_err-rows-clause-value : goal.returns-in_err-rows-clause-value
returns-in_err-rows-clause-value c =
    let fails : Fails c.in_err-rows.field-0.0 (fittings_of c.args.bytes.now) = opened-refused fittings_form (rows_of c.args.bytes.now) c.in_err-rows.field-0.0 c.in_err-rows.ensures in
    search rules

pub loop-fittings-init : goal.loop-fittings-init
loop-fittings-init c = starts c.args.bytes.now c.in_ok-rows.rows c.new-fittings.result c.in_ok-rows.ensures c.new-fittings.ensures.names c.new-fittings.ensures.grids

pub advance-requires : goal.advance-requires
advance-requires c = omega (arith, number_most _ _ _ c.loop-fittings.invariant)

pub returns-in_err-fittings-clause-value : goal.returns-in_err-fittings-clause-value
returns-in_err-fittings-clause-value c =
    let next : IsNextRow c.loop-fittings.rows c.advance.new.self = rw c.if-branch.true at c.in_ok-advance.ensures.row in
    let fails : Fails c.in_err-fittings.field-0.0 (fittings_of c.args.bytes.now) =
    refused_row fittings_form (rows_of c.args.bytes.now) c.loop-fittings.rows c.advance.new.self c.loop-fittings.fittings c.in_err-fittings.field-0.0
    c.loop-fittings.invariant.read next c.in_err-fittings.ensures.takes in
    search rules

pub loop-fittings-preserved : goal.loop-fittings-preserved
loop-fittings-preserved c =
    let next : IsNextRow c.loop-fittings.rows c.advance.new.self = rw c.if-branch.true at c.in_ok-advance.ensures.row in
    goes_on c.args.bytes.now c.loop-fittings.rows c.advance.new.self c.loop-fittings.fittings c.in_ok-fittings.fittings
    c.loop-fittings.invariant next c.in_ok-fittings.ensures.takes c.in_ok-fittings.ensures.adds

pub returns-clause-full : goal.returns-clause-full
returns-clause-full c = each_is_full 1 c.loop-fittings.fittings.grids (sym c.in-None.ensures)
