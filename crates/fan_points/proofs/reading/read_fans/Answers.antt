use Rattle.std.proofs.Common.{arith, rules}
use Rattle.duct_units.specs.Rules.{Fails}
use Rattle.file_definitions.specs.Rows.{rows_of}
use Rattle.csv_fields.specs.RowsLeft.{IsNextRow}
use Rattle.csv_fields.proofs.ReadingLaws.{opened-refused, refused_row}
use Rattle.fan_points.specs.Reading.{fans_form, fans_of}
use Rattle.fan_points.proofs.ReadingLaws.{starts, goes_on}
use Rattle.fan_points.proofs.reading.read_fans.Goals as goal

pub returns-in_err-rows : goal.returns-in_err-rows
returns-in_err-rows c =
    let fails : Fails c.in_err-rows.field-0.0 (fans_of c.args.bytes.now) = opened-refused fans_form (rows_of c.args.bytes.now) c.in_err-rows.field-0.0 c.in_err-rows.ensures in
    search rules

pub loop-fans-init : goal.loop-fans-init
loop-fans-init c = starts c.args.bytes.now c.in_ok-rows.rows c.new-fans.result c.in_ok-rows.ensures c.new-fans.ensures

pub advance-requires : goal.advance-requires
advance-requires c = omega (arith, c.loop-fans.invariant.is.few, c.loop-fans.invariant.count)

pub returns-in_err-fans : goal.returns-in_err-fans
returns-in_err-fans c =
    let next : IsNextRow c.loop-fans.rows c.advance.new.self = rw c.if-branch.true at c.in_ok-advance.ensures.row in
    let fails : Fails c.in_err-fans.field-0.0 (fans_of c.args.bytes.now) =
    refused_row fans_form (rows_of c.args.bytes.now) c.loop-fans.rows c.advance.new.self c.loop-fans.fans c.in_err-fans.field-0.0 c.loop-fans.invariant.read next c.in_err-fans.ensures.takes in
    search rules

pub loop-fans-preserved : goal.loop-fans-preserved
loop-fans-preserved c =
    let next : IsNextRow c.loop-fans.rows c.advance.new.self = rw c.if-branch.true at c.in_ok-advance.ensures.row in
    goes_on c.args.bytes.now c.loop-fans.rows c.advance.new.self c.loop-fans.fans c.in_ok-fans.fans c.loop-fans.invariant next c.in_ok-fans.ensures.takes c.in_ok-fans.ensures.fans
