use Rattle.std.proofs.Common.{arith, rules}
use Rattle.duct_units.specs.Rules.{Fails}
use Rattle.file_definitions.specs.Rows.{rows_of}
use Rattle.csv_fields.specs.RowsLeft.{IsNextRow}
use Rattle.csv_fields.proofs.ReadingLaws.{opened-refused, refused_row}
use Rattle.size_catalogue.specs.Reading.{sizes_form, sizes_of}
use Rattle.size_catalogue.proofs.CatalogueLaws.{few}
use Rattle.size_catalogue.proofs.ReadingLaws.{starts, goes_on}
use Rattle.size_catalogue.proofs.reading.read_sizes.Goals as goal

pub returns-in_err-rows : goal.returns-in_err-rows
returns-in_err-rows c =
    let fails : Fails c.in_err-rows.field-0.0 (sizes_of c.args.bytes.now) = opened-refused sizes_form (rows_of c.args.bytes.now) c.in_err-rows.field-0.0 c.in_err-rows.ensures in
    search rules

pub loop-sizes-init : goal.loop-sizes-init
loop-sizes-init c = starts c.args.bytes.now c.in_ok-rows.rows c.new-sizes.result c.in_ok-rows.ensures c.new-sizes.ensures.lists c.new-sizes.ensures.sizes

pub advance-requires : goal.advance-requires
advance-requires c = omega (arith, few c.loop-sizes.sizes c.loop-sizes.invariant.is, c.loop-sizes.invariant.count)

pub returns-in_err-sizes : goal.returns-in_err-sizes
returns-in_err-sizes c =
    let next : IsNextRow c.loop-sizes.rows c.advance.new.self = rw c.if-branch.true at c.in_ok-advance.ensures.row in
    let fails : Fails c.in_err-sizes.field-0.0 (sizes_of c.args.bytes.now) =
    refused_row sizes_form (rows_of c.args.bytes.now) c.loop-sizes.rows c.advance.new.self c.loop-sizes.sizes c.in_err-sizes.field-0.0 c.loop-sizes.invariant.read next c.in_err-sizes.ensures.takes in
    search rules

pub loop-sizes-preserved : goal.loop-sizes-preserved
loop-sizes-preserved c =
    let next : IsNextRow c.loop-sizes.rows c.advance.new.self = rw c.if-branch.true at c.in_ok-advance.ensures.row in
    goes_on c.args.bytes.now c.loop-sizes.rows c.advance.new.self c.loop-sizes.sizes c.in_ok-sizes.sizes c.loop-sizes.invariant next c.in_ok-sizes.ensures.takes c.in_ok-sizes.ensures.catalogue
