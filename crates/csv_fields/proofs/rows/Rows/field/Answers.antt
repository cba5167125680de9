use Rattle.std.proofs.Common.{◌∙◌, ap, slice_get}
use Rattle.csv_fields.specs.RowsLeft.{RowsLeft}
use Rattle.csv_fields.proofs.RowLaws.{field_at-slice_get}
use Rattle.csv_fields.proofs.rows.Rows.field.Goals as goal

pub returns : goal.returns
returns c = c.get.ensures.value ∙ field_at-slice_get _ _ ∙ ap (λ (rows : RowsLeft). slice_get rows.row c.args.i) c.self.view_is
