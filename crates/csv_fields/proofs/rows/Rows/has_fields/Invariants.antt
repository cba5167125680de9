use Rattle.std.proofs.Common.{◌≡◌}
use Rattle.csv_fields.proofs.RowLaws.{fields_behind}
use Rattle.csv_fields.proofs.rows.Rows.has_fields.Given as goal

abbrev pub invariant-loop-i : goal.invariant-loop-i
invariant-loop-i l = fields_behind 0 l.fields l.self.row ≡ fields_behind l.i l.fields l.self.row
