use Rattle.std.proofs.Common.{◌≡◌, ◌+◌, ◌∙◌, [], ◌∷◌, ap, sym, cond, refl, subst}
use Rattle.std.specs.Bool.{MatchBool}
use Rattle.csv.specs.Records.{fields_of}
use Rattle.csv_fields.specs.RowsLeft.{RowsLeft, IsNextRow, HasEnded}
use Rattle.csv_fields.specs.ReaderRows.{left_of}
use Rattle.csv_fields.proofs.RowLaws.{row_found, row_missing, still_left}
use Rattle.csv_fields.proofs.rows.Rows.advance.Goals as goal

pub returns-then-found-clause-row : goal.returns-then-found-clause-row
returns-then-found-clause-row c =
    let new : RowsLeft = record { number = c.self.inside.number + 1; row = fields_of c.read_byte_record.new.row; left = cond c.self.inside.ended [] (left_of c.read_byte_record.new.self) } in
    let left = row_found c.self.inside.reader c.read_byte_record.new.self (fields_of c.read_byte_record.new.row) c.in-Ok.found c.if-found.true c.self.invariant
    (λ failed. cc (c.in-Ok.ensures.failed failed))
    (λ plain. c.in-Ok.ensures.reads plain.trim plain.ready) in
    subst (λ (old : RowsLeft). MatchBool c.in-Ok.found (IsNextRow old new) ((old.left ≡ []) × HasEnded old new)) c.self.view_is
    (rw c.if-found.true (record { next = still_left _ _ c.if-self.false ∙ left ∙ ap (λ rows. fields_of c.read_byte_record.new.row ∷ rows) (sym (still_left _ _ c.if-self.false)); counted = refl }))

pub returns-else-found-clause-row : goal.returns-else-found-clause-row
returns-else-found-clause-row c =
    let new : RowsLeft = record { number = c.self.inside.number; row = fields_of c.read_byte_record.new.row; left = [] } in
    let left = row_missing c.self.inside.reader c.read_byte_record.new.self (fields_of c.read_byte_record.new.row) c.in-Ok.found c.if-found.false c.self.invariant
    (λ plain. c.in-Ok.ensures.reads plain.trim plain.ready) in
    subst (λ (old : RowsLeft). MatchBool c.in-Ok.found (IsNextRow old new) ((old.left ≡ []) × HasEnded old new)) c.self.view_is
    (rw c.if-found.false (still_left _ _ c.if-self.false ∙ left, record { left = refl; number = refl }))
