-- The lines of a listing.
--   line_of answer         the line of an answer
--   lines_of c rows        the line of each row's answer, one after the other; none where a row is no question
--   IsListing c bytes text the text has them for the rows of the bytes behind their header
use Rattle.std.specs.Prelude.{◌≡◌, ℕ, suc, List, [], ◌∷◌, ◌++◌, codes, pos, negsuc, true, false, Option, Some, Ok}
use Rattle.std.specs.Fmt.{decimal}
use Rattle.duct_units.specs.Lines.{line}
use Rattle.duct_units.specs.Options.{◌>>=◌}
use Rattle.file_definitions.specs.Rows.{Row, rows_of}
use Rattle.csv_fields.specs.RowsLeft.{RowsLeft, opened}
use Rattle.loss_listing.specs.declared.answer.Answer.{Answer}
use Rattle.loss_listing.specs.declared.answer.Answer.TheVariants.{Nothing, Amount, Signed, Truth}
use Rattle.loss_listing.specs.declared.catalogues.Catalogues.{Catalogues}
use Rattle.loss_listing.specs.Answers.{answer_of}

-- the line of an answer
abbrev pub line_of : Answer → List ℕ
line_of Nothing = line (codes "none") []
line_of (Amount number) = line (codes "is") (decimal number ∷ [])
line_of (Signed (pos number)) = line (codes "is") (decimal number ∷ [])
line_of (Signed (negsuc number)) = line (codes "below") (decimal (suc number) ∷ [])
line_of (Truth true) = line (codes "yes") []
line_of (Truth false) = line (codes "no") []

-- the line of each row's answer, one after the other; none where a row is no question
abbrev pub lines_of : Catalogues → List Row → Option (List ℕ)
lines_of catalogues [] = Some []
lines_of catalogues (row ∷ rows) = do
  answer ← answer_of catalogues row
  lines ← lines_of catalogues rows
  Some (line_of answer ++ lines)

-- the lines of the rows behind the header
pub record IsListing (catalogues : Catalogues) (bytes text : List ℕ) : Type 0 where
  pub questions : RowsLeft
  pub opens : opened (codes "question" ∷ []) (rows_of bytes) ≡ Ok questions
  pub lines : lines_of catalogues questions.left ≡ Some text
