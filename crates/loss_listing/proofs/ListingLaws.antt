-- How far a file of questions was answered.
use Rattle.std.proofs.Common.{◌≡◌, ℕ, List, [], ◌∷◌, ◌++◌, Ok, Some, true, false, refl, sym, ap, ◌∙◌, append_assoc, append-nil}
use Rattle.std.specs.Prelude.{codes}
use Rattle.file_definitions.specs.Rows.{Row, rows_of, has_fields}
use Rattle.csv_fields.specs.RowsLeft.{RowsLeft, IsNextRow, opened}
use Rattle.csv_fields.proofs.ReadingLaws.{opened_by}
use Rattle.loss_listing.specs.declared.answer.Answer.{Answer}
use Rattle.loss_listing.specs.declared.catalogues.Catalogues.{Catalogues}
use Rattle.loss_listing.specs.Answers.{answer_of}
use Rattle.loss_listing.specs.Listing.{line_of, lines_of, IsListing}

-- the header is row 1
pub header_first : (header : Row) (all : List Row) (rows : RowsLeft) → opened header all ≡ Ok rows → rows.number ≡ 1
header_first header [] rows e = cc e
header_first header (first ∷ left) rows e =
    elim (has_fields header first) as (λ b. opened_by b first left ≡ Ok rows → rows.number ≡ 1) [
      | true ↦ λ e.
          let at : record { number = 1; row = first; left = left } ≡ rows = cc in
          sym (ap (λ (r : RowsLeft). r.number) at)
      | false ↦ λ e. cc e
    ] e

-- the text has the lines of the rows up to the one at hand: with those of the rows that are left it has all
pub record IsAnsweredTo (catalogues : Catalogues) (bytes : List ℕ) (rows : RowsLeft) (text : List ℕ) : Type 0 where
  pub questions : RowsLeft
  pub opens : opened (codes "question" ∷ []) (rows_of bytes) ≡ Ok questions
  pub so_far : (rest : List ℕ) → lines_of catalogues rows.left ≡ Some rest → lines_of catalogues questions.left ≡ Some (text ++ rest)

pub starts : (catalogues : Catalogues) (bytes : List ℕ) (rows : RowsLeft) (text : List ℕ) → opened (codes "question" ∷ []) (rows_of bytes) ≡ Ok rows → text ≡ [] → IsAnsweredTo catalogues bytes rows text
starts catalogues bytes rows text opens none = record {
  questions = rows;
  opens = opens;
  so_far = λ rest e. e ∙ ap (λ (t : List ℕ). Some (t ++ rest)) (sym none);
}

-- one more answer
next_line : (catalogues : Catalogues) (row : Row) (left : List Row) (answer : Answer) (rest : List ℕ) → answer_of catalogues row ≡ Some answer → lines_of catalogues left ≡ Some rest
    → lines_of catalogues (row ∷ left) ≡ Some (line_of answer ++ rest)
next_line catalogues row left answer rest at e = rw (at, e) refl

pub goes_on : (catalogues : Catalogues) (bytes : List ℕ) (old new : RowsLeft) (text more : List ℕ) (answer : Answer) → IsAnsweredTo catalogues bytes old text → IsNextRow old new
    → answer_of catalogues new.row ≡ Some answer → more ≡ text ++ line_of answer → IsAnsweredTo catalogues bytes new more
goes_on catalogues bytes old new text more answer is next at grown = record {
  questions = is.questions;
  opens = is.opens;
  so_far = λ rest e.
      let here : lines_of catalogues old.left ≡ Some (line_of answer ++ rest) = ap (lines_of catalogues) next.next ∙ next_line catalogues new.row new.left answer rest at e in
      is.so_far (line_of answer ++ rest) here
      ∙ ap (λ (t : List ℕ). Some t) (sym (append_assoc text (line_of answer) rest))
      ∙ ap (λ (t : List ℕ). Some (t ++ rest)) (sym grown);
}

pub ends : (catalogues : Catalogues) (bytes : List ℕ) (rows : RowsLeft) (text : List ℕ) → IsAnsweredTo catalogues bytes rows text → rows.left ≡ [] → IsListing catalogues bytes text
ends catalogues bytes rows text is none = record {
  questions = is.questions;
  opens = is.opens;
  lines = is.so_far [] (ap (lines_of catalogues) none) ∙ ap (λ (t : List ℕ). Some t) (append-nil text);
}
