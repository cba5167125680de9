-- How far a file was read, row by row.
use Rattle.std.proofs.Common.{◌≡◌, ℕ, ◌+◌, List, [], ◌∷◌, Bool, true, false, cond, Result, Ok, Err, refl, sym, ap, ◌∙◌, subst}
use Rattle.duct_units.specs.Rules.{Fails, first_broken, unless_refused, row_fault}
use Rattle.duct_units.specs.declared.fault.Fault.{Fault}
use Rattle.duct_units.specs.declared.fault.Reason.TheVariants.{Header}
use Rattle.duct_units.specs.declared.fault.ReadError.{ReadError}
use Rattle.duct_units.specs.declared.fault.ReadError.TheVariants.{Refused, NoMemory}
use Rattle.file_definitions.specs.Rows.{Row, RowForm, has_fields, reading, reading_from, TakesRow}
use Rattle.file_definitions.proofs.RowLaws.{reading-past, reading-here, reading-header, reading-other}
use Rattle.csv_fields.specs.RowsLeft.{RowsLeft, IsNextRow, opened}

-- the rows up to the one at hand said s, and reading goes on with those that are left
abbrev pub IsReadTo : {S A : Type 0} → RowForm S A → List Row → RowsLeft → S → Type 0
IsReadTo form all rows s = reading_from form (rows.number + 1) s rows.left ≡ reading form all

-- ---- the header

same_fault : {A B : Type 0} (fault other : Fault) → ◌≡◌ {A = Result A Fault} (Err fault) (Err other) → ◌≡◌ {A = Result B Fault} (Err fault) (Err other)
same_fault {A} {B} fault other e = let same : fault ≡ other = cc in subst (λ (f : Fault). ◌≡◌ {A = Result B Fault} (Err fault) (Err f)) same refl

-- the rows behind the first, by whether it is the header
abbrev pub opened_by : Bool → Row → List Row → Result RowsLeft Fault
opened_by is_header first rows = cond is_header (Ok (record { number = 1; row = first; left = rows })) (Err (row_fault 1 Header))

-- a file whose header is refused is refused so
pub opened-refused : {S A : Type 0} (form : RowForm S A) (all : List Row) (error : ReadError) → Fails error (opened form.header all) → Fails error (reading form all)
opened-refused form all NoMemory fails = tt
opened-refused {S} form [] (Refused fault) fails = same_fault {A = RowsLeft} {B = S} _ _ fails
opened-refused {S} form (first ∷ rows) (Refused fault) fails =
    elim (has_fields form.header first) as (λ b. has_fields form.header first ≡ b
    → opened_by b first rows ≡ Err fault → reading form (first ∷ rows) ≡ Err fault) [
      | true ↦ λ same e. cc e
      | false ↦ λ other e. reading-other form first rows other ∙ same_fault {A = RowsLeft} {B = S} _ _ e
    ] refl fails

-- behind the header nothing is said yet
pub opened-read : {S A : Type 0} (form : RowForm S A) (all : List Row) (rows : RowsLeft) → opened form.header all ≡ Ok rows → IsReadTo form all rows form.empty × (rows.number ≡ 1)
opened-read form [] rows e = cc e
opened-read form (first ∷ left) rows e =
    elim (has_fields form.header first) as (λ b. has_fields form.header first ≡ b
    → opened_by b first left ≡ Ok rows → IsReadTo form (first ∷ left) rows form.empty × (rows.number ≡ 1)) [
      | true ↦ λ same e.
          let at : record { number = 1; row = first; left = left } ≡ rows = cc in
          subst (λ (r : RowsLeft). IsReadTo form (first ∷ left) r form.empty × (r.number ≡ 1)) at (sym (reading-header form first left same), refl)
      | false ↦ λ other e. cc e
    ] refl e

-- ---- a row

next_left : {S A : Type 0} (form : RowForm S A) (all : List Row) (old new : RowsLeft) (s : S) → IsReadTo form all old s → IsNextRow old new
    → reading_from form new.number s (new.row ∷ new.left) ≡ reading form all
next_left form all old new s read next =
    ap (λ (n : ℕ). reading_from form n s (new.row ∷ new.left)) next.counted ∙ ap (reading_from form (old.number + 1) s) (sym next.next) ∙ read

-- a row that was taken is read
pub read_row : {S A : Type 0} (form : RowForm S A) (all : List Row) (old new : RowsLeft) (s more : S) → IsReadTo form all old s → IsNextRow old new
    → TakesRow form new.number s new.row (Ok more) → IsReadTo form all new more
read_row form all old new s more read next takes =
    ap (λ t. reading_from form (new.number + 1) t new.left) takes.1
    ∙ sym (reading-past form new.number s new.row new.left takes.0)
    ∙ next_left form all old new s read next

-- a row that is refused refuses the file
pub refused_row : {S A : Type 0} (form : RowForm S A) (all : List Row) (old new : RowsLeft) (s : S) (error : ReadError) → IsReadTo form all old s → IsNextRow old new
    → TakesRow form new.number s new.row (Err error) → Fails error (reading form all)
refused_row form all old new s NoMemory read next takes = tt
refused_row form all old new s (Refused fault) read next takes =
    sym (next_left form all old new s read next) ∙ reading-here form new.number s new.row new.left fault takes

-- behind the last row the file says what its rows said, unless its last rules refuse them
pub read_all : {S A : Type 0} (form : RowForm S A) (all : List Row) (rows : RowsLeft) (s : S) → IsReadTo form all rows s → rows.left ≡ []
    → reading form all ≡ unless_refused (first_broken (form.last s)) s
read_all form all rows s read end = sym read ∙ ap (reading_from form (rows.number + 1) s) end
