-- What reading comes to, row by row.
use Rattle.std.proofs.Common.{◌≡◌, ℕ, ◌+◌, List, ◌∷◌, ◌++◌, Bool, true, false, cond, Option, Some, None, Err, refl, ap, ◌∙◌, append_assoc, length}
use Rattle.std.specs.Prelude.{◌==◌, is_some}
use Rattle.duct_units.specs.Rules.{first_broken, or_else, unless_refused, row_fault}
use Rattle.duct_units.proofs.RuleLaws.{first_broken-append}
use Rattle.duct_units.specs.declared.fault.Fault.{Fault}
use Rattle.duct_units.specs.declared.fault.Reason.TheVariants.{Header, Columns, Field}
use Rattle.file_definitions.specs.Rows.{Row, RowForm, has_fields, row_rules, rules_from, said_from, reading, reading_from, with_row, own_rules}

-- the rules of the first row, and then the others
row_first : {S A : Type 0} (form : RowForm S A) (n : ℕ) (s : S) (row : Row) (rows : List Row)
    → first_broken (rules_from form n s (row ∷ rows) ++ form.last (said_from form s (row ∷ rows)))
    ≡ or_else (first_broken (row_rules form n s row)) (first_broken (rules_from form (n + 1) (with_row form s (form.item row)) rows ++ form.last (said_from form (with_row form s (form.item row)) rows)))
row_first form n s row rows =
    let now = row_rules form n s row in
    let later = rules_from form (n + 1) (with_row form s (form.item row)) rows in
    let last = form.last (said_from form (with_row form s (form.item row)) rows) in
    ap first_broken (append_assoc now later last) ∙ first_broken-append now (later ++ last)

-- where the row breaks no rule, reading goes on behind it
pub reading-past : {S A : Type 0} (form : RowForm S A) (n : ℕ) (s : S) (row : Row) (rows : List Row)
    → first_broken (row_rules form n s row) ≡ None
    → reading_from form n s (row ∷ rows) ≡ reading_from form (n + 1) (with_row form s (form.item row)) rows
reading-past {S} form n s row rows none =
    let now = row_rules form n s row in
    let rest = first_broken (rules_from form (n + 1) (with_row form s (form.item row)) rows ++ form.last (said_from form (with_row form s (form.item row)) rows)) in
    ap (λ (o : Option Fault). unless_refused {Y = S} o (said_from form s (row ∷ rows))) (row_first form n s row rows ∙ ap (λ (o : Option Fault). or_else o rest) none)

-- and where it breaks one, its first is the refusal
pub reading-here : {S A : Type 0} (form : RowForm S A) (n : ℕ) (s : S) (row : Row) (rows : List Row) (fault : Fault)
    → first_broken (row_rules form n s row) ≡ Some fault
    → reading_from form n s (row ∷ rows) ≡ Err fault
reading-here {S} form n s row rows fault some =
    let rest = first_broken (rules_from form (n + 1) (with_row form s (form.item row)) rows ++ form.last (said_from form (with_row form s (form.item row)) rows)) in
    ap (λ (o : Option Fault). unless_refused {Y = S} o (said_from form s (row ∷ rows))) (row_first form n s row rows ∙ ap (λ (o : Option Fault). or_else o rest) some)

-- behind the header, reading goes on from row 2
pub reading-header : {S A : Type 0} (form : RowForm S A) (first : Row) (rows : List Row)
    → has_fields form.header first ≡ true → reading form (first ∷ rows) ≡ reading_from form 2 form.empty rows
reading-header {S} form first rows e =
    let rest = first_broken (rules_from form 2 form.empty rows ++ form.last (said_from form form.empty rows)) in
    ap (λ (b : Bool). unless_refused {Y = S} (cond b rest (Some (row_fault 1 Header))) (said_from form form.empty rows)) e

-- another first row is refused
pub reading-other : {S A : Type 0} (form : RowForm S A) (first : Row) (rows : List Row)
    → has_fields form.header first ≡ false → reading form (first ∷ rows) ≡ Err (row_fault 1 Header)
reading-other {S} form first rows e =
    let rest = first_broken (rules_from form 2 form.empty rows ++ form.last (said_from form form.empty rows)) in
    ap (λ (b : Bool). unless_refused {Y = S} (cond b rest (Some (row_fault 1 Header))) (said_from form form.empty rows)) e

-- a row that breaks no rule says something
pub taken_item : {S A : Type 0} (form : RowForm S A) (n : ℕ) (s : S) (row : Row) → first_broken (row_rules form n s row) ≡ None → (item : A) × (form.item row ≡ Some item)
taken_item {S} {A} form n s row none =
    elim (length row == length form.header) as (λ b. cond b (cond (is_some (form.item row)) (first_broken (own_rules form n s (form.item row))) (Some (row_fault n Field))) (Some (row_fault n Columns)) ≡ None → (item : A) × (form.item row ≡ Some item)) [
      | true ↦ λ e. found (form.item row) refl e
      | false ↦ λ e. cc e
    ] none
  where
    found : (item : Option A) → form.item row ≡ item → cond (is_some item) (first_broken (own_rules form n s item)) (Some (row_fault n Field)) ≡ None → (a : A) × (form.item row ≡ Some a)
    found None is e = cc e
    found (Some a) is e = (a, is)
