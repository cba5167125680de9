-- The rows of a CSV file, and the rules over them.
--   rows_of bytes          the records of the bytes; a byte order mark before them is skipped
--   name_field row i       the field at place i, from 0, where it is a name
--   number_field row i ..  the number that the field at place i spells, where it lies within its bounds
--   RowForm S A            what a kind of file asks of its rows: A is what one row says, and S what rows together say
--   reading form rows      what the rows say, or the fault of the first rule that is broken
--   reading_from form n s rows   the same from the n-th row on, after rows that said s
use Rattle.std.specs.Prelude.{◌≡◌, ℕ, ◌+◌, ◌==◌, Bool, false, List, [], ◌∷◌, ◌++◌, length, ℤ, pos, unsigned_abs, Option, Some, None, option_and_then, option_map, is_some, slice_get, Result, Ok, Err}
use Rattle.std.specs.Option.{option_map_or}
use Rattle.std.specs.Cmp.Lexicographic.{pointwise}
use Rattle.std.specs.Str.{bytes_eq}
use Rattle.csv.specs.Reading.{default_config, records, strip_bom}
use Rattle.duct_units.specs.Name.{name_of}
use Rattle.duct_units.specs.Whole.{whole_of}
use Rattle.duct_units.specs.Rules.{Rule, first_broken, unless_refused, row_fault, at_row}
use Rattle.duct_units.specs.declared.fault.Fault.{Fault}
use Rattle.duct_units.specs.declared.fault.Reason.{Reason}
use Rattle.duct_units.specs.declared.fault.Reason.TheVariants.{Header, Columns, Field}
use Rattle.duct_units.specs.declared.fault.ReadError.{ReadError}
use Rattle.duct_units.specs.declared.fault.ReadError.TheVariants.{Refused, NoMemory}

-- the fields of a row, each of any bytes
abbrev pub Row : Type 0
Row = List (List ℕ)

-- the records of the bytes; an empty line is no row
abbrev pub rows_of : List ℕ → List Row
rows_of bytes = records default_config (strip_bom bytes)

-- ---- fields

-- the field at place i, from 0, where it is a name
abbrev pub name_field : Row → ℕ → Option (List ℕ)
name_field row i = option_and_then name_of (slice_get row i)

-- the whole number that the field at place i spells, where it lies from low to high
abbrev pub integer_field : Row → ℕ → ℤ → ℤ → Option ℤ
integer_field row i low high = option_and_then (λ field. whole_of field low high) (slice_get row i)

-- the same of a number that is not below 0
abbrev pub number_field : Row → ℕ → ℕ → ℕ → Option ℕ
number_field row i low high = option_map unsigned_abs (integer_field row i (pos low) (pos high))

-- the field at place i has these bytes
abbrev pub has_field : List ℕ → ℕ → Row → Bool
has_field bytes i row = option_map_or (λ field. bytes_eq field bytes) (slice_get row i) false

-- the row has these fields, and no other
abbrev pub has_fields : Row → Row → Bool
has_fields fields row = pointwise bytes_eq row fields

-- ---- rules

-- what a kind of file asks of its rows
pub record RowForm (S A : Type 0) : Type 0 where
  -- the first row
  pub header : Row
  -- what a later row says, where each of its fields has its form and lies within its bound
  pub item : Row → Option A
  -- what no row says
  pub empty : S
  -- what the rows say with one more
  pub with_item : S → A → S
  -- the file's own rules of the n-th row
  pub own : ℕ → S → A → List Rule
  -- the file's rules after all rows
  pub last : S → List Rule

-- the file's own rules stand behind those on the fields
abbrev pub own_rules : {S A : Type 0} → RowForm S A → ℕ → S → Option A → List Rule
own_rules form n s None = []
own_rules form n s (Some item) = form.own n s item

-- the rules of the n-th row after rows that said s
abbrev pub row_rules : {S A : Type 0} → RowForm S A → ℕ → S → Row → List Rule
row_rules form n s row =
    at_row n (length row == length form.header) Columns
    ∷ at_row n (is_some (form.item row)) Field
    ∷ own_rules form n s (form.item row)

-- what rows say with one more; a row without an item adds nothing
abbrev pub with_row : {S A : Type 0} → RowForm S A → S → Option A → S
with_row form s None = s
with_row form s (Some item) = form.with_item s item

-- the rules of the rows from the n-th on, after rows that said s
abbrev pub rules_from : {S A : Type 0} → RowForm S A → ℕ → S → List Row → List Rule
rules_from form n s [] = []
rules_from form n s (row ∷ rows) =
    row_rules form n s row ++ rules_from form (n + 1) (with_row form s (form.item row)) rows

-- what the rows say, after rows that said s
abbrev pub said_from : {S A : Type 0} → RowForm S A → S → List Row → S
said_from form s [] = s
said_from form s (row ∷ rows) = said_from form (with_row form s (form.item row)) rows

-- what reading comes to from the n-th row on, after rows that said s
abbrev pub reading_from : {S A : Type 0} → RowForm S A → ℕ → S → List Row → Result S Fault
reading_from form n s rows =
    let said = said_from form s rows in unless_refused (first_broken (rules_from form n s rows ++ form.last said)) said

-- the header is row 1
abbrev pub reading : {S A : Type 0} → RowForm S A → List Row → Result S Fault
reading form [] = Err (row_fault 1 Header)
reading form (first ∷ rows) =
    unless_refused
    (first_broken (at_row 1 (has_fields form.header first) Header
    ∷ (rules_from form 2 form.empty rows ++ form.last (said_from form form.empty rows))))
    (said_from form form.empty rows)

-- the item of the n-th row was taken: none of the file's own rules is broken, and the item was added; or the call
-- answered the fault of the first broken one; or memory ran out
abbrev pub TakesItem : {S A : Type 0} → RowForm S A → ℕ → S → A → Result S ReadError → Type 0
TakesItem form n s item (Ok new) = (first_broken (form.own n s item) ≡ None) × (new ≡ form.with_item s item)
TakesItem form n s item (Err (Refused fault)) = first_broken (form.own n s item) ≡ Some fault
TakesItem form n s item (Err NoMemory) = Unit {0}

-- the same of the n-th row with all its rules
abbrev pub TakesRow : {S A : Type 0} → RowForm S A → ℕ → S → Row → Result S ReadError → Type 0
TakesRow form n s row (Ok new) =
    (first_broken (row_rules form n s row) ≡ None) × (new ≡ with_row form s (form.item row))
TakesRow form n s row (Err (Refused fault)) = first_broken (row_rules form n s row) ≡ Some fault
TakesRow form n s row (Err NoMemory) = Unit {0}
