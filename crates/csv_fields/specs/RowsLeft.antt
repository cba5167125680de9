-- What a contract sees of the rows of a file: the one at hand, its number, and those that are left.
use Rattle.std.specs.Prelude.{◌≡◌, ℕ, ◌+◌, Bool, List, [], ◌∷◌, Result, Ok, Err, if◌then◌else◌}
use Rattle.std.specs.Bool.{MatchBool}
use Rattle.duct_units.specs.declared.fault.Fault.{Fault}
use Rattle.duct_units.specs.declared.fault.Reason.TheVariants.{Header}
use Rattle.file_definitions.specs.Rows.{Row, has_fields}
use Rattle.duct_units.specs.Rules.{row_fault}

-- the row at hand with its number, and the rows that are left; the number counts from 1, and is 0 before the first row
pub record RowsLeft : Type 0 where
  pub number : ℕ
  pub row : Row
  pub left : List Row

-- the next of the rows that were left is at hand
pub record IsNextRow (old new : RowsLeft) : Type 0 where
  pub next : old.left ≡ new.row ∷ new.left
  pub counted : new.number ≡ old.number + 1

-- no row is left, and none was counted
pub record HasEnded (old new : RowsLeft) : Type 0 where
  pub left : new.left ≡ []
  pub number : new.number ≡ old.number

-- the next row was found; or none was left, and none was counted
abbrev pub Advances : RowsLeft → RowsLeft → Bool → Type 0
Advances old new found = MatchBool found (IsNextRow old new) ((old.left ≡ []) × HasEnded old new)

-- the rows behind the header, or its refusal
abbrev pub opened : Row → List Row → Result RowsLeft Fault
opened header [] = Err (row_fault 1 Header)
opened header (first ∷ rows) =
    if has_fields header first then Ok (record { number = 1; row = first; left = rows }) else Err (row_fault 1 Header)
