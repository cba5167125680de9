-- What a sizes file says, and how it is refused.
use Rattle.std.specs.Prelude.{ℕ, nat_le, nat_lt, not, List, [], ◌∷◌, length, codes, Result}
use Rattle.duct_units.specs.declared.fault.Fault.{Fault}
use Rattle.duct_units.specs.declared.fault.Reason.TheVariants.{Twice, TooMany}
use Rattle.duct_units.specs.Rules.{Rule, at_row}
use Rattle.file_definitions.specs.Rows.{Row, RowForm, rows_of, reading}
use Rattle.size_catalogue.specs.declared.limits.TheConstants.{MAX_LISTS, MAX_LIST_SIZES}
use Rattle.size_catalogue.specs.declared.row.SizeRow.{SizeRow}
use Rattle.name_index.specs.Places.{is_among}
use Rattle.size_catalogue.specs.SizeRow.{size_of_row}
use Rattle.size_catalogue.specs.Catalogue.{Catalogue, names_of, numbers_of, list_number, lists_with, with_size}

-- the first row of a sizes file
abbrev pub header : Row
header = codes "list" ∷ codes "size" ∷ codes "area" ∷ codes "height" ∷ codes "metre" ∷ codes "join" ∷ codes "step" ∷ []

-- no size before has the name; there are not too many lists, nor sizes of the list
abbrev pub size_rules : ℕ → Catalogue → SizeRow → List Rule
size_rules n before row =
    at_row n (not (is_among row.name (names_of before.sizes))) Twice
    ∷ at_row n (nat_le (length (lists_with row.list before.lists)) MAX_LISTS) TooMany
    ∷ at_row n (nat_lt (length (numbers_of (list_number row.list before.lists) before.sizes)) MAX_LIST_SIZES) TooMany
    ∷ []

-- what a sizes file asks of its rows; there is no rule behind the last row
abbrev pub sizes_form : RowForm Catalogue SizeRow
sizes_form = record {
  header = header;
  item = size_of_row;
  empty = record { lists = []; sizes = [] };
  with_item = with_size;
  own = size_rules;
  last = λ catalogue. [];
}

-- the catalogue of a file's bytes, or the refusal
abbrev pub sizes_of : List ℕ → Result Catalogue Fault
sizes_of bytes = reading sizes_form (rows_of bytes)
