-- A TOML document, and what stands at its keys.
--   document_of bytes        the document that the bytes are, or none
--   has_only keys ms         each key of the table is among these
--   has_key key ms           the table has the key
--   items_at key ms          the items of the array at the key; none where there is no array
--   tables_at, names_at, arrays_at   the same where each item is a table, a name, an array
--   number_at key low high   the integer at the key, where it is one from low to high
--   text_at, name_at         the string at the key; the same where it is a name
use Rattle.std.specs.Prelude.{ℕ, ℤ, pos, negsuc, nat_le, List, [], ◌∷◌, length, Bool, true, ◌&&◌, ◌==◌, if◌then◌else◌, Option, Some, None, option_and_then, option_map, is_some}
use Rattle.std.specs.List.{list_any, list_all}
use Rattle.std.specs.Str.{bytes_eq}
use Rattle.std.specs.Str.Lossy.{utf8_valid_len}
use Rattle.toml.specs.Data.{Data, Items, no_items, item, Members, no_members, member, get_member, as_integer, as_array, as_table, as_str}
use Rattle.toml.specs.Parse.{parse_document}
use Rattle.duct_units.specs.Name.{name_of}

-- none where the bytes are not UTF-8 or not TOML
abbrev pub document_of : List ℕ → Option Members
document_of bytes = if utf8_valid_len bytes == length bytes then parse_document bytes else None

-- each key of the table is among these
abbrev pub has_only : List (List ℕ) → Members → Bool
has_only keys no_members = true
has_only keys (member key value rest) = list_any (bytes_eq key) keys && has_only keys rest

-- the table has the key
abbrev pub has_key : List ℕ → Members → Bool
has_key key ms = is_some (get_member key ms)

-- the items of an array, in order
abbrev pub list_of : Items → List Data
list_of no_items = []
list_of (item value rest) = value ∷ list_of rest

-- each of the values is a table
abbrev pub are_tables : List Data → Bool
are_tables values = list_all (λ value. is_some (as_table value)) values

-- the items of the array that the value is; none where it is no array
abbrev pub items_of : Data → Option (List Data)
items_of value = option_map list_of (as_array value)

-- the items of the array at the key; none where there is no array
abbrev pub items_at : List ℕ → Members → Option (List Data)
items_at key ms = option_map list_of (option_and_then as_array (get_member key ms))

-- the number, where it is one from low to high
abbrev pub bounded : ℕ → ℕ → Option ℤ → Option ℕ
bounded low high None = None
bounded low high (Some (negsuc n)) = None
bounded low high (Some (pos n)) = if nat_le low n && nat_le n high then Some n else None

-- the integer at the key, where it is one from low to high
abbrev pub number_at : List ℕ → ℕ → ℕ → Members → Option ℕ
number_at key low high ms = bounded low high (option_and_then as_integer (get_member key ms))

-- the string at the key; none where there is no string
abbrev pub text_at : List ℕ → Members → Option (List ℕ)
text_at key ms = option_and_then as_str (get_member key ms)

-- the value, where it is a string that is a name
abbrev pub name_in : Data → Option (List ℕ)
name_in value = option_and_then name_of (as_str value)

-- the string at the key, where it is a name
abbrev pub name_at : List ℕ → Members → Option (List ℕ)
name_at key ms = option_and_then name_of (text_at key ms)

-- what each value is, where every one is of the kind
abbrev pub all_of : {A : Type 0} → (Data → Option A) → List Data → Option (List A)
all_of kind [] = Some []
all_of kind (value ∷ values) =
    option_and_then (λ first. option_map (λ others. first ∷ others) (all_of kind values)) (kind value)

-- the tables of the array at the key, where each of its items is a table
abbrev pub tables_at : List ℕ → Members → Option (List Members)
tables_at key ms = option_and_then (all_of as_table) (items_at key ms)

-- the names of the array at the key, where each of its items is a name
abbrev pub names_at : List ℕ → Members → Option (List (List ℕ))
names_at key ms = option_and_then (all_of name_in) (items_at key ms)

-- the arrays of the array at the key, each with its items, where each of its items is an array
abbrev pub arrays_at : List ℕ → Members → Option (List (List Data))
arrays_at key ms = option_and_then (all_of items_of) (items_at key ms)
