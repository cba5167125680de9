-- A table or a truth value at a key, and what stands at a key that may be absent.
--   table_at key ms, flag_at key ms   the table, the truth value at the key; none where there is none
--   where_given field key ms          nothing where the key is absent, and else what the look-up `field` gives;
--                                     none where it gives nothing
use Rattle.std.specs.Prelude.{ℕ, List, Bool, if◌then◌else◌, Option, Some, None, option_and_then, option_map}
use Rattle.toml.specs.Data.{Members, get_member, as_table, as_bool}
use Rattle.file_definitions.specs.Document.{has_key, number_at, name_at}

-- the members of the table at the key; none where there is no table
abbrev pub table_at : List ℕ → Members → Option Members
table_at key ms = option_and_then as_table (get_member key ms)

-- the truth value at the key; none where there is none
abbrev pub flag_at : List ℕ → Members → Option Bool
flag_at key ms = option_and_then as_bool (get_member key ms)

-- nothing where the key is absent, and else what the look-up gives; none where it gives nothing
abbrev pub where_given : {A : Type 0} → (List ℕ → Members → Option A) → List ℕ → Members → Option (Option A)
where_given field key ms = if has_key key ms then option_map (λ value. Some value) (field key ms) else Some None

-- the integer from low to high at a key that may be absent
abbrev pub optional_number_at : List ℕ → ℕ → ℕ → Members → Option (Option ℕ)
optional_number_at key low high ms = where_given (λ key ms. number_at key low high ms) key ms

-- the name at a key that may be absent
abbrev pub optional_name_at : List ℕ → Members → Option (Option (List ℕ))
optional_name_at key ms = where_given name_at key ms

-- the truth value at a key that may be absent
abbrev pub optional_flag_at : List ℕ → Members → Option (Option Bool)
optional_flag_at key ms = where_given flag_at key ms
