-- The top table of a network file: its format, its name, its fans and its sections.
use Rattle.std.specs.Prelude.{ℕ, List, [], ◌∷◌, codes, Bool, if◌then◌else◌, Option, Some, option_and_then, is_some, unwrap_or}
use Rattle.toml.specs.Data.{Members, get_member, as_integer}
use Rattle.duct_units.specs.declared.fault.Reason.TheVariants.{Key, Field, Format}
use Rattle.duct_units.specs.Rules.{Rule, at_file}
use Rattle.file_definitions.specs.Document.{has_only, has_key, number_at, name_at, tables_at}

-- the keys that the top table may have
abbrev pub top_keys : List (List ℕ)
top_keys = codes "format" ∷ codes "name" ∷ codes "fan" ∷ codes "section" ∷ []

-- the format is an integer, whichever
abbrev pub has_format : Members → Bool
has_format doc = is_some (option_and_then as_integer (get_member (codes "format") doc))

-- the format is 1
abbrev pub is_format_1 : Members → Bool
is_format_1 doc = is_some (number_at (codes "format") 1 1 doc)

-- the tables at the key of the fans, an empty list where the key is absent
abbrev pub fans_at : Members → Option (List Members)
fans_at doc = if has_key (codes "fan") doc then tables_at (codes "fan") doc else Some []

-- the rules of the top table: no other key; then key by key
abbrev pub top_rules : Members → List Rule
top_rules doc =
    at_file (has_only top_keys doc) Key
    ∷ at_file (has_format doc) Field
    ∷ at_file (is_format_1 doc) Format
    ∷ at_file (is_some (name_at (codes "name") doc)) Field
    ∷ at_file (is_some (fans_at doc)) Field
    ∷ at_file (is_some (tables_at (codes "section") doc)) Field ∷ []

-- ---- what the keys hold, where these rules hold

-- the name of the network
abbrev pub network_name : Members → List ℕ
network_name doc = unwrap_or (name_at (codes "name") doc) []

-- the tables of the fans
abbrev pub fan_tables : Members → List Members
fan_tables doc = unwrap_or (fans_at doc) []

-- the tables of the sections
abbrev pub section_tables : Members → List Members
section_tables doc = unwrap_or (tables_at (codes "section") doc) []

-- what the top table says: the name, and the tables of the fans and of the sections
pub record TopEntry : Type 0 where
  pub name : List ℕ
  pub fans : List Members
  pub sections : List Members

-- what the top table says, where these rules hold
abbrev pub top_in : Members → TopEntry
top_in doc = record { name = network_name doc; fans = fan_tables doc; sections = section_tables doc }
