-- The tables of the fans of a network file.
use Rattle.std.specs.Prelude.{ℕ, ◌+◌, List, [], ◌∷◌, ◌++◌, codes, map, length, nat_le, not, is_some, unwrap_or}
use Rattle.toml.specs.Data.{Members}
use Rattle.duct_units.specs.declared.fault.Reason.TheVariants.{Key, Field, TooMany, Twice}
use Rattle.duct_units.specs.Rules.{Rule, at_file, at_fan}
use Rattle.duct_definitions.specs.declared.design.NetFan.{NetFan}
use Rattle.duct_definitions.specs.declared.limits.TheConstants.{MAX_FANS, MAX_PRESSURE, MAX_FAN_COST}
use Rattle.name_index.specs.Places.{is_among}
use Rattle.file_definitions.specs.Document.{has_only, number_at, name_at}
use Rattle.file_definitions.specs.Elements.{each}

-- the keys that the table of a fan may have
abbrev pub fan_keys : List (List ℕ)
fan_keys = codes "name" ∷ codes "pressure" ∷ codes "cost" ∷ []

-- what the table of a fan says, where the rules below hold
abbrev pub fan_of : Members → NetFan
fan_of table = record {
  name = unwrap_or (name_at (codes "name") table) [];
  pressure = unwrap_or (number_at (codes "pressure") 1 MAX_PRESSURE table) 0;
  cost = unwrap_or (number_at (codes "cost") 0 MAX_FAN_COST table) 0;
}

-- the names of the fans of these tables
abbrev pub fan_names : List Members → List (List ℕ)
fan_names tables = map (λ table. (fan_of table).name) tables

-- the rules of the n-th fan's table: no other key; then key by key
abbrev pub fan_table_rules : ℕ → Members → List Rule
fan_table_rules n table =
    at_fan n (has_only fan_keys table) Key
    ∷ at_fan n (is_some (name_at (codes "name") table)) Field
    ∷ at_fan n (is_some (number_at (codes "pressure") 1 MAX_PRESSURE table)) Field
    ∷ at_fan n (is_some (number_at (codes "cost") 0 MAX_FAN_COST table)) Field ∷ []

-- the rules of the fan after these: its table, and a name that none of them has
abbrev pub fan_rules : List Members → Members → List Rule
fan_rules before table =
    let n = length before + 1 in
    fan_table_rules n table ++ at_fan n (not (is_among (fan_of table).name (fan_names before))) Twice ∷ []

-- at most 64 fans, each of which is in order
abbrev pub all_fan_rules : List Members → List Rule
all_fan_rules tables = at_file (nat_le (length tables) MAX_FANS) TooMany ∷ each fan_rules tables
