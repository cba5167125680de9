-- The table `energy` of a project file: the terms on which energy is bought.
use Rattle.std.specs.Prelude.{ℕ, List, [], ◌∷◌, codes, Option, Some, is_some, unwrap_or}
use Rattle.toml.specs.Data.{Members, no_members}
use Rattle.duct_units.specs.Options.{◌>>=◌}
use Rattle.duct_units.specs.declared.fault.Reason.TheVariants.{Key, Field}
use Rattle.duct_units.specs.Rules.{Rule, at_file}
use Rattle.file_definitions.specs.Document.{has_only, number_at}
use Rattle.toml_fields.specs.KeyFields.{table_at}
use Rattle.fan_points.specs.declared.limits.TheConstants.{MAX_HOURS, MAX_TARIFF, MAX_WORTH}
use Rattle.fan_points.specs.declared.terms.Energy.{Energy}

-- the keys that the table may have
abbrev pub energy_keys : List (List ℕ)
energy_keys = codes "hours" ∷ codes "tariff" ∷ codes "worth" ∷ []

-- what the table says; none where a key is missing, no integer, or out of its bound
abbrev pub energy_of : Members → Option Energy
energy_of table = do
  hours ← number_at (codes "hours") 0 MAX_HOURS table
  tariff ← number_at (codes "tariff") 0 MAX_TARIFF table
  worth ← number_at (codes "worth") 0 MAX_WORTH table
  Some (record { hours = hours; tariff = tariff; worth = worth })

-- the table, where the rules below hold
abbrev pub energy_table : Members → Members
energy_table doc = unwrap_or (table_at (codes "energy") doc) no_members

-- the table is there; it has no other key; then key by key
abbrev pub energy_rules : Members → List Rule
energy_rules doc =
    at_file (is_some (table_at (codes "energy") doc)) Field
    ∷ at_file (has_only energy_keys (energy_table doc)) Key
    ∷ at_file (is_some (energy_of (energy_table doc))) Field ∷ []

-- the terms, where these rules hold
abbrev pub energy_in : Members → Energy
energy_in doc = unwrap_or (energy_of (energy_table doc)) (record { hours = 0; tariff = 0; worth = 0 })
