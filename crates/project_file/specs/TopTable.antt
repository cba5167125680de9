-- The top table of a project file: its format, its name, the density of the air, the terms on which energy is bought,
-- what the project asks of sizes, and its sections.
use Rattle.std.specs.Prelude.{ℕ, ◌≤◌, List, [], ◌∷◌, ◌++◌, codes, Bool, if◌then◌else◌, Option, Some, None, option_and_then, is_some, unwrap_or, IsTrue}
use Rattle.toml.specs.Data.{Members, get_member, as_integer}
use Rattle.duct_units.specs.Name.{is_name}
use Rattle.duct_units.specs.declared.fault.Reason.TheVariants.{Key, Field, Format as OtherFormat}
use Rattle.duct_units.specs.Rules.{Rule, at_file}
use Rattle.file_definitions.specs.Document.{has_only, number_at, name_at, tables_at}
use Rattle.fan_points.specs.Energy.{IsEnergy}
use Rattle.fan_points.specs.declared.terms.Energy.{Energy}
use Rattle.project_file.specs.declared.format.Format.{Format}
use Rattle.project_file.specs.declared.format.Format.TheVariants.{One, Two}
use Rattle.project_file.specs.declared.head.Head.{Head}
use Rattle.duct_definitions.specs.declared.duct.TheConstants.{MAX_DENSITY}
use Rattle.project_file.specs.declared.size_limits.SizeLimits.{SizeLimits}
use Rattle.project_file.specs.Energy.{energy_rules, energy_in}
use Rattle.project_file.specs.Limits.{limits_rules, limits_in, AreLimits}

-- the keys that the top table may have
abbrev pub top_keys : List (List ℕ)
top_keys =
    codes "format" ∷ codes "name" ∷ codes "density" ∷ codes "energy" ∷ codes "rules" ∷ codes "section" ∷ []

-- the format is an integer, whichever
abbrev pub has_format : Members → Bool
has_format doc = is_some (option_and_then as_integer (get_member (codes "format") doc))

-- the format is this integer
abbrev pub is_format : ℕ → Members → Bool
is_format n doc = is_some (number_at (codes "format") n n doc)

-- the format, where it is 1 or 2
abbrev pub format_at : Members → Option Format
format_at doc = if is_format 1 doc then Some One else if is_format 2 doc then Some Two else None

-- the density of the air, where it lies within its bounds
abbrev pub density_at : Members → Option ℕ
density_at doc = number_at (codes "density") 1 MAX_DENSITY doc

-- the format is an integer; it is 1 or 2
abbrev pub format_rules : Members → List Rule
format_rules doc =
    at_file (has_format doc) Field
    ∷ at_file (is_some (format_at doc)) OtherFormat ∷ []

-- no other key; then the format, the name and the density
abbrev pub head_rules : Members → List Rule
head_rules doc =
    at_file (has_only top_keys doc) Key
    ∷ (format_rules doc
    ++ (at_file (is_some (name_at (codes "name") doc)) Field
    ∷ at_file (is_some (density_at doc)) Field ∷ []))

-- the sections are an array of tables
abbrev pub array_rules : Members → List Rule
array_rules doc = at_file (is_some (tables_at (codes "section") doc)) Field ∷ []

-- the rules of the top table: no other key; then key by key, with the tables `energy` and `rules` at their keys
abbrev pub top_rules : Members → List Rule
top_rules doc = head_rules doc ++ (energy_rules doc ++ (limits_rules doc ++ array_rules doc))

-- ---- what the keys hold, where these rules hold

-- the format
abbrev pub format_in : Members → Format
format_in doc = unwrap_or (format_at doc) One

-- the tables of the sections
abbrev pub section_tables : Members → List Members
section_tables doc = unwrap_or (tables_at (codes "section") doc) []

-- the format, the name and the density
abbrev pub head_in : Members → Head
head_in doc = record {
  format = format_in doc;
  name = unwrap_or (name_at (codes "name") doc) [];
  density = unwrap_or (density_at doc) 0;
}

-- what the top table says: with the tables of the sections
pub record TopEntry : Type 0 where
  pub head : Head
  pub energy : Energy
  pub limits : SizeLimits
  pub sections : List Members

-- what the top table says, where these rules hold
abbrev pub top_in : Members → TopEntry
top_in doc = record {
  head = head_in doc;
  energy = energy_in doc;
  limits = limits_in doc;
  sections = section_tables doc;
}

-- the name has its form, and the density lies within its bound
pub record IsHead (head : Head) : Type 0 where
  pub name : IsTrue (is_name head.name)
  pub density : (1 ≤ head.density) × (head.density ≤ MAX_DENSITY)

-- every field of the top table has its form and lies within its bound
pub record IsTop (top : TopEntry) : Type 0 where
  pub head : IsHead top.head
  pub energy : IsEnergy top.energy
  pub limits : AreLimits top.limits
