-- The tables of the sections of a project file.
use Rattle.std.specs.Prelude.{ℕ, ◌+◌, List, [], ◌∷◌, ◌++◌, codes, map, length, nat_le, Bool, not, ◌&&◌, Option, Some, None, is_some, is_none, unwrap_or}
use Rattle.toml.specs.Data.{Members}
use Rattle.duct_units.specs.Options.{◌>>=◌}
use Rattle.duct_units.specs.declared.fault.Reason.TheVariants.{Key, Field, TooMany, Twice, JunctionAtFan}
use Rattle.duct_units.specs.declared.side.Side.TheVariants.{Supply}
use Rattle.duct_units.specs.Rules.{Rule, at_file, at_section}
use Rattle.duct_definitions.specs.declared.airflow.TheConstants.{MAX_FLOW, MAX_LEAK}
use Rattle.duct_definitions.specs.declared.limits.TheConstants.{MAX_SECTIONS}
use Rattle.name_index.specs.Places.{is_among}
use Rattle.file_definitions.specs.Document.{has_only, number_at, name_at}
use Rattle.file_definitions.specs.Elements.{each}
use Rattle.toml_fields.specs.KeyFields.{optional_number_at, optional_name_at}
use Rattle.section_tables.specs.TreeSections.{tree_section_at}
use Rattle.project_file.specs.declared.format.Format.{Format}
use Rattle.project_file.specs.declared.format.Format.TheVariants.{One, Two}
use Rattle.duct_definitions.specs.declared.duct.TheConstants.{MAX_LENGTH, MAX_LOCAL, MAX_DEVICE}
use Rattle.project_file.specs.declared.limits.TheConstants.{MAX_VELOCITY, MAX_HEIGHT}
use Rattle.project_file.specs.declared.section_table.SectionTable.{SectionTable}

-- the keys that the table of a section may have in both formats
abbrev pub keys_of_both : List (List ℕ)
keys_of_both =
    codes "name" ∷ codes "side" ∷ codes "neighbour" ∷ codes "length" ∷ codes "list" ∷ codes "local"
    ∷ codes "junction" ∷ codes "device" ∷ codes "flow" ∷ codes "preset" ∷ codes "velocity" ∷ codes "height" ∷ []

-- the keys that it may have: a leak in format 2 alone
abbrev pub section_keys : Format → List (List ℕ)
section_keys One = keys_of_both
section_keys Two = keys_of_both ++ codes "leak" ∷ []

-- what the table of a section says; none where a key is missing though it must be there, of another kind, or out of its
-- bound
abbrev pub section_of : Members → Option SectionTable
section_of table = do
  tree ← tree_section_at table
  length ← number_at (codes "length") 0 MAX_LENGTH table
  list ← name_at (codes "list") table
  local ← optional_number_at (codes "local") 0 MAX_LOCAL table
  junction ← optional_name_at (codes "junction") table
  device ← optional_number_at (codes "device") 0 MAX_DEVICE table
  flow ← optional_number_at (codes "flow") 1 MAX_FLOW table
  preset ← optional_name_at (codes "preset") table
  velocity ← optional_number_at (codes "velocity") 1 MAX_VELOCITY table
  height ← optional_number_at (codes "height") 1 MAX_HEIGHT table
  leak ← optional_number_at (codes "leak") 0 MAX_LEAK table
  Some (record {
    name = tree.name;
    side = tree.side;
    neighbour = tree.neighbour;
    length = length;
    list = list;
    local = unwrap_or local 0;
    junction = junction;
    device = unwrap_or device 0;
    flow = flow;
    preset = preset;
    velocity = velocity;
    height = height;
    leak = unwrap_or leak 0;
  })

-- what stands in place of a section whose table says none
abbrev pub no_section : SectionTable
no_section = record {
  name = [];
  side = Supply;
  neighbour = None;
  length = 0;
  list = [];
  local = 0;
  junction = None;
  device = 0;
  flow = None;
  preset = None;
  velocity = None;
  height = None;
  leak = 0;
}

-- what the table of a section says, where the rules below hold
abbrev pub section_in : Members → SectionTable
section_in table = unwrap_or (section_of table) no_section

-- the section has a junction, and no neighbour to join
abbrev pub is_junction_at_fan : SectionTable → Bool
is_junction_at_fan section = is_some section.junction && is_none section.neighbour

-- the names of the sections of these tables
abbrev pub table_names : List Members → List (List ℕ)
table_names tables = map (λ table. (section_in table).name) tables

-- the rules of the n-th section's table: no other key; then key by key; then no junction at the fan
abbrev pub section_table_rules : Format → ℕ → Members → List Rule
section_table_rules format n table =
    at_section n (has_only (section_keys format) table) Key
    ∷ at_section n (is_some (section_of table)) Field
    ∷ at_section n (not (is_junction_at_fan (section_in table))) JunctionAtFan ∷ []

-- the rules of the section after these: its table, and a name that none of them has
abbrev pub section_rules : Format → List Members → Members → List Rule
section_rules format before table =
    let n = length before + 1 in
    section_table_rules format n table
    ++ at_section n (not (is_among (section_in table).name (table_names before))) Twice ∷ []

-- at most 500 sections, each of which is in order
abbrev pub all_section_rules : Format → List Members → List Rule
all_section_rules format tables =
    at_file (nat_le (length tables) MAX_SECTIONS) TooMany ∷ each (section_rules format) tables
