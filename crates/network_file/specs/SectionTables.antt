-- The tables of the sections of a network file.
use Rattle.std.specs.Prelude.{ℕ, ◌+◌, List, [], ◌∷◌, ◌++◌, codes, map, length, nat_le, not, if◌then◌else◌, Option, Some, None, option_and_then, option_map, is_some, unwrap_or}
use Rattle.toml.specs.Data.{Data, Members}
use Rattle.duct_units.specs.declared.fault.Reason.TheVariants.{Key, Field, TooMany, Twice}
use Rattle.duct_units.specs.declared.side.Side.TheVariants.{Supply}
use Rattle.duct_units.specs.Rules.{Rule, at_file, at_section}
use Rattle.duct_definitions.specs.declared.limits.TheConstants.{MAX_SECTIONS}
use Rattle.name_index.specs.Places.{is_among}
use Rattle.file_definitions.specs.Document.{has_only, names_at, arrays_at}
use Rattle.file_definitions.specs.Elements.{each}
use Rattle.section_tables.specs.declared.tree_section.TreeSection.{TreeSection}
use Rattle.section_tables.specs.TreeSections.{tree_section_at}

-- the keys that the table of a section may have
abbrev pub section_keys : List (List ℕ)
section_keys = codes "name" ∷ codes "side" ∷ codes "neighbour" ∷ codes "sizes" ∷ codes "pairs" ∷ []

-- what the table of a section says: what it says of the tree, its sizes, and each pair as an array of values
pub record SectionEntry : Type 0 where
  pub tree : TreeSection
  pub sizes : List (List ℕ)
  pub pairs : List (List Data)

-- what stands in place of a section whose table says none
abbrev pub no_tree_section : TreeSection
no_tree_section = record { name = []; side = Supply; neighbour = None }

-- what the table of a section says, where the rules below hold
abbrev pub entry_of : Members → SectionEntry
entry_of table = record {
  tree = unwrap_or (tree_section_at table) no_tree_section;
  sizes = unwrap_or (names_at (codes "sizes") table) [];
  pairs = unwrap_or (arrays_at (codes "pairs") table) [];
}

-- what the sections say of the tree
abbrev pub tree_sections : List SectionEntry → List TreeSection
tree_sections sections = map (λ section. section.tree) sections

-- the names of the sections of these tables
abbrev pub table_names : List Members → List (List ℕ)
table_names tables = map (λ table. (entry_of table).tree.name) tables

-- the rules of the n-th section's table: no other key; then what it says of the tree, its sizes and its pairs
abbrev pub section_table_rules : ℕ → Members → List Rule
section_table_rules n table =
    at_section n (has_only section_keys table) Key
    ∷ at_section n (is_some (tree_section_at table)) Field
    ∷ at_section n (is_some (names_at (codes "sizes") table)) Field
    ∷ at_section n (is_some (arrays_at (codes "pairs") table)) Field ∷ []

-- the rules of the section after these: its table, and a name that none of them has
abbrev pub section_rules : List Members → Members → List Rule
section_rules before table =
    let n = length before + 1 in
    section_table_rules n table ++ at_section n (not (is_among (entry_of table).tree.name (table_names before))) Twice ∷ []

-- at most 500 sections, each of which is in order
abbrev pub all_section_rules : List Members → List Rule
all_section_rules tables = at_file (nat_le (length tables) MAX_SECTIONS) TooMany ∷ each section_rules tables
