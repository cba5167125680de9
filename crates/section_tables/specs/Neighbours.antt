-- The neighbours of the sections of a file, by name and by number, and the tree that they make.
use Rattle.std.specs.Prelude.{ℕ, ◌+◌, List, [], ◌∷◌, ◌++◌, map, length, Bool, true, Option, Some, None, option_and_then}
use Rattle.duct_units.specs.declared.fault.Reason.TheVariants.{UnknownNeighbour}
use Rattle.duct_units.specs.Rules.{Rule, at_section}
use Rattle.duct_definitions.specs.Tree.{Tree, tree_rules}
use Rattle.name_index.specs.Places.{place_of, is_among}
use Rattle.file_definitions.specs.Elements.{each}
use Rattle.section_tables.specs.declared.tree_section.TreeSection.{TreeSection}
use Rattle.section_tables.specs.TreeSections.{section_names}

-- the number of the neighbour among the sections of these names; none at the fan
abbrev pub neighbour_among : List (List ℕ) → Option (List ℕ) → Option ℕ
neighbour_among names neighbour = option_and_then (λ name. place_of name names) neighbour

-- the number of the section's neighbour; none at the fan
abbrev pub neighbour_of : List TreeSection → TreeSection → Option ℕ
neighbour_of sections section = neighbour_among (section_names sections) section.neighbour

-- some section has the neighbour's name
abbrev pub is_known : List (List ℕ) → Option (List ℕ) → Bool
is_known names None = true
is_known names (Some name) = is_among name names

-- the n-th section is at the fan, or its neighbour has one of these names
abbrev pub known_rules : List (List ℕ) → ℕ → Option (List ℕ) → List Rule
known_rules names n neighbour = at_section n (is_known names neighbour) UnknownNeighbour ∷ []

-- the rules of the neighbour of the section after these
abbrev pub neighbour_rules : List TreeSection → List TreeSection → TreeSection → List Rule
neighbour_rules sections before section = known_rules (section_names sections) (length before + 1) section.neighbour

-- each neighbour is a section, which may stand earlier or later
abbrev pub all_neighbour_rules : List TreeSection → List Rule
all_neighbour_rules sections = each (neighbour_rules sections) sections

-- the tree of the sections
abbrev pub tree_of : List TreeSection → Tree
tree_of sections = record {
  neighbours = map (neighbour_of sections) sections;
  sides = map (λ section. section.side) sections;
}

-- each neighbour is a section, and together they are a tree
abbrev pub neighbour_and_tree_rules : List TreeSection → List Rule
neighbour_and_tree_rules sections = all_neighbour_rules sections ++ tree_rules (tree_of sections)
