-- The rules of a section, as those of its table and one on its name.
use Rattle.std.proofs.Common.{◌≡◌, ℕ, List, [], ◌∷◌, map, Bool, false, not, Option, Some, None, is_some, is_none, ◌&&◌, refl, ap}
use Rattle.toml.specs.Data.{Members}
use Rattle.duct_units.specs.declared.fault.Fault.{Fault}
use Rattle.duct_units.specs.declared.fault.Reason.TheVariants.{Twice}
use Rattle.duct_units.specs.Rules.{section_fault}
use Rattle.name_index.specs.Places.{is_among}
use Rattle.section_tables.specs.TreeSections.{section_names}
use Rattle.project_file.specs.Sections.{tree_sections}
use Rattle.project_file.specs.SectionTables.{section_in, table_names}

abbrev pub is_new_section : List Members → Members → Bool
is_new_section before table = not (is_among (section_in table).name (table_names before))

abbrev pub section_twice : ℕ → Fault
section_twice n = section_fault n Twice

-- the names of the tables are those of what the tables say
pub table_names_are : (tables : List Members) → table_names tables ≡ section_names (tree_sections (map section_in tables))
table_names_are [] = refl
table_names_are (table ∷ tables) = ap (λ names. (section_in table).name ∷ names) (table_names_are tables)

-- what was found is none of no junction and no neighbour
pub fan_free : (junction neighbour : Option (List ℕ)) → (is_some junction && is_none neighbour) ≡ false → neighbour ≡ None → junction ≡ None
fan_free None neighbour apart at_fan = refl
fan_free (Some name) None apart at_fan = cc apart
fan_free (Some name) (Some other) apart at_fan = cc at_fan
