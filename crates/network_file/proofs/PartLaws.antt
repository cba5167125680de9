-- The rules of a fan and of a section, as those of its table and one on its name.
use Rattle.std.proofs.Common.{◌≡◌, ℕ, List, [], ◌∷◌, map, Bool, not, ap, refl}
use Rattle.toml.specs.Data.{Members}
use Rattle.duct_units.specs.declared.fault.Fault.{Fault}
use Rattle.duct_units.specs.declared.fault.Reason.TheVariants.{Twice}
use Rattle.duct_units.specs.Rules.{section_fault, fan_fault}
use Rattle.name_index.specs.Places.{is_among}
use Rattle.network_file.specs.FanTables.{fan_of, fan_names}
use Rattle.section_tables.specs.TreeSections.{section_names}
use Rattle.network_file.specs.SectionTables.{entry_of, table_names, tree_sections}

abbrev pub is_new_fan : List Members → Members → Bool
is_new_fan before table = not (is_among (fan_of table).name (fan_names before))

abbrev pub fan_twice : ℕ → Fault
fan_twice n = fan_fault n Twice

abbrev pub is_new_section : List Members → Members → Bool
is_new_section before table = not (is_among (entry_of table).tree.name (table_names before))

abbrev pub section_twice : ℕ → Fault
section_twice n = section_fault n Twice

-- the names of the tables are those of what the tables say
pub entry_names_are : (tables : List Members) → table_names tables ≡ section_names (tree_sections (map entry_of tables))
entry_names_are [] = refl
entry_names_are (table ∷ tables) = ap (λ names. (entry_of table).tree.name ∷ names) (entry_names_are tables)
