-- What was read, as the entries that the tables say.
use Rattle.std.proofs.Common.{◌≡◌, List, [], ◌∷◌, map, refl, ap}
use Rattle.section_tables.specs.declared.tree_section.TreeSection.{TreeSection}
use Rattle.network_file.specs.declared.sections.SectionTable.{SectionTable}
use Rattle.network_file.specs.SectionTables.{tree_sections}
use Rattle.network_file.specs.TableEntries.{section_entry}

pub sections_of_tables : (tables : List SectionTable) → map (λ (table : SectionTable). table.tree) tables ≡ tree_sections (map section_entry tables)
sections_of_tables [] = refl
sections_of_tables (table ∷ tables) = ap (λ (sections : List TreeSection). table.tree ∷ sections) (sections_of_tables tables)
