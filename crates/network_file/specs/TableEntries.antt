-- What was read of a table, as the entry that the table says.
use Rattle.std.specs.Prelude.{List, map}
use Rattle.toml_fields.specs.ArrayItems.{tables_in, names_in, arrays_in}
use Rattle.network_file.specs.declared.top.Top.{Top}
use Rattle.network_file.specs.declared.sections.SectionTable.{SectionTable}
use Rattle.network_file.specs.declared.sections.Sections.{Sections}
use Rattle.network_file.specs.TopTable.{TopEntry}
use Rattle.network_file.specs.SectionTables.{SectionEntry}

-- what was read of the top table
abbrev pub top_entry : Top → TopEntry
top_entry top = record { name = top.name; fans = tables_in top.fans; sections = tables_in top.sections }

-- what was read of the table of a section
abbrev pub section_entry : SectionTable → SectionEntry
section_entry table = record {
  tree = table.tree;
  sizes = names_in table.sizes;
  pairs = arrays_in table.pairs;
}

-- what was read of the tables of all sections
abbrev pub section_entries : Sections → List SectionEntry
section_entries sections = map section_entry sections.tables.items
