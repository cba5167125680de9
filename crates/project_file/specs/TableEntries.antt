-- What was read of the top table and of the sections, as the entries that they say.
use Rattle.std.specs.Prelude.{List}
use Rattle.toml_fields.specs.ArrayItems.{tables_in}
use Rattle.project_file.specs.declared.top.Top.{Top}
use Rattle.project_file.specs.declared.section_table.SectionTable.{SectionTable}
use Rattle.project_file.specs.declared.sections.Sections.{Sections}
use Rattle.project_file.specs.TopTable.{TopEntry}

-- what was read of the top table
abbrev pub top_entry : Top → TopEntry
top_entry top = record {
  head = top.head;
  energy = top.energy;
  limits = top.limits;
  sections = tables_in top.sections;
}

-- what was read of the sections
abbrev pub entries_of : Sections → List SectionTable
entries_of sections = sections.entries.items
