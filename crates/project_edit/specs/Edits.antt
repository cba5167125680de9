-- A project with one field of one section changed.
--   row_with change row    what is said of the section, with the one field changed
--   edited p e             the project with that field changed, and the airflows of its tree
use Rattle.std.specs.Prelude.{◌≤◌, List, set, Some}
use Rattle.duct_definitions.specs.Airflow.{flows_of}
use Rattle.project_file.specs.declared.project.Project.{Project}
use Rattle.project_file.specs.declared.section_row.SectionRow.{SectionRow}
use Rattle.project_file.specs.Projects.{airflows_of}
use Rattle.net_build.specs.Rows.{row_at}
use Rattle.edit_script.specs.declared.script.Change.{Change}
use Rattle.edit_script.specs.declared.script.Change.TheVariants.{Length, Device, Airflow, Preset}
use Rattle.project_edit.specs.declared.edit.Edit.{Edit}

-- what is said of the section, with the one field changed
abbrev pub row_with : Change → SectionRow → SectionRow
row_with (Length n) row = record row { length = n }
row_with (Device n) row = record row { device = n }
row_with (Airflow q) row = record row { airflow = Some q }
row_with (Preset name) row = record row { preset = name }

-- what is said of all sections, with that of the named one changed
abbrev pub edited_rows : Project → Edit → List SectionRow
edited_rows p e = set p.sections e.section (row_with e.change (row_at p e.section))

-- the project with the one field of the named section changed, and the airflows of its tree; no preset is one too
abbrev pub edited : Project → Edit → Project
edited p e = record p {
  sections = edited_rows p e;
  flows = flows_of p.tree (airflows_of (edited_rows p e));
}
