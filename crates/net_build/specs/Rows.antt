-- What a project says of each of its sections.
use Rattle.std.specs.Prelude.{ℕ, [], None, slice_get, unwrap_or}
use Rattle.project_file.specs.declared.project.Project.{Project}
use Rattle.project_file.specs.declared.section_row.SectionRow.{SectionRow}

-- what stands in place of a section that is not there
abbrev pub no_row : SectionRow
no_row = record {
  name = [];
  length = 0;
  list = [];
  local = 0;
  junction = None;
  device = 0;
  airflow = None;
  preset = None;
  velocity = None;
  height = None;
  leak = 0;
}

-- what the project says of section s
abbrev pub row_at : Project → ℕ → SectionRow
row_at p s = unwrap_or (slice_get p.sections s) no_row
