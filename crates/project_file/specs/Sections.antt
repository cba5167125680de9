-- What is known of the table of a section that was read, and what it says of the tree and apart from it.
use Rattle.std.specs.Prelude.{◌≡◌, ℕ, ◌≤◌, List, map, Option, Some, None, IsTrue, IfSome}
use Rattle.duct_units.specs.Name.{is_name}
use Rattle.duct_definitions.specs.declared.airflow.TheConstants.{MAX_FLOW, MAX_LEAK}
use Rattle.section_tables.specs.declared.tree_section.TreeSection.{TreeSection}
use Rattle.duct_definitions.specs.declared.duct.TheConstants.{MAX_LENGTH, MAX_LOCAL, MAX_DEVICE}
use Rattle.project_file.specs.declared.section_row.SectionRow.{SectionRow}
use Rattle.project_file.specs.declared.section_table.SectionTable.{SectionTable}
use Rattle.project_file.specs.declared.size_limits.SizeLimits.{SizeLimits}
use Rattle.project_file.specs.Limits.{IsVelocity, IsHeight}

-- a name that is there has the form of one
abbrev pub IsNameOrNone : Option (List ℕ) → Type 0
IsNameOrNone name = IfSome name (λ bytes. IsTrue (is_name bytes))

-- an airflow that is there lies within its bounds
abbrev pub IsFlowOrNone : Option ℕ → Type 0
IsFlowOrNone flow = IfSome flow (λ q. (1 ≤ q) × (q ≤ MAX_FLOW))

-- every field has its form and lies within its bound
pub record IsTable (section : SectionTable) : Type 0 where
  pub name : IsTrue (is_name section.name)
  pub length : section.length ≤ MAX_LENGTH
  pub list : IsTrue (is_name section.list)
  pub local : section.local ≤ MAX_LOCAL
  pub junction : IsNameOrNone section.junction
  pub device : section.device ≤ MAX_DEVICE
  pub flow : IsFlowOrNone section.flow
  pub preset : IsNameOrNone section.preset
  pub velocity : IsVelocity section.velocity
  pub height : IsHeight section.height
  pub leak : section.leak ≤ MAX_LEAK

-- the same, and there is no junction at the fan
pub record IsSection (section : SectionTable) : Type 0 where
  pub table : IsTable section
  pub junction : section.neighbour ≡ None → section.junction ≡ None

-- what a section says of the tree
abbrev pub tree_section : SectionTable → TreeSection
tree_section section = record { name = section.name; side = section.side; neighbour = section.neighbour }

-- the section's own limit, or else the project's
abbrev pub own_or : Option ℕ → Option ℕ → Option ℕ
own_or None project = project
own_or (Some own) project = Some own

-- what it says apart from the tree, in a project with these limits
abbrev pub row_of : SizeLimits → SectionTable → SectionRow
row_of limits section = record {
  name = section.name;
  length = section.length;
  list = section.list;
  local = section.local;
  junction = section.junction;
  device = section.device;
  airflow = section.flow;
  preset = section.preset;
  velocity = own_or section.velocity limits.velocity;
  height = own_or section.height limits.height;
  leak = section.leak;
}

-- the same of all sections
abbrev pub tree_sections : List SectionTable → List TreeSection
tree_sections sections = map tree_section sections

abbrev pub rows_of : SizeLimits → List SectionTable → List SectionRow
rows_of limits sections = map (row_of limits) sections
