-- A project: what is known of one that was read.
--   IsRow row       every field of what it says of a section has its form and lies within its bound
--   airflows_of     the airflows at the leaves and the leaks, as the rows say them
--   IsProject p     one row for each section of the tree, within bounds, with the airflows of the tree
use Rattle.std.specs.Prelude.{◌≡◌, ℕ, ◌<◌, ◌≤◌, List, length, map, Option, None, IsTrue, All, option_and_then, slice_get}
use Rattle.duct_units.specs.Name.{is_name}
use Rattle.duct_units.specs.Rules.{first_broken}
use Rattle.duct_definitions.specs.Airflow.{Airflows, flow_rules, flows_of}
use Rattle.duct_definitions.specs.Network.{AreNames}
use Rattle.duct_definitions.specs.Tree.{neighbour, section_count, IsTree}
use Rattle.duct_definitions.specs.declared.airflow.TheConstants.{MAX_LEAK}
use Rattle.fan_points.specs.Energy.{IsEnergy}
use Rattle.duct_definitions.specs.declared.duct.TheConstants.{MAX_DENSITY, MAX_LENGTH, MAX_LOCAL, MAX_DEVICE}
use Rattle.project_file.specs.declared.project.Project.{Project}
use Rattle.project_file.specs.declared.section_row.SectionRow.{SectionRow}
use Rattle.project_file.specs.Limits.{IsVelocity, IsHeight}
use Rattle.project_file.specs.Sections.{IsNameOrNone, IsFlowOrNone}

-- every field has its form and lies within its bound
pub record IsRow (row : SectionRow) : Type 0 where
  pub name : IsTrue (is_name row.name)
  pub length : row.length ≤ MAX_LENGTH
  pub list : IsTrue (is_name row.list)
  pub local : row.local ≤ MAX_LOCAL
  pub junction : IsNameOrNone row.junction
  pub device : row.device ≤ MAX_DEVICE
  pub airflow : IsFlowOrNone row.airflow
  pub preset : IsNameOrNone row.preset
  pub velocity : IsVelocity row.velocity
  pub height : IsHeight row.height
  pub leak : row.leak ≤ MAX_LEAK

-- the airflow at each leaf, none at the other sections, and the leak of each section
abbrev pub airflows_of : List SectionRow → Airflows
airflows_of rows = record {
  at_leaves = map (λ row. row.airflow) rows;
  leaks = map (λ row. row.leak) rows;
}

-- the junction of section s, if it has one
abbrev pub junction_at : List SectionRow → ℕ → Option (List ℕ)
junction_at rows s = option_and_then (λ row. row.junction) (slice_get rows s)

-- one row for each section of the tree, with names of their own and no junction at the fan; every field within its
-- bound; and the airflows of the tree
pub record IsProject (p : Project) : Type 0 where
  pub name : IsTrue (is_name p.name)
  pub density : (1 ≤ p.density) × (p.density ≤ MAX_DENSITY)
  pub energy : IsEnergy p.energy
  pub tree : IsTree p.tree
  pub count : length p.sections ≡ section_count p.tree
  pub names : AreNames (map (λ row. row.name) p.sections)
  pub rows : All IsRow p.sections
  pub junctions : (s : ℕ) → s < section_count p.tree → neighbour p.tree s ≡ None → junction_at p.sections s ≡ None
  pub airflows : first_broken (flow_rules p.tree (airflows_of p.sections)) ≡ None
  pub flows : p.flows ≡ flows_of p.tree (airflows_of p.sections)
