-- What is known of a section whatever its size.
--   IsFacts              every number lies within its bounds
--   IsJoined             where the section has a junction, its table is one of the fittings' and the neighbour has air
use Rattle.std.specs.Prelude.{◌<◌, ◌≤◌, length}
use Rattle.std.specs.Option.{ForSome}
use Rattle.duct_definitions.specs.declared.airflow.TheConstants.{MAX_FLOW}
use Rattle.duct_definitions.specs.declared.duct.TheConstants.{MAX_LENGTH, MIN_DENSITY, MAX_DENSITY, MAX_LOCAL, MAX_DEVICE}
use Rattle.friction_table.specs.declared.limits.TheConstants.{MIN_FLOW}
use Rattle.fitting_tables.specs.Fittings.{Tables}
use Rattle.section_loss.specs.declared.facts.SectionFacts.{SectionFacts}

-- every number lies within its bounds
pub record IsFacts (facts : SectionFacts) : Type 0 where
  pub density : (MIN_DENSITY ≤ facts.density) × (facts.density ≤ MAX_DENSITY)
  pub flow : (MIN_FLOW ≤ facts.flow) × (facts.flow ≤ MAX_FLOW)
  pub neighbour_flow : facts.neighbour_flow ≤ MAX_FLOW
  pub length : facts.length ≤ MAX_LENGTH
  pub local : facts.local ≤ MAX_LOCAL
  pub device : facts.device ≤ MAX_DEVICE

-- where the section has a junction, its table is one of the fittings', and the neighbour has an airflow
pub record IsJoined (facts : SectionFacts) (tables : Tables) : Type 0 where
  pub table : ForSome facts.table (λ table. table < length tables.grids)
  pub neighbour_flow : ForSome facts.table (λ table. 1 ≤ facts.neighbour_flow)
