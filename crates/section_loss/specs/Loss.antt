-- What a section loses beside its neighbour, dPa.
--   loss_of              friction, local loss, junction and device, each rounded by itself; none without friction
--   own_loss_of          the same but for the junction
--   junction_loss_of     what the junction loses, or gains where it is below 0
--   together_of          both, and 0 where they are below 0
use Rattle.std.specs.Prelude.{ℕ, ◌+◌, ℤ, pos, negsuc, ◌+ℤ◌, List, Option, None, Some, option_map}
use Rattle.friction_table.specs.declared.row.FlowRate.{FlowRate}
use Rattle.friction_table.specs.Loss.{friction_loss}
use Rattle.fitting_tables.specs.Coefficient.{coefficient_of}
use Rattle.fitting_tables.specs.Fittings.{Tables, cells_of}
use Rattle.size_catalogue.specs.declared.row.Size.{Size}
use Rattle.section_loss.specs.declared.facts.SectionFacts.{SectionFacts}
use Rattle.section_loss.specs.Fitting.{fitting_loss_of, ratio_of}

-- a loss below 0 counts as 0
abbrev pub at_least_0 : ℤ → ℕ
at_least_0 (pos n) = n
at_least_0 (negsuc n) = 0

-- what the local coefficient loses in the section's own size, as any fitting does
abbrev pub local_loss_of : SectionFacts → Size → ℕ
local_loss_of facts size = at_least_0 (fitting_loss_of facts.density facts.flow size.area (pos facts.local))

-- friction, local loss and device, each rounded by itself; none where the size has no friction at the airflow
abbrev pub own_loss_of : SectionFacts → List FlowRate → Size → Option ℕ
own_loss_of facts rows size =
    option_map
    (λ friction. friction + local_loss_of facts size + facts.device)
    (friction_loss rows facts.flow facts.length)

-- the coefficient of the table, at the section's area and airflow over its neighbour's
abbrev pub junction_coefficient : SectionFacts → Tables → Size → ℕ → Size → ℤ
junction_coefficient facts tables size table beside =
    coefficient_of (cells_of tables table) (ratio_of size.area beside.area) (ratio_of facts.flow facts.neighbour_flow)

-- what the junction of the table loses at the section's own velocity pressure
abbrev pub junction_loss_beside : SectionFacts → Tables → Size → ℕ → Size → ℤ
junction_loss_beside facts tables size table beside =
    fitting_loss_of facts.density facts.flow size.area (junction_coefficient facts tables size table beside)

-- the same, and 0 without a table and at the fan
abbrev pub junction_loss_at : SectionFacts → Tables → Size → Option ℕ → Option Size → ℤ
junction_loss_at facts tables size None beside = pos 0
junction_loss_at facts tables size (Some table) None = pos 0
junction_loss_at facts tables size (Some table) (Some beside) = junction_loss_beside facts tables size table beside

-- what the section's junction loses beside a size of its neighbour
abbrev pub junction_loss_of : SectionFacts → Tables → Size → Option Size → ℤ
junction_loss_of facts tables size beside = junction_loss_at facts tables size facts.table beside

-- what a section loses by itself and at its junction; a sum below 0 counts as 0
abbrev pub together_of : ℕ → ℤ → ℕ
together_of own junction = at_least_0 (pos own +ℤ junction)

-- friction, local loss, junction and device, each rounded by itself, added; a sum below 0 counts as 0
abbrev pub sum_of_parts : ℕ → ℕ → ℤ → ℕ → ℕ
sum_of_parts friction local junction device = at_least_0 (pos friction +ℤ pos local +ℤ junction +ℤ pos device)

-- the loss of a section in a size beside its neighbour's; none where the size has no friction at the airflow
abbrev pub loss_of : SectionFacts → List FlowRate → Tables → Size → Option Size → Option ℕ
loss_of facts rows tables size beside =
    option_map
    (λ friction. sum_of_parts friction (local_loss_of facts size) (junction_loss_of facts tables size beside) facts.device)
    (friction_loss rows facts.flow facts.length)
