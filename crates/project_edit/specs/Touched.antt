-- Which sections an edit touches: those that have to be condensed again.
--   cap_of p fans                 the greatest pressure of the fans that serve the project's airflow
--   is_on_way t x s               the way of section x to the fan passes s, which is x itself or stands before it
--   is_touched t e kept s         the edit touches section s; kept says whether the greatest pressure is as before
--   touched p fans e              all sections that it touches, in rising number
use Rattle.std.specs.Prelude.{ℕ, List, filter, Bool, false, not, ◌||◌, ◌==◌, Option, Some, None}
use Rattle.duct_definitions.specs.Airflow.{fan_flow}
use Rattle.duct_definitions.specs.Network.{greatest_pressure}
use Rattle.duct_definitions.specs.Tree.{Tree, neighbour, passes, sections}
use Rattle.fan_points.specs.declared.row.FanRow.{FanRow}
use Rattle.project_file.specs.declared.project.Project.{Project}
use Rattle.net_build.specs.Fans.{offered}
use Rattle.edit_script.specs.declared.script.Change.{Change}
use Rattle.edit_script.specs.declared.script.Change.TheVariants.{Length, Device, Airflow, Preset}
use Rattle.project_edit.specs.declared.edit.Edit.{Edit}
use Rattle.project_edit.specs.Edits.{edited}

-- the greatest pressure of the fans that serve the project's airflow
abbrev pub cap_of : Project → List FanRow → ℕ
cap_of p fans = greatest_pressure (offered fans p.energy (fan_flow p.flows))

-- the way of section x to the fan passes section s
abbrev pub is_on_way : Tree → ℕ → ℕ → Bool
is_on_way t x s = passes t s x

-- the way of section x to the fan passes what is next to the fan, if anything is
abbrev pub is_way_next : Tree → ℕ → Option ℕ → Bool
is_way_next t x None = false
is_way_next t x (Some n) = is_on_way t x n

-- what is changed of a section changes the pairs of the sections on its way; an airflow those of their children too
abbrev pub is_changed : Tree → Change → ℕ → ℕ → Bool
is_changed t (Length n) x s = is_on_way t x s
is_changed t (Device n) x s = is_on_way t x s
is_changed t (Airflow q) x s = is_on_way t x s || is_way_next t x (neighbour t s)
is_changed t (Preset name) x s = is_on_way t x s

-- where the greatest pressure is another, every section is touched
abbrev pub is_touched : Tree → Edit → Bool → ℕ → Bool
is_touched t e kept s = not kept || is_changed t e.change e.section s

-- the sections that the edit touches, in rising number
abbrev pub touched_in : Tree → Edit → Bool → List ℕ
touched_in t e kept = filter (is_touched t e kept) (sections t)

-- the greatest pressure of the fans on offer is as before
abbrev pub is_cap_kept : Project → List FanRow → Edit → Bool
is_cap_kept p fans e = cap_of (edited p e) fans == cap_of p fans

-- the same of a project
abbrev pub touched : Project → List FanRow → Edit → List ℕ
touched p fans e = touched_in p.tree e (is_cap_kept p fans e)
