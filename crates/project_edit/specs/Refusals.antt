-- Which edits are refused.
--   edit_rules p sizes e      the rules of an edit, in the order in which they are tested
--   edit_refusal p sizes e    the reason of the first that is broken, or none
--   Edits result refusal p    a call answered the changed project, or the refusal; or memory ran out
use Rattle.std.specs.Prelude.{◌≡◌, ℕ, ◌+◌, List, ◌∷◌, Bool, true, Option, Some, None, is_some, option_map, Result, Ok, Err}
use Rattle.std.specs.List.{flat_map}
use Rattle.duct_units.specs.declared.fault.Reason.{Reason}
use Rattle.duct_units.specs.declared.fault.Reason.TheVariants.{FlowGiven, UnknownPreset}
use Rattle.duct_units.specs.declared.fault.ReadError.{ReadError}
use Rattle.duct_units.specs.declared.fault.ReadError.TheVariants.{Refused as Unread, NoMemory as OutOfMemory}
use Rattle.duct_units.specs.Rules.{Rule, at_section, first_broken}
use Rattle.duct_definitions.specs.Airflow.{bound_rules, flow}
use Rattle.duct_definitions.specs.Tree.{is_leaf, sections}
use Rattle.size_catalogue.specs.Catalogue.{Catalogue}
use Rattle.project_file.specs.declared.project.Project.{Project}
use Rattle.project_file.specs.Projects.{airflows_of}
use Rattle.net_build.specs.Joining.{preset_place}
use Rattle.net_build.specs.Rows.{row_at}
use Rattle.edit_script.specs.declared.script.Change.{Change}
use Rattle.edit_script.specs.declared.script.Change.TheVariants.{Length, Device, Airflow, Preset}
use Rattle.project_edit.specs.declared.edit.Edit.{Edit}
use Rattle.project_edit.specs.declared.edit.EditError.{EditError}
use Rattle.project_edit.specs.declared.edit.EditError.TheVariants.{Refused, NoMemory}
use Rattle.project_edit.specs.Edits.{edited_rows}

-- an airflow is given to a leaf alone
abbrev pub suits_leaf : Bool → Change → Bool
suits_leaf leaf (Length n) = true
suits_leaf leaf (Device n) = true
suits_leaf leaf (Airflow q) = leaf
suits_leaf leaf (Preset name) = true

-- a size of the list has the name, where there is a name
abbrev pub is_listed_in : Catalogue → List ℕ → Option (List ℕ) → Bool
is_listed_in sizes list None = true
is_listed_in sizes list (Some name) = is_some (preset_place sizes list name)

-- a preset is a size of the section's list
abbrev pub suits_list : Catalogue → List ℕ → Change → Bool
suits_list sizes list (Length n) = true
suits_list sizes list (Device n) = true
suits_list sizes list (Airflow q) = true
suits_list sizes list (Preset name) = is_listed_in sizes list name

-- an airflow is given to a leaf alone; a preset is a size of the section's list; and no section of the changed project
-- carries more than a section may, what leaks among it
abbrev pub edit_rules : Project → Catalogue → Edit → List Rule
edit_rules p sizes e =
    at_section (e.section + 1) (suits_leaf (is_leaf p.tree e.section) e.change) FlowGiven
    ∷ at_section (e.section + 1) (suits_list sizes (row_at p e.section).list e.change) UnknownPreset
    ∷ flat_map (bound_rules (flow p.tree (airflows_of (edited_rows p e)))) (sections p.tree)

-- the reason of the first rule that the edit breaks, or none
abbrev pub edit_refusal : Project → Catalogue → Edit → Option Reason
edit_refusal p sizes e = option_map (λ fault. fault.reason) (first_broken (edit_rules p sizes e))

-- the refusal of airflows as one of an edit, which keeps the reason alone
abbrev pub error_of : ReadError → EditError
error_of (Unread fault) = Refused fault.reason
error_of OutOfMemory = NoMemory

-- the call refused what is to be refused, or memory ran out
abbrev pub Refuses : EditError → Option Reason → Type 0
Refuses (Refused reason) refusal = refusal ≡ Some reason
Refuses NoMemory refusal = Unit {0}

-- the call answered the value where nothing is refused, and else the refusal; or memory ran out
abbrev pub Edits : {Y : Type 0} → Result Y EditError → Option Reason → Y → Type 0
Edits (Ok answer) refusal value = (refusal ≡ None) × (answer ≡ value)
Edits (Err error) refusal value = Refuses error refusal
