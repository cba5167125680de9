-- What a session stands for, and that it is up to date.
--   Basis                 the project as it is now, its catalogues, and how many edits were applied
--   basis state           the basis of a session; none once memory ran out
--   after e               the basis after one edit more
--   IsMadeOf              a project's network and the rules' counts, from scratch
--   IsCurrent             the session's network, counts and best design are those of its basis under these rules
--   IsEdited              a project and the one after an edit of it
use Rattle.std.specs.Prelude.{◌≡◌, ℕ, ◌+◌, ◌*◌, ◌<◌, ◌≤◌, List, length, map, slice_index, Option, None, option_map, IsSomeAnd, All, Result, Ok, Err}
use Rattle.duct_units.specs.Rules.{first_broken}
use Rattle.duct_definitions.specs.Tree.{section_count, sections}
use Rattle.fan_points.specs.declared.row.FanRow.{FanRow}
use Rattle.project_file.specs.declared.project.Project.{Project}
use Rattle.project_file.specs.Projects.{IsProject}
use Rattle.design_rules.specs.declared.limits.TheConstants.{MAX_RULES}
use Rattle.design_rules.specs.Meanings.{Meaning}
use Rattle.net_build.specs.declared.limits.TheConstants.{MAX_ASKED, MAX_SECTION_ASKED}
use Rattle.net_build.specs.Built.{network_of}
use Rattle.net_build.specs.Catalogues.{Catalogues as CataloguesData, HasFriction}
use Rattle.net_build.specs.Joining.{joining_rules}
use Rattle.net_build.specs.Refusals.{refusals, section_refusals, CountsWithin}
use Rattle.project_edit.specs.declared.edit.Edit.{Edit}
use Rattle.project_edit.specs.declared.edit.EditError.{EditError}
use Rattle.project_edit.specs.declared.edit.EditError.TheVariants.{Refused, NoMemory}
use Rattle.project_edit.specs.Edits.{edited}
use Rattle.project_edit.specs.Refusals.{edit_refusal}
use Rattle.edit_session.specs.declared.catalogues.Catalogues.{Catalogues}
use Rattle.edit_session.specs.declared.making.Made.{Made}
use Rattle.edit_session.specs.declared.limits.TheConstants.{MAX_EDITS}
use Rattle.edit_session.specs.declared.state.State.{State}

-- the sizes, their friction and the fittings
abbrev pub catalogues_of : Catalogues → CataloguesData
catalogues_of c = record { sizes = c.sizes; friction = c.friction; fittings = c.fittings }

-- the project as it is now, what it is built from, and how many edits were applied
pub record Basis : Type 0 where
  pub project : Project
  pub catalogues : CataloguesData
  pub fans : List FanRow
  pub edits : ℕ

abbrev pub basis_of : State → Basis
basis_of s = record {
  project = s.project;
  catalogues = catalogues_of s.catalogues;
  fans = s.catalogues.fans;
  edits = s.edits;
}

-- none once memory ran out
abbrev pub basis : Option State → Option Basis
basis state = option_map basis_of state

-- of this project its network under the rules, and the rules' counts, from scratch
pub record IsMadeOf (p : Project) (c : CataloguesData) (fans : List FanRow) (rules : List Meaning) (names : List (List ℕ)) (made : Made) : Type 0 where
  pub network : made.condensed.net ≡ network_of p c fans rules
  pub counts : made.counts ≡ map (section_refusals p c rules names) (sections p.tree)
  pub most : All (CountsWithin MAX_SECTION_ASKED) made.counts
  pub refusals : made.refusals ≡ refusals p c rules names

-- a project whose names all join something, with what is made of it under these rules; and no rule has counted more
-- than it is asked in so many edits
pub record IsUpToDate {B : Type 0} (allows : B → Meaning) (label : B → List ℕ) (count : B → ℕ) (rules : List B) (s : State) : Type 0 where
  pub project : IsProject s.project
  pub friction : HasFriction s.catalogues.sizes s.catalogues.friction
  pub joined : first_broken (joining_rules s.project (catalogues_of s.catalogues)) ≡ None
  pub few : length rules ≤ MAX_RULES
  pub room : (i : ℕ) → slice_index (map count rules) i ≤ MAX_ASKED * (s.edits + 1)
  pub made : IsMadeOf s.project (catalogues_of s.catalogues) s.catalogues.fans (map allows rules) (map label rules) s.made
  pub edits : s.edits ≤ MAX_EDITS

-- q is the project p after the edit, which isn't refused, and each name of p joins something
pub record IsEdited (p q : Project) (c : CataloguesData) (e : Edit) : Type 0 where
  pub before : IsProject p
  pub named : e.section < section_count p.tree
  pub is : q ≡ edited p e
  pub unrefused : edit_refusal p c.sizes e ≡ None
  pub joined : first_broken (joining_rules p c) ≡ None

-- the session has not run out of memory, and is up to date
abbrev pub IsCurrent : {B : Type 0} → (B → Meaning) → (B → List ℕ) → (B → ℕ) → List B → Option State → Type 0
IsCurrent allows label count rules state = IsSomeAnd state (IsUpToDate allows label count rules)

-- the basis after one edit more
abbrev pub after : Edit → Basis → Basis
after e now = record now { project = edited now.project e; edits = now.edits + 1 }

-- the fact holds where the call refused
abbrev pub AfterRefusal : {Y : Type 0} → Result Y EditError → Type 0 → Type 0
AfterRefusal (Ok answer) fact = Unit {0}
AfterRefusal (Err (Refused reason)) fact = fact
AfterRefusal (Err NoMemory) fact = Unit {0}
