-- Counters and passes as callers see them.
--   Belongs which pass     the pass is one of these counters
--   IsNew which pass       it has done nothing
--   IsBack which pass      it has no turn
--   AreBack which passes   all passes are given back, and every leaf is noted
use Rattle.std.specs.Prelude.{◌≡◌, ℕ, ◌<◌, ◌≤◌, List, [], ◌∷◌, All, Bool, true, false, Option, Some, None, IfSome, IsTrue}
use Rattle.std.specs.List.{sum_by, flat_map}
use Rattle.atomic_table.specs.Seated.{TableId}
use Rattle.duct_definitions.specs.Network.{Network}
use Rattle.duct_definitions.specs.Tree.{section_count, is_leaf}
use Rattle.schedule_core.specs.Schedule.{is_in}
use Rattle.contract_join.specs.declared.outcome.Outcome.{Outcome}
use Rattle.contract_join.specs.Outcomes.{section_of}
use Rattle.child_counter.specs.declared.view.PassView.{PassView}
use Rattle.child_counter.specs.Passes.{sections_of, fresh_view}
use Rattle.child_counter.specs.Shown.{Plan}
use Rattle.child_counter.specs.Steps.{with_child}

-- the counters' table, their network, and the number of passes at the start
pub record Which : Type 0 where
  pub id : TableId
  pub net : Network
  pub passes : ℕ

-- the key of the table is what the counters say
pub record IsCounted (key : Plan) (which : Which) : Type 0 where
  pub net_is : key.net ≡ which.net
  pub passes_is : key.passes ≡ which.passes
  pub some_pass : 0 < which.passes

-- the table of a pass, what the pass knows, and whether a child is handed out
pub record PassData : Type 0 where
  pub id : TableId
  pub view : PassView
  pub away : Bool

-- the slot of the child that is handed out, which is empty, before the other slots
abbrev pub with_hole : Option Outcome → List (ℕ × Option Outcome) → List (ℕ × Option Outcome)
with_hole None held = held
with_hole (Some o) held = (section_of o, None) ∷ held

-- the slots that a pass holds, by its turn and by whether a child is handed out
abbrev pub HeldBy : Option ℕ → Bool → Option Outcome → List (ℕ × Option Outcome) → Type 0
HeldBy None false out held = (out ≡ None) × (held ≡ [])
HeldBy None true out held = ⊥
HeldBy (Some s) false out held = held ≡ with_child out ((s, None) ∷ [])
HeldBy (Some s) true out held = held ≡ with_hole out ((s, None) ∷ [])

-- what holds of the fields of a pass
pub record IsPass (v : PassView) (held : List (ℕ × Option Outcome)) (items : List ℕ) (room : ℕ)
    (away : Bool) : Type 0 where
  pub own_is : sections_of v.own ≡ items
  pub alone : v.joined ≡ []
  pub part : 0 < v.parts
  pub within : IfSome v.turn (λ s. s < section_count v.net.tree)
  pub roomy : section_count v.net.tree ≤ room
  pub slots : HeldBy v.turn away v.out held

-- the pass is one of these counters
pub record Belongs (which : Which) (pass : PassData) : Type 0 where
  pub id_is : pass.id ≡ which.id
  pub net_is : pass.view.net ≡ which.net

-- the sections that a pass finished, in the order of the finishes
abbrev pub finished_of : PassData → List ℕ
finished_of pass = sections_of pass.view.own

-- a pass of one part, which has done nothing
pub record IsNew (which : Which) (pass : PassData) : Type 0 where
  pub id_is : pass.id ≡ which.id
  pub view_is : pass.view ≡ fresh_view which.net 1
  pub home : pass.away ≡ false

-- the pass is one of these counters and has no turn
pub record IsBack (which : Which) (pass : PassData) : Type 0 where
  pub belongs : Belongs which pass
  pub free : pass.view.turn ≡ None

-- the leaves that the passes noted as found claimed
abbrev pub noted_by : List PassData → List ℕ
noted_by passes = flat_map (λ pass. pass.view.noted) passes

-- all passes are given back, none has a turn, and together they have noted every leaf
pub record AreBack (which : Which) (passes : List PassData) : Type 0 where
  pub each : All (IsBack which) passes
  pub parts : sum_by (λ pass. pass.view.parts) passes ≡ which.passes
  pub noted : (s : ℕ) → IsTrue (is_leaf which.net.tree s) → IsTrue (is_in (noted_by passes) s)
