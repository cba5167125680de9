-- What each step on the table tells the pass that makes it.
--   Happens        the table showed a state before the step and shows one after it
--   IsClaim        the step was the event that claims a leaf
--   IsFinish       the step was the event that finishes a section
--   IsNoEvent      the step was no event
use Rattle.std.specs.Prelude.{◌≡◌, ℕ, List, [], ◌∷◌, Bool, true, ◌==◌, Option, Some, None, set, slice_index, unwrap_or, if◌then◌else◌}
use mathlib.Core.Option.{some}
use lib.ListN.{get_elem?}
use Rattle.atomic_table.specs.Table.{Step, Me, State as TableState, rest}
use Rattle.duct_definitions.specs.Network.{Network}
use Rattle.duct_definitions.specs.Tree.{Tree, section_count, neighbour}
use Rattle.schedule_core.specs.declared.events.Event.TheVariants.{Claim, Finish}
use Rattle.schedule_core.specs.Schedule.{State, accepts, after_event}
use Rattle.schedule_core.specs.Answers.{next_of}
use Rattle.contract_join.specs.declared.outcome.Outcome.{Outcome}
use Rattle.contract_join.specs.Outcomes.{section_of, IsOutcomeOf}
use Rattle.child_counter.specs.declared.view.PassView.{PassView}
use Rattle.child_counter.specs.Passes.{claimed_view, finished_view, out_view}
use Rattle.child_counter.specs.Shown.{Shows}

-- The table showed the state `before`, in which this word was `found`, and after the step it shows the state `after`.
-- Of all passes this one alone has changed, from v to w.
pub record Happens (v w : PassView) (word : ℕ) (related : State → ℕ → State → Type 0) : Type 0 where
  pub passes : ℕ
  pub place : ℕ
  pub old : TableState (Option Outcome) PassView
  pub new : TableState (Option Outcome) PassView
  pub before : State
  pub after : State
  pub shown : Shows v.net passes before old.words old.homes old.views
  pub shows : Shows v.net passes after new.words new.homes new.views
  pub had : get_elem? old.views place ≡ some v
  pub has : new.views ≡ set old.views place w
  pub event : related before (slice_index old.words word) after

-- the claim of a leaf: accepted exactly where its word was 1
pub record IsClaim (net : Network) (leaf : ℕ) (got : Bool) (before : State) (found : ℕ) (after : State) : Type 0 where
  pub event : after ≡ after_event net.tree before (Claim leaf)
  pub accepted : got ≡ accepts net.tree before (Claim leaf)
  pub word : got ≡ (found == 1)

-- the word that a finish counts down: the neighbour's, or at the fan the last one, the roots'
abbrev pub counted_word : Tree → ℕ → ℕ
counted_word t s = unwrap_or (neighbour t s) (section_count t)

-- the section, where it was got
abbrev pub turn_if : Bool → ℕ → Option ℕ
turn_if got s = if got then Some s else None

-- the neighbour, where its word was 1
abbrev pub next_turn : Option ℕ → ℕ → Option ℕ
next_turn neighbour found = if found == 1 then neighbour else None

-- the finish of a section, which is accepted. The neighbour is claimed by it exactly where its word was 1.
pub record IsFinish (net : Network) (s : ℕ) (next : Option ℕ) (before : State) (found : ℕ)
    (after : State) : Type 0 where
  pub accepted : accepts net.tree before (Finish s) ≡ true
  pub event : after ≡ after_event net.tree before (Finish s)
  pub next_is : next ≡ next_of net.tree after (Finish s)
  pub word : next ≡ next_turn (neighbour net.tree s) found

-- no event: the state is as it was
abbrev pub IsNoEvent : State → ℕ → State → Type 0
IsNoEvent before found after = after ≡ before

-- the slots held after a claim or a finish: the own slot of the turn's section, still empty
abbrev pub own_slot : Option ℕ → List (ℕ × Option Outcome) → List (ℕ × Option Outcome)
own_slot None held = held
own_slot (Some s) held = (s, None) ∷ held

-- what lies in the slot that was taken first
abbrev pub laid_behind : Option Outcome → List (ℕ × Option Outcome) → Option Outcome
laid_behind o [] = o
laid_behind o (x ∷ held) = laid_behind x.1 held

-- what lies in the turn's own slot, which was taken first of those that are held
abbrev pub laid : List (ℕ × Option Outcome) → Option Outcome
laid held = laid_behind None held

-- a claim of the leaf whose word is swapped
abbrev pub Claims : Step (Option Outcome) → Me (Option Outcome) PassView → ℕ → Me (Option Outcome) PassView → Type 0
Claims st me found after =
    let turn : Option ℕ = next_turn (Some st.word) found in
    (after ≡ (claimed_view st.word turn me.0, own_slot turn me.1))
    × Happens me.0 after.0 st.word (IsClaim me.0.net st.word (found == 1))

-- the section whose turn it was; 0 where there was none
abbrev pub section_at : Option ℕ → ℕ
section_at turn = unwrap_or turn 0

-- a finish below the section whose word is counted down
abbrev pub FinishesBelow : Step (Option Outcome) → Me (Option Outcome) PassView → ℕ → Me (Option Outcome) PassView
    → Type 0
FinishesBelow st me found after =
    let next : Option ℕ = next_turn (Some st.word) found in
    (after ≡ (finished_view (laid me.1) next me.0, own_slot next []))
    × Happens me.0 after.0 st.word (IsFinish me.0.net (section_at me.0.turn) next)

-- a finish at the fan
abbrev pub FinishesAtFan : Step (Option Outcome) → Me (Option Outcome) PassView → ℕ → Me (Option Outcome) PassView
    → Type 0
FinishesAtFan st me found after =
    (after ≡ (finished_view (laid me.1) None me.0, []))
    × Happens me.0 after.0 st.word (IsFinish me.0.net (section_at me.0.turn) None)

-- the child that may be out, before the other slots that are held
abbrev pub with_child : Option Outcome → List (ℕ × Option Outcome) → List (ℕ × Option Outcome)
with_child None held = held
with_child (Some o) held = (section_of o, Some o) ∷ held

-- what is held without the child that may have been out
abbrev pub without_child : Option Outcome → List (ℕ × Option Outcome) → List (ℕ × Option Outcome)
without_child None held = held
without_child (Some o) held = rest held

-- the child comes out, with the outcome with which it was finished
abbrev pub Takes : ℕ → Step (Option Outcome) → Me (Option Outcome) PassView → ℕ → Me (Option Outcome) PassView
    → Type 0
Takes child st me found after =
    (o : Outcome) × (after ≡ (out_view (Some o) me.0, with_child (Some o) (without_child me.0.out me.1)))
    × IsOutcomeOf me.0.net child o
    × Happens me.0 after.0 st.word IsNoEvent
