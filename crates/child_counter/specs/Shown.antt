-- The rule of the table: its words, its slots and what passes know show a state of the schedule.
--   AreWords t state words     what each word says
--   IsSlot                     where the slot of a section is, and what is in it
--   IsView                     what holds of each pass
--   Shows                      all of it
use Rattle.std.specs.Prelude.{◌≡◌, ℕ, ◌+◌, ◌<◌, List, [], All, length, filter, Bool, true, false, not, Option, Some, None, slice_get, slice_index, if◌then◌else◌}
use Rattle.std.specs.List.{sum_by, count_by}
use mathlib.Core.Option.{some, none}
use lib.ListN.{get_elem?}
use Rattle.duct_definitions.specs.Network.{Network}
use Rattle.duct_definitions.specs.Tree.{Tree, section_count, sections, neighbour, is_root}
use Rattle.schedule_core.specs.declared.events.Event.{Event}
use Rattle.schedule_core.specs.declared.events.Event.TheVariants.{Finish}
use Rattle.schedule_core.specs.Schedule.{State, is_in, is_claimed, accepts, state_after}
use Rattle.schedule_core.specs.CoreFields.{number_of}
use Rattle.contract_join.specs.declared.outcome.Outcome.{Outcome}
use Rattle.contract_join.specs.Outcomes.{section_of, IsOutcomeOf}
use Rattle.child_counter.specs.declared.view.PassView.{PassView}
use Rattle.child_counter.specs.Passes.{sections_of, finishes, turns, outs, IsPublished}

-- the slot of a section, if there is one: out, or home with what came of the section, if it is done
abbrev pub Slot : Type 0
Slot = mathlib.Core.Option.Option (mathlib.Core.Option.Option (Option Outcome))

-- the slots of all sections: out, or home with what is in them
abbrev pub Homes : Type 0
Homes = List (mathlib.Core.Option.Option (Option Outcome))

-- the network whose sections are counted, and the number of passes
pub record Plan : Type 0 where
  pub net : Network
  pub passes : ℕ

-- the sections at the fan, on both sides
abbrev pub all_roots : Tree → List ℕ
all_roots t = filter (is_root t) (sections t)

-- how many of these sections aren't done
abbrev pub open_among : State → List ℕ → ℕ
open_among state xs = count_by (λ s. not (is_in state.done s)) xs

-- A leaf's word is 1 where it is unclaimed, else 0. Another section's word is the number of its children that aren't
-- done. The last word is the number of roots that aren't done.
pub record AreWords (t : Tree) (state : State) (words : List ℕ) : Type 0 where
  pub count : length words ≡ section_count t + 1
  pub sections : (s : ℕ) → s < section_count t → slice_index words s ≡ number_of t state s
  pub roots : slice_index words (section_count t) ≡ open_among state (all_roots t)

-- some list of events leads to the state
abbrev pub IsReached : Tree → State → Type 0
IsReached t state = (events : List Event) × (state ≡ state_after t events)

-- in the list a child stands before its neighbour
abbrev pub AreChildrenBefore : Tree → List ℕ → Type 0
AreChildrenBefore t xs =
    (i k c s : ℕ) → slice_get xs i ≡ Some c → slice_get xs k ≡ Some s → neighbour t c ≡ Some s → i < k

-- 1 where it holds, else 0
abbrev pub one_if : Bool → ℕ
one_if b = if b then 1 else 0

-- a pass without parts has done nothing, and has nothing
pub record IsIdle (v : PassView) : Type 0 where
  pub own : v.own ≡ []
  pub joined : v.joined ≡ []
  pub turn : v.turn ≡ None
  pub noted : v.noted ≡ []

-- the child that is out is of the network, and its neighbour is the turn's section
pub record IsLent (net : Network) (v : PassView) (o : Outcome) : Type 0 where
  pub within : section_of o < section_count net.tree
  pub fits : IsOutcomeOf net (section_of o) o
  pub turn : (s : ℕ) × (v.turn ≡ Some s) × (neighbour net.tree (section_of o) ≡ Some s)

-- what holds of each pass
pub record IsView (net : Network) (state : State) (views : List PassView) (v : PassView) : Type 0 where
  pub network : 0 < v.parts → v.net ≡ net
  pub idle : v.parts ≡ 0 → IsIdle v
  pub ordered : AreChildrenBefore net.tree (sections_of v.own)
  pub others : All (λ outcomes. AreChildrenBefore net.tree (sections_of outcomes)) v.joined
  pub noted : (s : ℕ) → is_in v.noted s ≡ true → is_claimed net.tree state s ≡ true
  pub lent : (o : Outcome) → v.out ≡ Some o → IsLent net v o × IsPublished views o

-- The slot of an unclaimed section is home and empty. The slot of a turn's own section is out, and so is that of a
-- child that a turn has out. The slot of any other done section is home and holds what came of it.
pub record IsSlot (net : Network) (state : State) (views : List PassView) (s : ℕ) (slot : Slot) : Type 0 where
  pub empty : is_claimed net.tree state s ≡ false → slot ≡ some (some None)
  pub out : 0 < turns views s + outs views s → slot ≡ some none
  pub full : is_in state.done s ≡ true → outs views s ≡ 0
      → (o : Outcome) × (slot ≡ some (some (Some o))) × IsOutcomeOf net s o × IsPublished views o

-- The words, the slots and the passes show the state. A section that is done stands in one list of one pass, once, and
-- no other stands in any. A section that is claimed and not done is the turn of one pass, and no other is anybody's.
pub record Shows (net : Network) (passes : ℕ) (state : State) (words : List ℕ) (homes : Homes)
    (views : List PassView) : Type 0 where
  pub reached : IsReached net.tree state
  pub counts : AreWords net.tree state words
  pub done_claimed : (s : ℕ) → is_in state.done s ≡ true → is_claimed net.tree state s ≡ true
  pub lists : (s : ℕ) → finishes views s ≡ one_if (is_in state.done s)
  pub turn_of : (s : ℕ) → turns views s ≡ one_if (accepts net.tree state (Finish s))
  pub slots : (s : ℕ) → s < section_count net.tree → IsSlot net state views s (get_elem? homes s)
  pub each : (i : ℕ) (v : PassView) → get_elem? views i ≡ some v → IsView net state views v
  pub parts : sum_by (λ v. v.parts) views ≡ passes
