-- Finishing a section below its neighbour, and one at the fan.
use Rattle.std.proofs.Common.{◌≡◌, ◌≢◌, ℕ, ◌+◌, ◌-◌, ◌<◌, List, set, length, Option, Some, None, Bool, true, false, refl, ap, sym, ◌∙◌, arith, inl, inr, slice_index, slice_set, cond}
use Rattle.std.proofs.lemmas.Bool.{both_ways, false_from_ne_true}
use Rattle.std.proofs.lemmas.Bool.Decides.{eqb_tells}
use Rattle.std.proofs.lemmas.List.{length-set}
use Rattle.std.specs.Prelude.{◌==◌, not, ◌&&◌}
use Rattle.std.specs.List.{list_all}
use mathlib.Core.Option.{some, none}
use lib.ListN.{get_elem?}
use Rattle.atomic_table.proofs.Lists.{set_here, set_else}
use Rattle.duct_definitions.specs.Network.{Network}
use Rattle.duct_definitions.specs.Tree.{IsTree, section_count, neighbour, children, is_number}
use Rattle.duct_definitions.proofs.TreeLaws.{earlier}
use Rattle.schedule_core.specs.declared.events.Event.TheVariants.{Finish}
use Rattle.schedule_core.specs.Schedule.{State, is_in, is_claimed, accepts, added}
use Rattle.schedule_core.specs.Answers.{claimed_neighbour}
use Rattle.schedule_core.specs.CoreFields.{number_of}
use Rattle.schedule_core.proofs.Claims.{is_claimed-inner}
use Rattle.schedule_core.proofs.Membership.{is_in-other}
use Rattle.schedule_core.proofs.Numbers.{neighbour_inner}
use Rattle.contract_join.specs.declared.outcome.Outcome.{Outcome}
use Rattle.contract_join.specs.Outcomes.{IsOutcomeOf}
use Rattle.child_counter.specs.declared.view.PassView.{PassView}
use Rattle.child_counter.specs.Passes.{finished_view}
use Rattle.child_counter.specs.Shown.{Homes, Shows, one_if}
use Rattle.child_counter.specs.Steps.{IsFinish, next_turn}
use Rattle.child_counter.proofs.Sums.{one_if-no, number-same, number-none, some_same}
use Rattle.child_counter.proofs.States.{after-accepted, claimed_beside, neighbour_claimed}
use Rattle.child_counter.proofs.Words.{words-below, words-fan}
use Rattle.child_counter.proofs.Finishing.{Turned, turned-is, finish-shows}

-- a finish becomes acceptable of the neighbour alone, where one child was left
gained-below : (net : Network) (state : State) (s n : ℕ) → IsTree net.tree → Turned net state s
    → neighbour net.tree s ≡ Some n → ((u : ℕ) → is_in state.done u ≡ true → is_claimed net.tree state u ≡ true)
    → (u : ℕ) → u ≢ s → one_if (accepts net.tree (added state (Finish s)) (Finish u)) ≡ one_if
    (accepts net.tree state (Finish u)) + one_if (is_number u (next_turn (Some n) (number_of net.tree state n)))
gained-below net state s n tree turned is done_claimed u differs =
    let new : State = added state (Finish s) in
    let found : ℕ = number_of net.tree state n in
    let parts = neighbour_claimed net.tree state s n tree turned.within turned.unfinished is in
    let unseen : is_in new.done u ≡ is_in state.done u = is_in-other state.done s u differs in
    elim (eqb_tells u n) [
      | inl p ↦ (
          let free : is_claimed net.tree state u ≡ false = ap (is_claimed net.tree state) p.1 ∙ parts.1 in
          let new_is : is_in state.done u ≡ false = false_from_ne_true _
          (λ done. both_ways (is_claimed net.tree state u) free (done_claimed u done)) in
          let after : accepts net.tree new (Finish u) ≡ (found == 1) =
          ap (λ b. is_claimed net.tree new u && not b) (unseen ∙ new_is)
          ∙ ap (λ x. is_claimed net.tree new x && true) p.1 ∙ ap (λ b. b && true) parts.2 ∙ and-one (found == 1) in
          let before : accepts net.tree state (Finish u) ≡ false = ap (λ b. b && not (is_in state.done u)) free in
          let next : is_number u (next_turn (Some n) found) ≡ (found == 1) =
          elim (found == 1) as (λ b. is_number u (cond b (Some n) None) ≡ b)
          [ true ↦ ap (λ x. is_number x (Some n)) p.1 ∙ number-same n | false ↦ refl ] in
          let a = ap one_if after in
          let b = one_if-no _ before in
          let c = ap one_if next in
          omega arith)
      | inr p ↦ (
          let claimed = claimed_beside net.tree state s u turned.within turned.unfinished
          (λ e. p.1 (some_same u n (sym e ∙ is))) in
          let same : accepts net.tree new (Finish u) ≡ accepts net.tree state (Finish u) =
          ap (λ b. is_claimed net.tree new u && not b) unseen ∙ ap (λ b. b && not (is_in state.done u)) claimed in
          let none_is : is_number u (next_turn (Some n) found) ≡ false =
          elim (found == 1) as (λ b. is_number u (cond b (Some n) None) ≡ false)
          [ true ↦ number-none u (Some n) (λ e. p.1 (sym (some_same n u e))) | false ↦ refl ] in
          let a = ap one_if same in
          let b = one_if-no _ none_is in
          omega arith)
    ]
  where
    and-one : (b : Bool) → (b && true) ≡ b
    and-one true = refl
    and-one false = refl

-- at the fan no other finish becomes acceptable
gained-fan : (net : Network) (state : State) (s : ℕ) → Turned net state s → neighbour net.tree s ≡ None
    → (u : ℕ) → u ≢ s → one_if (accepts net.tree (added state (Finish s)) (Finish u)) ≡ one_if
    (accepts net.tree state (Finish u)) + one_if (is_number u None)
gained-fan net state s turned is u differs =
    let new : State = added state (Finish s) in
    let unseen : is_in new.done u ≡ is_in state.done u = is_in-other state.done s u differs in
    let claimed = claimed_beside net.tree state s u turned.within turned.unfinished
    (λ e. let z : None ≡ Some u = sym is ∙ e in cc z) in
    let same : accepts net.tree new (Finish u) ≡ accepts net.tree state (Finish u) =
    ap (λ b. is_claimed net.tree new u && not b) unseen ∙ ap (λ b. b && not (is_in state.done u)) claimed in
    let a = ap one_if same in
    omega arith

-- the section that the finish claims
finish-below : (net : Network) (state : State) (s n found : ℕ) → IsTree net.tree → Turned net state s
    → neighbour net.tree s ≡ Some n → found ≡ number_of net.tree state n
    → IsFinish net s (next_turn (Some n) found) state found (added state (Finish s))
finish-below net state s n found tree turned is word =
    let new : State = added state (Finish s) in
    let parts = neighbour_claimed net.tree state s n tree turned.within turned.unfinished is in
    let before = earlier net.tree s n tree turned.within is in
    let all : list_all (is_in new.done) (children net.tree n) ≡ (found == 1) =
    sym (is_claimed-inner net.tree new n (let a = turned.within in omega arith)
    (neighbour_inner net.tree s n turned.within is)) ∙ parts.2 ∙ ap (λ k. k == 1) (sym word) in
    record {
      accepted = turned.accepted;
      event = sym (after-accepted net.tree state (Finish s) turned.accepted);
      next_is = sym (ap (claimed_neighbour net.tree new) is ∙ ap (λ b. cond b (Some n) None) all);
      word = ap (λ o. next_turn o found) (sym is);
    }

finish-fan : (net : Network) (state : State) (s found : ℕ) → Turned net state s → neighbour net.tree s ≡ None
    → IsFinish net s None state found (added state (Finish s))
finish-fan net state s found turned is =
    record {
      accepted = turned.accepted;
      event = sym (after-accepted net.tree state (Finish s) turned.accepted);
      next_is = sym (ap (claimed_neighbour net.tree (added state (Finish s))) is);
      word = elim (found == 1) as (λ (b : Bool). ◌≡◌ {A = Option ℕ} None (cond b None None))
          [ true ↦ refl | false ↦ refl ] ∙ ap (λ o. next_turn o found) (sym is);
    }

-- Below a section: its word was not 0, the schedule's event happened, and the slots are as the finish leaves them, given
-- where the neighbour's slot is.
below-with : (net : Network) (passes : ℕ) (state : State) (words : List ℕ) (homes new_homes : Homes)
    (views : List PassView) (i s n : ℕ) (v : PassView) (o : Outcome)
    → IsTree net.tree → Shows net passes state words homes views → length homes ≡ section_count net.tree
    → get_elem? views i ≡ some v → v.turn ≡ Some s → v.out ≡ None → neighbour net.tree s ≡ Some n
    → IsOutcomeOf net s o
    → get_elem? new_homes s ≡ some (some (Some o)) → ((u : ℕ) → next_turn (Some n) (slice_index words n) ≡ Some u
    → get_elem? new_homes u ≡ some none)
    → ((u : ℕ) → u ≢ s → (next_turn (Some n) (slice_index words n) ≡ Some u → ⊥)
    → get_elem? new_homes u ≡ get_elem? homes u)
    → (0 < slice_index words n) × IsFinish net s (next_turn (Some n) (slice_index words n)) state
    (slice_index words n) (added state (Finish s))
    × Shows net passes (added state (Finish s)) (slice_set words n (slice_index words n - 1)) new_homes
    (set views i (finished_view (Some o) (next_turn (Some n) (slice_index words n)) v))
below-with net passes state words homes new_homes views i s n v o tree h long at mine free is fits own turned_out
    others =
    let found : ℕ = slice_index words n in
    let turned = turned-is net passes state words homes views i s v h at mine in
    let before = earlier net.tree s n tree turned.within is in
    let word : found ≡ number_of net.tree state n = h.counts.sections n (let a = turned.within in omega arith) in
    let counted = words-below net.tree state s n words tree h.counts turned.within turned.unfinished is in (
      counted.0,
      finish-below net state s n found tree turned is word,
      finish-shows net passes state words (slice_set words n (found - 1)) homes new_homes views i s v
          (next_turn (Some n) found) o tree h at mine free fits counted.1
          (λ u differs. gained-below net state s n tree turned is h.done_claimed u differs
          ∙ ap (λ k. one_if (accepts net.tree state (Finish u)) + one_if (is_number u (next_turn (Some n) k)))
          (sym word))
          (λ e. elim (found == 1) as (λ b. cond b (Some n) None ≡ Some s
          → ⊥) [ true ↦ λ q. (let z = some_same n s q in omega arith) | false ↦ λ q. cc q ] e)
          own turned_out others,
    )

-- where other children are left
pub finish-more : (net : Network) (passes : ℕ) (state : State) (words : List ℕ) (homes : Homes)
    (views : List PassView) (i s n : ℕ) (v : PassView) (o : Outcome)
    → IsTree net.tree → Shows net passes state words homes views → length homes ≡ section_count net.tree
    → get_elem? views i ≡ some v → v.turn ≡ Some s → v.out ≡ None → neighbour net.tree s ≡ Some n
    → IsOutcomeOf net s o → slice_index words n ≢ 1
    → (0 < slice_index words n) × IsFinish net s (next_turn (Some n) (slice_index words n)) state
    (slice_index words n) (added state (Finish s))
    × Shows net passes (added state (Finish s)) (slice_set words n (slice_index words n - 1))
    (set homes s (some (Some o))) (set views i (finished_view (Some o)
    (next_turn (Some n) (slice_index words n)) v))
finish-more net passes state words homes views i s n v o tree h long at mine free is fits differs =
    let turned = turned-is net passes state words homes views i s v h at mine in
    let no_turn : next_turn (Some n) (slice_index words n) ≡ None =
    elim (eqb_tells (slice_index words n) 1) [
      | inl p ↦ absurd (differs p.1)
      | inr p ↦ ap
          (λ b. cond b (Some n) None) p.0
    ] in
    below-with net passes state words homes (set homes s (some (Some o))) views i s n v o tree h long at mine free is
    fits
    (set_here homes s (some (Some o)) (let a = turned.within in omega arith))
    (λ u e. absurd (let z : None ≡ Some u = sym no_turn ∙ e in cc z))
    (λ u apart none_is. set_else homes s u (some (Some o)) apart)

-- where it was the last child: the neighbour's slot, which is empty, comes out
pub finish-last : (net : Network) (passes : ℕ) (state : State) (words : List ℕ) (homes : Homes)
    (views : List PassView) (i s n : ℕ) (v : PassView) (o : Outcome)
    → IsTree net.tree → Shows net passes state words homes views → length homes ≡ section_count net.tree
    → get_elem? views i ≡ some v → v.turn ≡ Some s → v.out ≡ None → neighbour net.tree s ≡ Some n
    → IsOutcomeOf net s o → slice_index words n ≡ 1
    → (get_elem? (set homes s (some (Some o))) n ≡ some (some None))
    × (0 < slice_index words n) × IsFinish net s (next_turn (Some n) (slice_index words n)) state
    (slice_index words n) (added state (Finish s))
    × Shows net passes (added state (Finish s)) (slice_set words n (slice_index words n - 1))
    (set (set homes s (some (Some o))) n none) (set views i
    (finished_view (Some o) (next_turn (Some n) (slice_index words n)) v))
finish-last net passes state words homes views i s n v o tree h long at mine free is fits one =
    let turned = turned-is net passes state words homes views i s v h at mine in
    let before = earlier net.tree s n tree turned.within is in
    let within = turned.within in
    let laid : Homes = set homes s (some (Some o)) in
    let long_laid : length laid ≡ length homes = length-set homes s (some (Some o)) in
    let next : next_turn (Some n) (slice_index words n) ≡ Some n = ap (next_turn (Some n)) one in
    let who : (u : ℕ) → next_turn (Some n) (slice_index words n) ≡ Some u
    → u ≡ n = (λ u e. some_same u n (sym e ∙ next)) in
    let free_n = (neighbour_claimed net.tree state s n tree turned.within turned.unfinished is).1 in
    let step = below-with net passes state words homes
    (set laid n none) views i s n v o tree h long at mine free is fits
    (set_else laid n s none (λ e. omega arith) ∙ set_here homes s (some (Some o)) (omega arith))
    (λ u e. ap (get_elem? (set laid n none)) (who u e) ∙ set_here laid n none (omega arith))
    (λ u apart other. set_else laid n u none (λ e. other (next ∙ ap Some (sym e)))
    ∙ set_else homes s u (some (Some o)) apart) in (
      set_else homes s n (some (Some o)) (λ e. omega arith)
          ∙ (h.slots n (omega arith)).empty free_n,
      step.0,
      step.1,
      step.2,
    )

-- at the fan
pub finish-root : (net : Network) (passes : ℕ) (state : State) (words : List ℕ) (homes : Homes)
    (views : List PassView) (i s : ℕ) (v : PassView) (o : Outcome)
    → IsTree net.tree → Shows net passes state words homes views → length homes ≡ section_count net.tree
    → get_elem? views i ≡ some v → v.turn ≡ Some s → v.out ≡ None → neighbour net.tree s ≡ None
    → IsOutcomeOf net s o
    → (0 < slice_index words (section_count net.tree))
    × IsFinish net s None state (slice_index words (section_count net.tree)) (added state (Finish s))
    × Shows net passes (added state (Finish s)) (slice_set words (section_count net.tree)
    (slice_index words (section_count net.tree) - 1)) (set homes s (some (Some o)))
    (set views i (finished_view (Some o) None v))
finish-root net passes state words homes views i s v o tree h long at mine free is fits =
    let n : ℕ = section_count net.tree in
    let turned = turned-is net passes state words homes views i s v h at mine in
    let counted = words-fan net.tree state s words h.counts turned.within turned.unfinished is in (
      counted.0,
      finish-fan net state s (slice_index words n) turned is,
      finish-shows net passes state words (slice_set words n (slice_index words n - 1)) homes
          (set homes s (some (Some o))) views i s v None o tree h at mine free fits counted.1
          (gained-fan net state s turned is) (λ e. cc e)
          (set_here homes s (some (Some o)) (let a = turned.within in omega arith)) (λ u e. absurd (cc e))
          (λ u apart none_is. set_else homes s u (some (Some o)) apart),
    )
