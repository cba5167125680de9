-- The schedule is orderly at the start, and every event keeps it so.
use Rattle.std.proofs.Common.{◌≡◌, ℕ, zero, suc, ◌+◌, ◌<◌, ◌≤◌, List, [], ◌∷◌, ◌++◌, length, take, get_or, Bool, true, false, Some, refl, ap, sym, ◌∙◌, arith, inl, inr}
use Rattle.std.proofs.lemmas.Bool.{both_ways, and_parts, not-true, cases_Bool, cases_lt, cond_both, and_from}
use Rattle.std.proofs.lemmas.Cmp.{nat_eq_equiv}
use Rattle.std.proofs.lemmas.List.{length_push, take-append-le, get_or_push}
use Rattle.std.proofs.Math.ListN.{get_or-append}
use Rattle.std.proofs.Math.Seq.{take-append_seam}
use Rattle.std.proofs.lemmas.Map.Keys.{IsDistinct-push, IsDistinct-from_apart}
use Rattle.std.proofs.lemmas.Option.{slice_get-get_or, slice_get_within, get_or_from_slice_get}
use Rattle.std.specs.Prelude.{◌==◌, not, All, fold, slice_get, IsTrue}
use Rattle.std.specs.List.{list_all}
use Rattle.duct_definitions.specs.Tree.{Tree, IsTree, section_count, neighbour, children, is_leaf, is_number}
use Rattle.duct_definitions.proofs.SectionLists.{children_later, chosen_below}
use Rattle.schedule_core.specs.declared.events.Event.{Event}
use Rattle.schedule_core.specs.declared.events.Event.TheVariants.{Claim, Finish}
use Rattle.schedule_core.specs.Schedule.{State, at_start, is_in, is_claimed, accepts, added, after_event, state_after}
use Rattle.schedule_core.specs.Orderly.{AreDistinct, AreChildrenFirst, EndsWithAll, IsOrderly}
use Rattle.schedule_core.proofs.Membership.{in-push}
use Rattle.schedule_core.proofs.Claims.{is_claimed-leaf, is_claimed-inner, claimed_within, children_done}

-- a test that each element passes
all_pass : (test : ℕ → Bool) (xs : List ℕ) → All (λ x. test x ≡ true) xs → list_all test xs ≡ true
all_pass test [] each = refl
all_pass test (x ∷ xs) each =
    and_from (test x) (list_all test xs) (each 0 x (omega arith)) (all_pass test xs (λ k d within. each (suc k) d (omega arith)))

-- The last sections first: a section's children have greater numbers, so they are done before it is looked at.
all_from : (t : Tree) (state : State) → IsTree t
    → ((s : ℕ) → IsTrue (is_leaf t s) → IsTrue (is_claimed t state s))
    → ((s : ℕ) → IsTrue (is_claimed t state s) → IsTrue (is_in state.done s))
    → (k s : ℕ) → section_count t ≤ s + k → s < section_count t → is_in state.done s ≡ true
all_from t state tree claimed done zero s last within = absurd (omega arith)
all_from t state tree claimed done (suc k) s last within =
    elim (cases_Bool (is_leaf t s)) [
      | inl leaf ↦ done s (claimed s leaf)
      | inr inner ↦
          let later = children_later t s tree in
          let below = chosen_below (λ c. is_number s (neighbour t c)) (section_count t) in
          let all = all_pass (is_in state.done) (children t s) (λ i d at.
          let after : s < get_or (children t s) i d = later i d at in
          all_from t state tree claimed done k (get_or (children t s) i d) (omega arith) (below i d at)) in
          done s (is_claimed-inner t state s within inner ∙ all)
    ]

pub ends_with_all : (t : Tree) (state : State) → IsTree t → EndsWithAll t state
ends_with_all t state tree claimed done s within =
    all_from t state tree claimed done (section_count t) s (omega arith) within

-- one more section, whose children stand in the list
children_first-push : (t : Tree) (xs : List ℕ) (s : ℕ) → AreChildrenFirst t xs
    → list_all (is_in xs) (children t s) ≡ true → AreChildrenFirst t (xs ++ s ∷ [])
children_first-push t xs s before here i x at =
    let long = length_push xs s in
    let within = slice_get_within (xs ++ s ∷ []) i x at in
    let is : get_or (xs ++ s ∷ []) i x ≡ x = get_or_from_slice_get (xs ++ s ∷ []) i x x at in
    elim (cases_lt i (length xs)) [
      | inl old ↦
          let stood : slice_get xs i ≡ Some x =
          slice_get-get_or xs i x old ∙ ap Some (sym (get_or-append xs (s ∷ []) x i old) ∙ is) in
          rw (take-append-le i xs (s ∷ []) (omega arith)) (before i x stood)
      | inr new ↦
          let last : length xs ≡ i = omega arith in
          let same : s ≡ x = sym (get_or_push xs s x i last) ∙ is in
          let front : take i (xs ++ s ∷ []) ≡ xs =
          ap (λ n. take n (xs ++ s ∷ [])) (sym last) ∙ take-append_seam xs (s ∷ []) in
          ap (λ ys. list_all (is_in ys) (children t x)) front
          ∙ ap (λ y. list_all (is_in xs) (children t y)) (sym same)
          ∙ here
    ]

orderly_claimed : (t : Tree) (state : State) (s : ℕ) → IsTree t → IsOrderly t state
    → accepts t state (Claim s) ≡ true → IsOrderly t (added state (Claim s))
orderly_claimed t state s tree orderly accepted =
    let (leaf, free) = and_parts (is_leaf t s) (not (is_claimed t state s)) accepted in
    let new : is_in state.claimed s ≡ false =
    sym (is_claimed-leaf t state s leaf) ∙ not-true (is_claimed t state s) free in
    record {
      leaves = in-push (λ x. is_leaf t x ≡ true) state.claimed s orderly.leaves leaf;
      claimed_once = IsDistinct-push nat_eq_equiv state.claimed s orderly.claimed_once new;
      sections = orderly.sections;
      done_once = orderly.done_once;
      children_first = orderly.children_first;
      all = ends_with_all t (added state (Claim s)) tree;
    }

orderly_finished : (t : Tree) (state : State) (s : ℕ) → IsTree t → IsOrderly t state
    → accepts t state (Finish s) ≡ true → IsOrderly t (added state (Finish s))
orderly_finished t state s tree orderly accepted =
    let (claimed, unfinished) = and_parts (is_claimed t state s) (not (is_in state.done s)) accepted in
    let new : is_in state.done s ≡ false = not-true (is_in state.done s) unfinished in
    record {
      leaves = orderly.leaves;
      claimed_once = orderly.claimed_once;
      sections = in-push (λ x. x < section_count t) state.done s orderly.sections (claimed_within t state s claimed);
      done_once = IsDistinct-push nat_eq_equiv state.done s orderly.done_once new;
      children_first = children_first-push t state.done s orderly.children_first (children_done t state s claimed);
      all = ends_with_all t (added state (Finish s)) tree;
    }

-- an accepted event keeps the order
pub orderly_added : (t : Tree) (state : State) (event : Event) → IsTree t → IsOrderly t state
    → accepts t state event ≡ true → IsOrderly t (added state event)
orderly_added t state (Claim s) tree orderly accepted = orderly_claimed t state s tree orderly accepted
orderly_added t state (Finish s) tree orderly accepted = orderly_finished t state s tree orderly accepted

pub none_twice : AreDistinct []
none_twice = IsDistinct-from_apart (λ x y. x == y) [] (λ i j d less within. absurd (omega arith))

pub orderly_start : (t : Tree) → IsTree t → IsOrderly t at_start
orderly_start t tree =
    record {
      leaves = λ s is. absurd (both_ways false refl is);
      claimed_once = none_twice;
      sections = λ s is. absurd (both_ways false refl is);
      done_once = none_twice;
      children_first = λ i s at. (let within = slice_get_within [] i s at in absurd (omega arith));
      all = ends_with_all t at_start tree;
    }

orderly_from : (t : Tree) (state : State) (events : List Event) → IsTree t → IsOrderly t state
    → IsOrderly t (fold (after_event t) state events)
orderly_from t state [] tree orderly = orderly
orderly_from t state (event ∷ events) tree orderly =
    orderly_from t (after_event t state event) events tree
    (cond_both (accepts t state event) (added state event) state (λ (next : State). IsOrderly t next)
    (orderly_added t state event tree orderly) (λ refused. orderly))

-- every interleaving is orderly
pub orderly_after : (t : Tree) (events : List Event) → IsTree t → IsOrderly t (state_after t events)
orderly_after t events tree = orderly_from t at_start events tree (orderly_start t tree)
