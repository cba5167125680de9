-- Claiming a leaf.
use Rattle.std.proofs.Common.{◌≡◌, ◌≢◌, ℕ, ◌+◌, ◌<◌, List, set, length, Option, Some, None, true, false, refl, ap, sym, ◌∙◌, arith, inl, inr, subst, slice_index, slice_set, cond}
use Rattle.std.proofs.lemmas.Bool.{both_ways, false_from_ne_true, cases_Bool, and_parts, and_from, eqb-true, ne_eqb, not-true, cond-true}
use Rattle.std.proofs.lemmas.Bool.Decides.{eqb_tells}
use Rattle.std.specs.Prelude.{◌==◌, not, ◌&&◌}
use Rattle.std.specs.List.{count_by}
use mathlib.Core.Option.{some, none}
use lib.ListN.{get_elem?}
use Rattle.atomic_table.proofs.Lists.{set_here, set_else}
use Rattle.duct_definitions.specs.Network.{Network}
use Rattle.duct_definitions.specs.Tree.{section_count, children, is_leaf, is_number}
use Rattle.schedule_core.specs.declared.events.Event.TheVariants.{Claim}
use Rattle.schedule_core.specs.Schedule.{State, is_in, is_claimed, accepts, added}
use Rattle.schedule_core.specs.CoreFields.{number_of}
use Rattle.schedule_core.proofs.Claims.{leaf_within}
use Rattle.schedule_core.proofs.Membership.{in-push}
use Rattle.schedule_core.proofs.Numbers.{number-zero}
use Rattle.schedule_core.proofs.ClaimLaws.{stays_claimed}
use Rattle.contract_join.specs.declared.outcome.Outcome.{Outcome}
use Rattle.child_counter.specs.declared.view.PassView.{PassView}
use Rattle.child_counter.specs.Passes.{turns, outs, claimed_view}
use Rattle.child_counter.specs.Shown.{Homes, IsReached, IsView, Shows, one_if}
use Rattle.child_counter.specs.Steps.{next_turn}
use Rattle.child_counter.proofs.Sums.{turns-set, outs-set, finishes-set, parts-set, one_if-no, number-none}
use Rattle.child_counter.proofs.Lists.{published-set}
use Rattle.child_counter.proofs.States.{reached-more, after-accepted, claimed_leaf, accepts_claimed}
use Rattle.child_counter.proofs.Words.{words-claimed, words-swapped}
use Rattle.child_counter.proofs.Kept.{Grows, Keeps, each-set, slot-kept}

-- a pass without a turn has no child out
none-out : (net : Network) (state : State) (views : List PassView) (v : PassView) → IsView net state views v
    → v.turn ≡ None → (o : Outcome) → v.out ≡ Some o → ⊥
none-out net state views v h free o is =
    let lent = (h.lent o is).0.turn in
    let z : None ≡ Some lent.0 = sym free ∙ lent.1 in
    cc z

-- what holds of the pass that claimed, or found the leaf claimed
view-claimed : (net : Network) (a b : State) (views now : List PassView) (leaf : ℕ) (turn : Option ℕ) (v : PassView)
    → Grows net a b → IsView net a views v → v.turn ≡ None → 0 < v.parts → is_claimed net.tree b leaf ≡ true
    → IsView net b now (claimed_view leaf turn v)
view-claimed net a b views now leaf turn v grows h free part claimed =
    record {
      network = h.network;
      idle = λ none. absurd (omega arith);
      ordered = h.ordered;
      others = h.others;
      noted = in-push (λ s. is_claimed net.tree b s ≡ true) v.noted leaf (λ s is. grows s (h.noted s is)) claimed;
      lent = λ o is. absurd (none-out net a views v h free o is);
    }

-- the leaf's word tells whether it is claimed
pub leaf-free : (net : Network) (passes : ℕ) (state : State) (words : List ℕ) (homes : Homes) (views : List PassView)
    (leaf : ℕ)
    → Shows net passes state words homes views → is_leaf net.tree leaf ≡ true
    → accepts net.tree state (Claim leaf) ≡ (slice_index words leaf == 1)
leaf-free net passes state words homes views leaf h leaf_is =
    let within = leaf_within net.tree leaf leaf_is in
    let word = h.counts.sections leaf within in
    let value : number_of net.tree state leaf ≡ cond (is_in state.claimed leaf) 0 1 = cond-true
    (is_leaf net.tree leaf) (cond (is_in state.claimed leaf) 0 1)
    (count_by (λ c. not (is_in state.done c)) (children net.tree leaf)) leaf_is in
    let claimed = number-zero net.tree state leaf within in
    ap (λ b. b && not (is_claimed net.tree state leaf)) leaf_is
    ∙ ap not (sym claimed ∙ ap (λ n. n == 0) value)
    ∙ elim (is_in state.claimed leaf) as (λ b. not (cond {A = ℕ} b 0 1 == 0) ≡ (cond {A = ℕ} b 0 1 == 1))
    [ true ↦ refl | false ↦ refl ]
    ∙ ap (λ n. n == 1) (sym value ∙ sym word)

-- a swap that finds 1: the leaf is claimed, and its slot comes out
pub claim-shows : (net : Network) (passes : ℕ) (state : State) (words : List ℕ) (homes : Homes)
    (views : List PassView) (i leaf : ℕ) (v : PassView)
    → Shows net passes state words homes views → length homes ≡ section_count net.tree → get_elem? views i ≡ some v
    → is_leaf net.tree leaf ≡ true → v.turn ≡ None → 0 < v.parts → slice_index words leaf ≡ 1
    → (get_elem? homes leaf ≡ some (some None)) × (accepts net.tree state (Claim leaf) ≡ true)
    × Shows net passes (added state (Claim leaf)) (slice_set words leaf 0) (set homes leaf none)
    (set views i (claimed_view leaf (next_turn (Some leaf) (slice_index words leaf)) v))
claim-shows net passes state words homes views i leaf v h long at leaf_is free part one =
    let w : PassView = claimed_view leaf (next_turn (Some leaf) (slice_index words leaf)) v in
    let now : List PassView = set views i w in
    let new : State = added state (Claim leaf) in
    let within = leaf_within net.tree leaf leaf_is in
    let accepted : accepts net.tree state (Claim leaf) ≡ true = leaf-free net passes state words homes views leaf h
    leaf_is ∙ ap (λ n. n == 1) one in
    let unclaimed = not-true (is_claimed net.tree state leaf)
    (and_parts (is_leaf net.tree leaf) (not (is_claimed net.tree state leaf)) accepted).1 in
    let unfinished : is_in state.done leaf ≡ false = false_from_ne_true _
    (λ is. both_ways (is_claimed net.tree state leaf) unclaimed (h.done_claimed leaf is)) in
    let turn : w.turn ≡ Some leaf = ap (next_turn (Some leaf)) one in
    let grows : Grows net state new = (λ s is. stays_claimed net.tree state (Claim leaf) s accepted is) in
    let keeps : Keeps views now = published-set views i v w at (λ o is. is) in
    let outs_same : (s : ℕ) → outs now s ≡ outs views s = (λ s. let a = outs-set views i s v w at in omega arith) in
    let turns_more : (s : ℕ) → turns now s ≡ turns views s + one_if (is_number s (Some leaf)) = (λ s.
    let a = turns-set views i s v w at in
    let b : one_if (is_number s v.turn) ≡ 0 = ap (λ o. one_if (is_number s o)) free in
    let c : one_if (is_number s w.turn) ≡ one_if (is_number s (Some leaf)) = ap (λ o. one_if (is_number s o)) turn in
    omega arith) in (
      (h.slots leaf within).empty unclaimed,
      accepted,
      record {
        reached = subst (IsReached net.tree) (after-accepted net.tree state (Claim leaf) accepted)
            (reached-more net.tree state (Claim leaf) h.reached);
        counts = words-claimed net.tree state leaf words h.counts leaf_is;
        done_claimed = λ s is. grows s (h.done_claimed s is);
        lists = λ s. (let a = finishes-set views i s v w at in let b = h.lists s in omega arith);
        turn_of = λ s.
            (let a = turns_more s in
            let b = h.turn_of s in
            let c = accepts_claimed net.tree state leaf s leaf_is unclaimed unfinished in
            omega arith);
        slots = λ s ls. elim (eqb_tells s leaf) [
          | inl p ↦ (
              let hole : get_elem? (set homes leaf none) s ≡ some none = ap (get_elem? (set homes leaf none)) p.1
              ∙ set_here homes leaf none (omega arith) in
              record {
                empty = λ none_is. absurd (both_ways (is_claimed net.tree new s) none_is
                    (ap (is_claimed net.tree new) p.1 ∙ claimed_leaf net.tree state leaf leaf_is));
                out = λ some. hole;
                full = λ done none_out. absurd (both_ways (is_in state.done s) (ap (is_in state.done) p.1
                    ∙ unfinished) done);
              })
          | inr p ↦ (
              let other = one_if-no _ (number-none s (Some leaf) (λ e. p.1 (let q : leaf ≡ s = cc e in sym q))) in
              let a = turns_more s in
              slot-kept net state new views now s _ _ grows keeps (λ done. done) (omega arith) (outs_same s)
              (set_else homes leaf s none p.1) (h.slots s ls))
        ];
        each = each-set net state new views i w grows keeps h.each
            (view-claimed net state new views now leaf (next_turn (Some leaf) (slice_index words leaf)) v grows
            (h.each i v at) free part (claimed_leaf net.tree state leaf leaf_is));
        parts = (let a = parts-set views i v w at in let b = h.parts in omega arith);
      },
    )

-- a swap that finds 0: the leaf was claimed already
pub claim-none : (net : Network) (passes : ℕ) (state : State) (words : List ℕ) (homes : Homes) (views : List PassView)
    (i leaf : ℕ) (v : PassView)
    → Shows net passes state words homes views → get_elem? views i ≡ some v → is_leaf net.tree leaf ≡ true
    → v.turn ≡ None → 0 < v.parts → slice_index words leaf ≢ 1
    → (accepts net.tree state (Claim leaf) ≡ false) × Shows net passes state (slice_set words leaf 0) homes
    (set views i (claimed_view leaf (next_turn (Some leaf) (slice_index words leaf)) v))
claim-none net passes state words homes views i leaf v h at leaf_is free part differs =
    let w : PassView = claimed_view leaf (next_turn (Some leaf) (slice_index words leaf)) v in
    let now : List PassView = set views i w in
    let within = leaf_within net.tree leaf leaf_is in
    let refused : accepts net.tree state (Claim leaf) ≡ false = leaf-free net passes state words homes views leaf h
    leaf_is ∙ ne_eqb (slice_index words leaf) 1 differs in
    let claimed : is_claimed net.tree state leaf ≡ true = elim (cases_Bool (is_claimed net.tree state leaf)) [
      | inl is ↦ is
      | inr free_is ↦ absurd (both_ways (accepts net.tree state (Claim leaf)) refused
          (and_from (is_leaf net.tree leaf) (not (is_claimed net.tree state leaf)) leaf_is (ap not free_is)))
    ] in
    let zero_is : slice_index words leaf ≡ 0 = h.counts.sections leaf within
    ∙ eqb-true (number_of net.tree state leaf) 0 (number-zero net.tree state leaf within ∙ claimed) in
    let turn : w.turn ≡ None = ap (next_turn (Some leaf)) zero_is in
    let grows : Grows net state state = (λ s is. is) in
    let keeps : Keeps views now = published-set views i v w at (λ o is. is) in
    let outs_same : (s : ℕ) → outs now s ≡ outs views s = (λ s. let a = outs-set views i s v w at in omega arith) in
    let turns_same : (s : ℕ) → turns now s ≡ turns views s = (λ s.
    let a = turns-set views i s v w at in
    let b : one_if (is_number s v.turn) ≡ 0 = ap (λ o. one_if (is_number s o)) free in
    let c : one_if (is_number s w.turn) ≡ 0 = ap (λ o. one_if (is_number s o)) turn in
    omega arith) in (
      refused,
      record {
        reached = h.reached;
        counts = words-swapped net.tree state leaf words h.counts within zero_is;
        done_claimed = h.done_claimed;
        lists = λ s. (let a = finishes-set views i s v w at in let b = h.lists s in omega arith);
        turn_of = λ s. turns_same s ∙ h.turn_of s;
        slots = λ s ls. slot-kept net state state views now s _ _ grows keeps (λ done. done) (turns_same s)
            (outs_same s) refl (h.slots s ls);
        each = each-set net state state views i w grows keeps h.each
            (view-claimed net state state views now leaf (next_turn (Some leaf) (slice_index words leaf)) v grows
            (h.each i v at) free part claimed);
        parts = (let a = parts-set views i v w at in let b = h.parts in omega arith);
      },
    )
