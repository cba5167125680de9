-- Finishing a section, whatever its neighbour.
use Rattle.std.proofs.Common.{◌≡◌, ◌≢◌, ℕ, zero, suc, ◌+◌, ◌<◌, List, [], ◌∷◌, ◌++◌, set, Option, Some, None, true, false, refl, ap, sym, ◌∙◌, arith, inl, inr, subst, append_assoc}
use Rattle.std.proofs.lemmas.Bool.{both_ways, cases_Bool, and_parts, not-true}
use Rattle.std.proofs.lemmas.Bool.Decides.{eqb_tells}
use Rattle.std.proofs.lemmas.List.{map_push}
use Rattle.std.proofs.lemmas.List.Sums.{sum_by-cons}
use Rattle.std.proofs.lemmas.Option.{slice_get_within}
use Rattle.std.specs.Prelude.{◌==◌, not, ◌&&◌, slice_get}
use Rattle.std.specs.List.{flat_map}
use mathlib.Core.Option.{some, none}
use lib.ListN.{get_elem?}
use Rattle.duct_definitions.specs.Network.{Network}
use Rattle.duct_definitions.specs.Tree.{Tree, IsTree, section_count, neighbour, is_number}
use Rattle.duct_definitions.proofs.TreeLaws.{earlier}
use Rattle.schedule_core.specs.declared.events.Event.TheVariants.{Finish}
use Rattle.schedule_core.specs.Schedule.{State, is_in, is_claimed, accepts, added}
use Rattle.schedule_core.proofs.Claims.{claimed_within}
use Rattle.schedule_core.proofs.Membership.{is_in-last, is_in-other, in-push}
use Rattle.schedule_core.proofs.ClaimLaws.{stays_claimed}
use Rattle.contract_join.specs.declared.outcome.Outcome.{Outcome}
use Rattle.contract_join.specs.Outcomes.{section_of, IsOutcomeOf}
use Rattle.child_counter.specs.declared.view.PassView.{PassView}
use Rattle.child_counter.specs.Passes.{sections_of, times, turns, outs, finishes, all_of, is_of, finished_view, StandsIn}
use Rattle.child_counter.specs.Shown.{Homes, IsReached, AreWords, AreChildrenBefore, IsView, Shows, one_if}
use Rattle.child_counter.proofs.Sums.{sum-has, turns-set, outs-set, finishes-set, parts-set, one_if-yes, one_if-no, yes_if-one, number-same, number-none, number-is, set_at, sum-zero}
use Rattle.child_counter.proofs.Lists.{get-push, times-append, times-push, stands-before, stands-behind, stands-last, published-set, published-by}
use Rattle.child_counter.proofs.States.{reached-more, after-accepted}
use Rattle.child_counter.proofs.Kept.{Grows, Keeps, each-set, slot-kept, turn-accepted}
use Rattle.child_counter.proofs.Children.{fits-section, child-done, turn-claimed}

-- what is known of a section whose turn it is
pub record Turned (net : Network) (state : State) (s : ℕ) : Type 0 where
  pub accepted : accepts net.tree state (Finish s) ≡ true
  pub claimed : is_claimed net.tree state s ≡ true
  pub unfinished : is_in state.done s ≡ false
  pub within : s < section_count net.tree

pub turned-is : (net : Network) (passes : ℕ) (state : State) (words : List ℕ) (homes : Homes) (views : List PassView)
    (i s : ℕ) (v : PassView)
    → Shows net passes state words homes views → get_elem? views i ≡ some v → v.turn ≡ Some s → Turned net state s
turned-is net passes state words homes views i s v h at mine =
    let accepted_is = turn-accepted net passes state words homes views i s v h at mine in
    let parts = and_parts (is_claimed net.tree state s) (not (is_in state.done s)) accepted_is in
    record {
      accepted = accepted_is;
      claimed = parts.0;
      unfinished = not-true (is_in state.done s) parts.1;
      within = claimed_within net.tree state s parts.0;
    }

-- one section more at the end, which is no neighbour of those before it
ordered-push : (t : Tree) (xs : List ℕ) (s : ℕ) → AreChildrenBefore t xs
    → ((k x : ℕ) → slice_get xs k ≡ Some x → neighbour t s ≡ Some x → ⊥) → (neighbour t s ≡ Some s → ⊥)
    → AreChildrenBefore t (xs ++ s ∷ [])
ordered-push t xs s h apart self i k c x at_c at_x is =
    elim (get-push xs s c i at_c) [
      | inl p ↦ elim (get-push xs s x k at_x) [
        | inl q ↦ h i k c x p q is
        | inr q ↦ (let within = slice_get_within xs i c p in let last = q.0 in omega arith)
      ]
      | inr p ↦ elim (get-push xs s x k at_x) [
        | inl q ↦ absurd (apart k x q (ap (neighbour t) p.1 ∙ is))
        | inr q ↦ absurd (self (ap (neighbour t) p.1 ∙ is ∙ ap Some (sym q.1)))
      ]
    ]

-- a section that stands in the list counts
section-counts : (xs : List Outcome) (k x : ℕ) → slice_get (sections_of xs) k ≡ Some x → 0 < times x xs
section-counts [] k x is = absurd (cc is)
section-counts (o ∷ os) zero x is =
    let same : section_of o ≡ x = cc is in
    let one : one_if (section_of o == x) ≡ 1 = elim (eqb_tells (section_of o) x)
    [ inl p ↦ ap one_if p.0 | inr p ↦ absurd (p.1 same) ] in
    let a = sum_by-cons (λ z. one_if (section_of z == x)) o os in
    omega arith
section-counts (o ∷ os) (suc k) x is =
    let rest = section-counts os k x is in
    let a = sum_by-cons (λ z. one_if (section_of z == x)) o os in
    omega arith

-- what stands in the pass's own list is done
own-done : (net : Network) (passes : ℕ) (state : State) (words : List ℕ) (homes : Homes) (views : List PassView)
    (i k x : ℕ) (v : PassView)
    → Shows net passes state words homes views → get_elem? views i ≡ some v → slice_get (sections_of v.own) k ≡ Some x
    → is_in state.done x ≡ true
own-done net passes state words homes views i k x v h at is =
    yes_if-one _
    (let a = section-counts v.own k x is in
    let b = times-append x (flat_map (λ outcomes. outcomes) v.joined) v.own in
    let c = sum-has (λ (y : PassView). times x (all_of y)) views i v at in
    let d = h.lists x in
    omega arith)

-- the outcomes of a pass that finished one more
all-finished : (v : PassView) (o : Outcome) (next : Option ℕ) (s : ℕ) → section_of o ≡ s → (u : ℕ)
    → times u (all_of (finished_view (Some o) next v)) ≡ times u (all_of v) + one_if (s == u)
all-finished v o next s of_s u =
    let a = times-append u (flat_map (λ outcomes. outcomes) v.joined) v.own in
    let b = times-append u (flat_map (λ outcomes. outcomes) v.joined) (v.own ++ o ∷ []) in
    let c = times-push u v.own o in
    let d : one_if (section_of o == u) ≡ one_if (s == u) = ap (λ x. one_if (x == u)) of_s in
    omega arith

-- what a pass had it keeps
finished-keeps : (v : PassView) (o : Outcome) (next : Option ℕ) (x : Outcome) → StandsIn (all_of v) x
    → StandsIn (all_of (finished_view (Some o) next v)) x
finished-keeps v o next x h =
    subst (λ l. StandsIn l x) (append_assoc (flat_map (λ outcomes. outcomes) v.joined) v.own (o ∷ []))
    (stands-before (all_of v) (o ∷ []) x h)

-- the finished section is done, and no other
done-more : (state : State) (s u : ℕ) → is_in state.done s ≡ false
    → one_if (is_in (state.done ++ s ∷ []) u) ≡ one_if (is_in state.done u) + one_if (s == u)
done-more state s u new =
    elim (eqb_tells s u) [
      | inl p ↦ (
          let a : one_if (is_in (state.done ++ s ∷ []) u) ≡ 1 = ap (λ x. one_if (is_in (state.done ++ s ∷ []) x))
          (sym p.1) ∙ one_if-yes _ (is_in-last state.done s) in
          let b : one_if (is_in state.done u) ≡ 0 = ap (λ x. one_if (is_in state.done x)) (sym p.1)
          ∙ one_if-no _ new in
          let c : one_if (s == u) ≡ 1 = ap one_if p.0 in
          omega arith)
      | inr p ↦ (
          let a = ap one_if (is_in-other state.done s u (λ e. p.1 (sym e))) in
          let c : one_if (s == u) ≡ 0 = ap one_if p.0 in
          omega arith)
    ]

-- what holds of the pass that finished
view-finished : (net : Network) (passes : ℕ) (state : State) (words : List ℕ) (homes : Homes)
    (views now : List PassView) (i s : ℕ) (v : PassView) (next : Option ℕ) (o : Outcome)
    → IsTree net.tree → Shows net passes state words homes views → get_elem? views i ≡ some v → v.turn ≡ Some s
    → section_of o ≡ s → Grows net state (added state (Finish s))
    → IsView net (added state (Finish s)) now (finished_view (Some o) next v)
view-finished net passes state words homes views now i s v next o tree h at mine of_s grows =
    let old = h.each i v at in
    let turned = turned-is net passes state words homes views i s v h at mine in
    record {
      network = old.network;
      idle = λ none_is. absurd (let z : None ≡ Some s = sym (old.idle none_is).turn ∙ mine in cc z);
      ordered = subst (AreChildrenBefore net.tree) (sym (map_push section_of v.own o
          ∙ ap (λ x. sections_of v.own ++ x ∷ []) of_s))
          (ordered-push net.tree (sections_of v.own) s old.ordered
          (λ k x is beside. both_ways (is_in state.done s) turned.unfinished
          (child-done net.tree state s x tree turned.within beside
          (h.done_claimed x (own-done net passes state words homes views i k x v h at is))))
          (λ beside. let a = earlier net.tree s s tree turned.within beside in omega arith));
      others = old.others;
      noted = λ u is. grows u (old.noted u is);
      lent = λ x e. absurd (cc e);
    }

-- a section that isn't done is with no pass as a child
unturned-home : (net : Network) (passes : ℕ) (state : State) (words : List ℕ) (homes : Homes) (views : List PassView)
    (s : ℕ)
    → Shows net passes state words homes views → IsTree net.tree → Turned net state s → outs views s ≡ 0
unturned-home net passes state words homes views s h tree turned =
    sum-zero (λ (x : PassView). one_if (is_of s x.out)) views
    (λ k a at. elim a.out as (λ o. a.out ≡ o → one_if (is_of s o) ≡ 0) [
      | None ↦ λ e. refl
      | Some o ↦ λ e. elim (eqb_tells (section_of o) s) [
        | inl p ↦ (
            let lent = ((h.each k a at).lent o e).0 in
            let claimed = turn-claimed net passes state words homes views k lent.turn.0 a h at lent.turn.1 in
            let done = child-done net.tree state (section_of o) lent.turn.0 tree lent.within lent.turn.2 claimed in
            absurd (both_ways (is_in state.done s) turned.unfinished (ap (is_in state.done) (sym p.1) ∙ done)))
        | inr p ↦ one_if-no _ p.0
      ]
    ] refl)

-- The section is done with its outcome, and the pass has the next turn, if there is one. What a caller shows: the words;
-- that no other finish than the next turn's has become acceptable; that the own slot is home, the next one's out, and the
-- others as they were.
pub finish-shows : (net : Network) (passes : ℕ) (state : State) (words new_words : List ℕ) (homes new_homes : Homes)
    (views : List PassView) (i s : ℕ) (v : PassView) (next : Option ℕ) (o : Outcome)
    → IsTree net.tree → Shows net passes state words homes views → get_elem? views i ≡ some v → v.turn ≡ Some s
    → v.out ≡ None → IsOutcomeOf net s o
    → AreWords net.tree (added state (Finish s)) new_words
    → ((u : ℕ) → u ≢ s → one_if (accepts net.tree (added state (Finish s)) (Finish u)) ≡ one_if
    (accepts net.tree state (Finish u)) + one_if (is_number u next))
    → (next ≡ Some s → ⊥) → get_elem? new_homes s ≡ some (some (Some o))
    → ((u : ℕ) → next ≡ Some u → get_elem? new_homes u ≡ some none)
    → ((u : ℕ) → u ≢ s → (next ≡ Some u → ⊥) → get_elem? new_homes u ≡ get_elem? homes u)
    → Shows net passes (added state (Finish s)) new_words new_homes (set views i (finished_view (Some o) next v))
finish-shows net passes state words new_words homes new_homes views i s v next o tree h at mine free fits counts
    gained apart own turned_out others =
    let w : PassView = finished_view (Some o) next v in
    let now : List PassView = set views i w in
    let new : State = added state (Finish s) in
    let turned = turned-is net passes state words homes views i s v h at mine in
    let of_s = fits-section net s o fits in
    let grows : Grows net state new = (λ u is. stays_claimed net.tree state (Finish s) u turned.accepted is) in
    let keeps : Keeps views now = published-set views i v w at (finished-keeps v o next) in
    let lists_more : (u : ℕ) → finishes now u ≡ finishes views u + one_if (s == u) = (λ u.
    let a = finishes-set views i u v w at in let b = all-finished v o next s of_s u in omega arith) in
    let outs_same : (u : ℕ) → outs now u ≡ outs views u =
    (λ u. let a = outs-set views i u v w at in let b : one_if (is_of u v.out) ≡ 0 = ap
    (λ x. one_if (is_of u x)) free in omega arith) in
    let turns_new : (u : ℕ) → turns now u + one_if (is_number u (Some s)) ≡ turns views u + one_if
    (is_number u next) = (λ u.
    let a = turns-set views i u v w at in let b : one_if (is_number u v.turn) ≡ one_if (is_number u (Some s)) = ap
    (λ x. one_if (is_number u x)) mine in omega arith) in
    let done_new : is_in new.done s ≡ true = is_in-last state.done s in
    let refused : accepts net.tree new (Finish s) ≡ false =
    elim (cases_Bool (is_claimed net.tree new s)) [
      | inl is ↦ ap (λ b. b && not (is_in new.done s)) is ∙ ap not done_new
      | inr is ↦ ap (λ b. b && not (is_in new.done s)) is
    ] in
    let turn_of_s : turns views s ≡ 1 = h.turn_of s ∙ one_if-yes _ turned.accepted in
    record {
      reached = subst (IsReached net.tree) (after-accepted net.tree state (Finish s) turned.accepted)
          (reached-more net.tree state (Finish s) h.reached);
      counts = counts;
      done_claimed = in-push (λ u. is_claimed net.tree new u ≡ true) state.done s
          (λ u is. grows u (h.done_claimed u is)) (grows s turned.claimed);
      lists = λ u. (let a = lists_more u in let b = h.lists u in let c = done-more state s u turned.unfinished in
          omega arith);
      turn_of = λ u. (let a = turns_new u in
          elim (eqb_tells u s) [
            | inl p ↦ (
                let b : one_if (is_number u (Some s)) ≡ 1 = ap (λ x. one_if (is_number x (Some s))) p.1
                ∙ one_if-yes _ (number-same s) in
                let c : turns views u ≡ 1 = ap (turns views) p.1 ∙ turn_of_s in
                let d = one_if-no _ (number-none u next (λ e. apart (e ∙ ap Some p.1))) in
                let e : one_if (accepts net.tree new (Finish u)) ≡ 0 = ap
                (λ x. one_if (accepts net.tree new (Finish x))) p.1 ∙ one_if-no _ refused in
                omega arith)
            | inr p ↦ (
                let b = one_if-no _ (number-none u (Some s) (λ e. p.1 (let q : s ≡ u = cc e in sym q))) in
                let c = h.turn_of u in
                let d = gained u p.1 in
                omega arith)
          ]);
      slots = λ u lu. elim (eqb_tells u s) [
        | inl p ↦ (
            let a = turns_new u in
            let b : one_if (is_number u (Some s)) ≡ 1 = ap (λ x. one_if (is_number x (Some s))) p.1
            ∙ one_if-yes _ (number-same s) in
            let c : turns views u ≡ 1 = ap (turns views) p.1 ∙ turn_of_s in
            let d = one_if-no _ (number-none u next (λ e. apart (e ∙ ap Some p.1))) in
            let not_out : outs views u ≡ 0 = ap (outs views) p.1
            ∙ unturned-home net passes state words homes views s h tree turned in
            let f = outs_same u in
            record {
              empty = λ no_claim. absurd (both_ways (is_claimed net.tree new u) no_claim
                  (ap (is_claimed net.tree new) p.1 ∙ grows s turned.claimed));
              out = λ more. absurd (omega arith);
              full = λ is none_is. (
                o,
                ap (get_elem? new_homes) p.1 ∙ own,
                subst (λ x. IsOutcomeOf net x o) (sym p.1) fits,
                published-by now i w o (set_at views i v w at)
                    (stands-behind (flat_map (λ outcomes. outcomes) v.joined) (v.own ++ o ∷ []) o
                    (stands-last v.own o)),
              );
            })
        | inr p ↦ (
            let a = turns_new u in
            let b = one_if-no _ (number-none u (Some s) (λ e. p.1 (let q : s ≡ u = cc e in sym q))) in
            let dones : is_in new.done u ≡ is_in state.done u = is_in-other state.done s u p.1 in
            elim (cases_Bool (is_number u next)) [
              | inl q ↦ (
                  let c = one_if-yes _ q in
                  let d = gained u p.1 in
                  let e : accepts net.tree new (Finish u) ≡ true = yes_if-one _ (omega arith) in
                  let f = and_parts (is_claimed net.tree new u) (not (is_in new.done u)) e in
                  record {
                    empty = λ no_claim. absurd (both_ways (is_claimed net.tree new u) no_claim f.0);
                    out = λ more. turned_out u (number-is u next q);
                    full = λ is none_is. absurd (both_ways (is_in new.done u) (not-true (is_in new.done u) f.1) is);
                  })
              | inr q ↦ (
                  let c = one_if-no _ q in
                  slot-kept net state new views now u _ _ grows keeps (λ is. sym dones ∙ is) (omega arith)
                  (outs_same u)
                  (others u p.1 (λ e. both_ways (is_number u next) q (ap (is_number u) e ∙ number-same u)))
                  (h.slots u lu))
            ])
      ];
      each = each-set net state new views i w grows keeps h.each
          (view-finished net passes state words homes views now i s v next o tree h at mine of_s grows);
      parts = (let a = parts-set views i v w at in let b = h.parts in omega arith);
    }
