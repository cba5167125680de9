-- Cutting a pass in two, and making two one.
use Rattle.std.proofs.Common.{◌≡◌, ◌⊎◌, ℕ, zero, suc, ◌+◌, ◌<◌, List, [], ◌∷◌, ◌++◌, set, Some, None, true, false, refl, ap, sym, ◌∙◌, arith, inl, inr, subst}
use Rattle.std.proofs.lemmas.List.Sums.{sum_by_push}
use Rattle.std.proofs.lemmas.List.Elements.{All-append}
use Rattle.std.proofs.lemmas.Bool.Decides.{eqb_tells}
use Rattle.std.specs.Prelude.{All, ◌||◌}
use Rattle.std.specs.List.{flat_map}
use mathlib.Core.Option.{some, some-injective}
use lib.ListN.{get_elem?}
use Rattle.atomic_table.proofs.Lists.{at_set, at_snoc, set_else}
use Rattle.duct_definitions.specs.Network.{Network}
use Rattle.duct_definitions.specs.Tree.{is_number}
use Rattle.schedule_core.specs.Schedule.{State, is_in}
use Rattle.contract_join.specs.declared.outcome.Outcome.{Outcome}
use Rattle.child_counter.specs.declared.view.PassView.{PassView}
use Rattle.child_counter.specs.Passes.{sections_of, times, all_of, is_of, turns, outs, finishes, less_view, part_view, both_views, spent_view, StandsIn}
use Rattle.child_counter.specs.Shown.{Homes, IsView, Shows, AreChildrenBefore, one_if}
use Rattle.child_counter.proofs.Sums.{turns-set, outs-set, finishes-set, parts-set, set_at}
use Rattle.child_counter.proofs.Lists.{stands-before, stands-behind, stands-either, times-append, flat-append, published-set, published-more}
use Rattle.child_counter.proofs.Kept.{Grows, Keeps, view-kept, slot-kept}

nothing-ordered : (net : Network) → AreChildrenBefore net.tree []
nothing-ordered net i k c s at_c at_s is = absurd (cc at_c)

none-all : {X : Type 0} (P : X → Type 0) → All P []
none-all P k d within = absurd (omega arith)

-- a pass that has nothing
pub empty-view : (net : Network) (state : State) (views : List PassView) (v : PassView) → (0 < v.parts → v.net ≡ net)
    → v.own ≡ [] → v.joined ≡ [] → v.turn ≡ None → v.noted ≡ [] → v.out ≡ None → IsView net state views v
empty-view net state views v same own joined turn noted out =
    record {
      network = same;
      idle = λ none_is. record { own = own; joined = joined; turn = turn; noted = noted };
      ordered = subst (λ l. AreChildrenBefore net.tree (sections_of l)) (sym own) (nothing-ordered net);
      others = subst (λ l. All (λ outcomes. AreChildrenBefore net.tree (sections_of outcomes)) l) (sym joined)
          (none-all (λ outcomes. AreChildrenBefore net.tree (sections_of outcomes)));
      noted = λ s is. (let z : false ≡ true = sym (ap (λ l. is_in l s) noted) ∙ is in cc z);
      lent = λ o is. (let z : None ≡ Some o = sym out ∙ is in cc z);
    }

pub split-shows : (net : Network) (passes : ℕ) (state : State) (words : List ℕ) (homes : Homes)
    (views : List PassView) (i : ℕ) (v : PassView)
    → Shows net passes state words homes views → get_elem? views i ≡ some v → 1 < v.parts
    → Shows net passes state words homes (set views i (less_view v) ++ part_view v ∷ [])
split-shows net passes state words homes views i v h at more =
    let w : PassView = less_view v in
    let part : PassView = part_view v in
    let mid : List PassView = set views i w in
    let now : List PassView = mid ++ part ∷ [] in
    let old = h.each i v at in
    let grows : Grows net state state = (λ s is. is) in
    let keeps : Keeps views now = (λ o is. published-more mid (part ∷ []) o
    (published-set views i v w at (λ x e. e) o is)) in
    let finishes_same : (s : ℕ) → finishes now s ≡ finishes views s =
    (λ s. let a = finishes-set views i s v w at in let b = sum_by_push
    (λ (x : PassView). times s (all_of x)) mid part in omega arith) in
    let turns_same : (s : ℕ) → turns now s ≡ turns views s =
    (λ s. let a = turns-set views i s v w at in let b = sum_by_push
    (λ (x : PassView). one_if (is_number s x.turn)) mid part in omega arith) in
    let outs_same : (s : ℕ) → outs now s ≡ outs views s =
    (λ s. let a = outs-set views i s v w at in let b = sum_by_push
    (λ (x : PassView). one_if (is_of s x.out)) mid part in omega arith) in
    record {
      reached = h.reached;
      counts = h.counts;
      done_claimed = h.done_claimed;
      lists = λ s. finishes_same s ∙ h.lists s;
      turn_of = λ s. turns_same s ∙ h.turn_of s;
      slots = λ s ls. slot-kept net state state views now s _ _ grows keeps (λ is. is) (turns_same s)
          (outs_same s) refl (h.slots s ls);
      each = λ k x e. elim (at_snoc mid part x k e) [
        | inl p ↦ elim (at_set views i k w x p) [
          | inl q ↦ subst (IsView net state now) q.1 (record {
            network = λ some_part. old.network (omega arith);
            idle = λ none_is. absurd (omega arith);
            ordered = old.ordered;
            others = old.others;
            noted = old.noted;
            lent = λ o is. (let l = old.lent o is in (
              record {
                within = l.0.within;
                fits = l.0.fits;
                turn = l.0.turn;
              },
              keeps o l.1,
            ));
          })
          | inr q ↦ view-kept net state state views now x grows keeps (h.each k x q.1)
        ]
        | inr p ↦ subst (IsView net state now) p (empty-view net state now part
            (λ some_part. old.network (omega arith)) refl refl refl refl refl)
      ];
      parts = (let a = parts-set views i v w at in let b = sum_by_push
          (λ (x : PassView). x.parts) mid part in let c = h.parts in omega arith);
    }

-- what stands in the noted leaves of two passes
pub in-either : (xs ys : List ℕ) (s : ℕ) → is_in (xs ++ ys) s ≡ true → (is_in xs s ≡ true) ⊎ (is_in ys s ≡ true)
in-either [] ys s is = inr is
in-either (x ∷ xs) ys s is =
    elim (eqb_tells s x) [
      | inl p ↦ inl (ap (λ b. b || is_in xs s) p.0)
      | inr p ↦ elim (in-either xs ys s (sym (ap (λ b. b || is_in (xs ++ ys) s) p.0) ∙ is)) [
        | inl q ↦ inl (ap (λ b. b || is_in xs s) p.0 ∙ q)
        | inr q ↦ inr q
      ]
    ]

-- all outcomes of two passes
both-times : (v w : PassView) (s : ℕ) → times s (all_of (both_views v w)) ≡ times s (all_of v) + times s (all_of w)
both-times v w s =
    let flat : List (List Outcome) → List Outcome = λ l. flat_map (λ xs. xs) l in
    let a = times-append s (flat (both_views v w).joined) v.own in
    let b : times s (flat (both_views v w).joined) ≡ times s (flat v.joined ++ (w.own ++ flat w.joined)) = ap
    (times s) (flat-append v.joined (w.own ∷ w.joined)) in
    let c = times-append s (flat v.joined) (w.own ++ flat w.joined) in
    let d = times-append s w.own (flat w.joined) in
    let e = times-append s (flat v.joined) v.own in
    let f = times-append s (flat w.joined) w.own in
    omega arith

-- what a pass has it keeps in the joined one, and the other's lists come with it
from-first : (v w : PassView) (o : Outcome) → StandsIn (all_of v) o → StandsIn (all_of (both_views v w)) o
from-first v w o h =
    let flat : List (List Outcome) → List Outcome = λ l. flat_map (λ xs. xs) l in
    elim (stands-either (flat v.joined) v.own o h) [
      | inl p ↦ stands-before (flat (v.joined ++ w.own ∷ w.joined)) v.own o
          (subst (λ l. StandsIn l o) (sym (flat-append v.joined (w.own ∷ w.joined)))
          (stands-before (flat v.joined) (w.own ++ flat w.joined) o p))
      | inr p ↦ stands-behind (flat (v.joined ++ w.own ∷ w.joined)) v.own o p
    ]

from-second : (v w : PassView) (o : Outcome) → StandsIn (all_of w) o → StandsIn (all_of (both_views v w)) o
from-second v w o h =
    let flat : List (List Outcome) → List Outcome = λ l. flat_map (λ xs. xs) l in
    let here : StandsIn (w.own ++ flat w.joined) o = elim (stands-either (flat w.joined) w.own o h) [
      | inl p ↦ stands-behind w.own (flat w.joined) o p
      | inr p ↦ stands-before w.own (flat w.joined) o p
    ] in
    stands-before (flat (v.joined ++ w.own ∷ w.joined)) v.own o
    (subst (λ l. StandsIn l o) (sym (flat-append v.joined (w.own ∷ w.joined)))
    (stands-behind (flat v.joined) (w.own ++ flat w.joined) o here))

-- what was published still is
join-keeps : (views : List PassView) (i k : ℕ) (v w : PassView) → get_elem? views i ≡ some v → (k ≡ i → ⊥)
    → get_elem? views k ≡ some w → Keeps views (set (set views i (both_views v w)) k spent_view)
join-keeps views i k v w at apart at_k o h =
    let j : PassView = both_views v w in
    let here : get_elem? (set (set views i j) k spent_view) i ≡ some j = set_else (set views i j) k i spent_view
    (λ e. apart (sym e)) ∙ set_at views i v j at in
    elim (eqb_tells h.0 i) [
      | inl p ↦ (
          let same : h.1 ≡ v = some-injective h.1 v (sym (ap (get_elem? views) (sym p.1) ∙ h.2) ∙ at) in
          (i, j, here, from-first v w o (subst (λ x. StandsIn (all_of x) o) same h.3)))
      | inr p ↦ elim (eqb_tells h.0 k) [
        | inl q ↦ (
            let same : h.1 ≡ w = some-injective h.1 w (sym (ap (get_elem? views) (sym q.1) ∙ h.2) ∙ at_k) in
            (i, j, here, from-second v w o (subst (λ x. StandsIn (all_of x) o) same h.3)))
        | inr q ↦ (h.0, h.1, set_else (set views i j) k h.0 spent_view q.1 ∙ set_else views i h.0 j p.1 ∙ h.2, h.3)
      ]
    ]

pub join-shows : (net : Network) (passes : ℕ) (state : State) (words : List ℕ) (homes : Homes) (views : List PassView)
    (i k : ℕ) (v w : PassView)
    → Shows net passes state words homes views → get_elem? views i ≡ some v → (k ≡ i → ⊥)
    → get_elem? (set views i (both_views v w)) k ≡ some w → w.turn ≡ None → 0 < v.parts
    → Shows net passes state words homes (set (set views i (both_views v w)) k spent_view)
join-shows net passes state words homes views i k v w h at apart at2 free part =
    let j : PassView = both_views v w in
    let mid : List PassView = set views i j in
    let now : List PassView = set mid k spent_view in
    let at_k : get_elem? views k ≡ some w = elim (at_set views i k j w at2)
    [ inl p ↦ absurd (apart p.0) | inr p ↦ p.1 ] in
    let old = h.each i v at in
    let other = h.each k w at_k in
    let grows : Grows net state state = (λ s is. is) in
    let keeps : Keeps views now = join-keeps views i k v w at apart at_k in
    let no_child : w.out ≡ None = elim w.out as (λ x. w.out ≡ x → x ≡ None) [
      | None ↦ λ e. refl
      | Some o ↦ λ e. (let turn = (other.lent o e).0.turn in let z : None ≡ Some turn.0 = sym free
          ∙ turn.1 in absurd (cc z))
    ] refl in
    let finishes_same : (s : ℕ) → finishes now s ≡ finishes views s = (λ s.
    let a = finishes-set views i s v j at in let b = finishes-set mid k s w spent_view at2 in let c = both-times v w s
    in omega arith) in
    let turns_same : (s : ℕ) → turns now s ≡ turns views s = (λ s.
    let a = turns-set views i s v j at in let b = turns-set mid k s w spent_view at2 in
    let c : one_if (is_number s w.turn) ≡ 0 = ap (λ x. one_if (is_number s x)) free in omega arith) in
    let outs_same : (s : ℕ) → outs now s ≡ outs views s = (λ s.
    let a = outs-set views i s v j at in let b = outs-set mid k s w spent_view at2 in
    let c : one_if (is_of s w.out) ≡ 0 = ap (λ x. one_if (is_of s x)) no_child in omega arith) in
    record {
      reached = h.reached;
      counts = h.counts;
      done_claimed = h.done_claimed;
      lists = λ s. finishes_same s ∙ h.lists s;
      turn_of = λ s. turns_same s ∙ h.turn_of s;
      slots = λ s ls. slot-kept net state state views now s _ _ grows keeps (λ is. is) (turns_same s)
          (outs_same s) refl (h.slots s ls);
      each = λ n x e. elim (at_set mid k n spent_view x e) [
        | inl p ↦ subst (IsView net state now) p.1 (empty-view net state now spent_view
            (λ some_part. absurd (omega arith)) refl refl refl refl refl)
        | inr p ↦ elim (at_set views i n j x p.1) [
          | inl q ↦ subst (IsView net state now) q.1 (record {
            network = λ some_part. old.network part;
            idle = λ none_is. absurd (omega arith);
            ordered = old.ordered;
            others = All-append (λ outcomes. AreChildrenBefore net.tree (sections_of outcomes)) v.joined
                (w.own ∷ w.joined) old.others (λ a d l. with-first net w other a d l);
            noted = λ s is. elim (in-either v.noted w.noted s is) [ inl r ↦ old.noted s r | inr r ↦ other.noted s r ];
            lent = λ o is. (let l = old.lent o is in (
              record {
                within = l.0.within;
                fits = l.0.fits;
                turn = l.0.turn;
              },
              keeps o l.1,
            ));
          })
          | inr q ↦ view-kept net state state views now x grows keeps (h.each n x q.1)
        ]
      ];
      parts = (let a = parts-set views i v j at in let b = parts-set mid k w spent_view at2 in let c = h.parts in
          omega arith);
    }
  where
    with-first : (m : Network) (x : PassView) → IsView m state views x
        → All (λ outcomes. AreChildrenBefore m.tree (sections_of outcomes)) (x.own ∷ x.joined)
    with-first m x is zero d within = is.ordered
    with-first m x is (suc n) d within = is.others n d (omega arith)
