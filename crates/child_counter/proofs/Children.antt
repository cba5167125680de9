-- A child comes out, and goes home.
use Rattle.std.proofs.Common.{◌≡◌, ℕ, ◌+◌, ◌<◌, List, set, length, Some, None, true, false, refl, ap, sym, ◌∙◌, arith, inl, inr, subst}
use Rattle.std.proofs.lemmas.Bool.{both_ways, cases_Bool, and_parts}
use Rattle.std.proofs.lemmas.Bool.Decides.{eqb_tells}
use Rattle.std.specs.Prelude.{not, ◌&&◌}
use mathlib.Core.Option.{some, none}
use lib.ListN.{get_elem?}
use Rattle.atomic_table.proofs.Lists.{set_here, set_else}
use Rattle.duct_definitions.specs.Network.{Network}
use Rattle.duct_definitions.specs.Tree.{Tree, IsTree, section_count, neighbour, is_number}
use Rattle.schedule_core.specs.declared.events.Event.TheVariants.{Finish}
use Rattle.schedule_core.specs.Schedule.{State, is_in, is_claimed, accepts}
use Rattle.contract_join.specs.declared.outcome.Outcome.{Outcome}
use Rattle.contract_join.specs.declared.outcome.Outcome.TheVariants.{Fronts, NoMemory}
use Rattle.contract_join.specs.Outcomes.{section_of, IsOutcomeOf}
use Rattle.child_counter.specs.declared.view.PassView.{PassView}
use Rattle.child_counter.specs.Passes.{turns, outs, is_of, out_view, IsPublished}
use Rattle.child_counter.specs.Shown.{Homes, IsLent, Shows, one_if}
use Rattle.child_counter.proofs.Sums.{sum-alone, turns-set, outs-set, finishes-set, parts-set, one_if-yes, one_if-no, number-same, has_turn}
use Rattle.child_counter.proofs.Lists.{published-set}
use Rattle.child_counter.proofs.States.{neighbour_claimed}
use Rattle.child_counter.proofs.Kept.{Grows, Keeps, each-set, slot-kept, turn-accepted}

-- an outcome that fits a section is of it
pub fits-section : (net : Network) (s : ℕ) (o : Outcome) → IsOutcomeOf net s o → section_of o ≡ s
fits-section net s (Fronts fronts) h = h.1
fits-section net s (NoMemory section) h = h

pub of-same : (s : ℕ) (o : Outcome) → section_of o ≡ s → is_of s (Some o) ≡ true
of-same s o is = elim (eqb_tells (section_of o) s) [ inl p ↦ p.0 | inr p ↦ absurd (p.1 is) ]

of-other : (s : ℕ) (o : Outcome) → (section_of o ≡ s → ⊥) → is_of s (Some o) ≡ false
of-other s o not = elim (eqb_tells (section_of o) s) [ inl p ↦ absurd (not p.1) | inr p ↦ p.0 ]

-- the children of a claimed section are done
pub child-done : (t : Tree) (state : State) (c s : ℕ) → IsTree t → c < section_count t → neighbour t c ≡ Some s
    → is_claimed t state s ≡ true → is_in state.done c ≡ true
child-done t state c s tree within is claimed =
    elim (cases_Bool (is_in state.done c)) [
      | inl done ↦ done
      | inr new ↦ absurd (both_ways (is_claimed t state s)
          (neighbour_claimed t state c s tree within new is).1 claimed)
    ]

-- what is done is nobody's turn
pub done-unturned : (net : Network) (passes : ℕ) (state : State) (words : List ℕ) (homes : Homes)
    (views : List PassView) (s : ℕ)
    → Shows net passes state words homes views → is_in state.done s ≡ true → turns views s ≡ 0
done-unturned net passes state words homes views s h done =
    let refused : accepts net.tree state (Finish s) ≡ false =
    elim (cases_Bool (is_claimed net.tree state s)) [
      | inl claimed ↦ ap (λ b. b && not (is_in state.done s)) claimed ∙ ap not done
      | inr free ↦ ap (λ b. b && not (is_in state.done s)) free
    ] in
    h.turn_of s ∙ one_if-no _ refused

-- a section is claimed where it is somebody's turn
pub turn-claimed : (net : Network) (passes : ℕ) (state : State) (words : List ℕ) (homes : Homes)
    (views : List PassView) (i s : ℕ) (v : PassView)
    → Shows net passes state words homes views → get_elem? views i ≡ some v → v.turn ≡ Some s
    → is_claimed net.tree state s ≡ true
turn-claimed net passes state words homes views i s v h at is =
    (and_parts (is_claimed net.tree state s) (not (is_in state.done s))
    (turn-accepted net passes state words homes views i s v h at is)).0

-- of the children of its turn's section a pass has out just its own
pub mine-out : (net : Network) (passes : ℕ) (state : State) (words : List ℕ) (homes : Homes) (views : List PassView)
    (i c s : ℕ) (v : PassView)
    → Shows net passes state words homes views → get_elem? views i ≡ some v → v.turn ≡ Some s
    → neighbour net.tree c ≡ Some s → outs views c ≡ one_if (is_of c v.out)
mine-out net passes state words homes views i c s v h at mine is =
    sum-alone (λ (x : PassView). one_if (is_of c x.out)) (λ (x : PassView). one_if (is_number s x.turn)) views i v
    (λ k a at2 zero. elim a.out as (λ o. a.out ≡ o → one_if (is_of c o) ≡ 0) [
      | None ↦ λ e. refl
      | Some o ↦ λ e. elim (eqb_tells (section_of o) c) [
        | inl p ↦ (
            let lent = ((h.each k a at2).lent o e).0.turn in
            let same : Some lent.0 ≡ Some s = sym lent.2 ∙ ap (neighbour net.tree) p.1 ∙ is in
            let one : one_if (is_number s a.turn) ≡ 1 = ap (λ x. one_if (is_number s x)) (lent.1 ∙ same)
            ∙ one_if-yes _ (number-same s) in
            absurd (omega arith))
        | inr p ↦ one_if-no _ p.0
      ]
    ] refl)
    at
    (let a = has_turn views i s v at mine in
    let b = h.turn_of s in
    let d = one_if-yes _ (turn-accepted net passes state words homes views i s v h at mine) in
    let e : one_if (is_number s v.turn) ≡ 1 = ap (λ o. one_if (is_number s o)) mine ∙ one_if-yes _ (number-same s) in
    omega arith)

-- the child that is out goes home
pub give-shows : (net : Network) (passes : ℕ) (state : State) (words : List ℕ) (homes : Homes) (views : List PassView)
    (i : ℕ) (v : PassView) (o : Outcome)
    → IsTree net.tree → Shows net passes state words homes views → length homes ≡ section_count net.tree
    → get_elem? views i ≡ some v → v.out ≡ Some o
    → Shows net passes state words (set homes (section_of o) (some (Some o))) (set views i (out_view None v))
give-shows net passes state words homes views i v o tree h long at out =
    let w : PassView = out_view None v in
    let now : List PassView = set views i w in
    let c : ℕ = section_of o in
    let old = h.each i v at in
    let lent = (old.lent o out).0 in
    let published = (old.lent o out).1 in
    let s : ℕ = lent.turn.0 in
    let claimed = turn-claimed net passes state words homes views i s v h at lent.turn.1 in
    let done = child-done net.tree state c s tree lent.within lent.turn.2 claimed in
    let own : outs views c ≡ 1 = mine-out net passes state words homes views i c s v h at lent.turn.1 lent.turn.2
    ∙ ap (λ x. one_if (is_of c x)) out ∙ one_if-yes _ (of-same c o refl) in
    let grows : Grows net state state = (λ u is. is) in
    let keeps : Keeps views now = published-set views i v w at (λ x is. is) in
    let turns_same : (u : ℕ) → turns now u ≡ turns views u =
    (λ u. let a = turns-set views i u v w at in omega arith) in
    let outs_less : (u : ℕ) → outs now u + one_if (is_of u (Some o)) ≡ outs views u = (λ u.
    let a = outs-set views i u v w at in let b : one_if (is_of u v.out) ≡ one_if (is_of u (Some o)) = ap
    (λ x. one_if (is_of u x)) out in omega arith) in
    record {
      reached = h.reached;
      counts = h.counts;
      done_claimed = h.done_claimed;
      lists = λ u. (let a = finishes-set views i u v w at in let b = h.lists u in omega arith);
      turn_of = λ u. turns_same u ∙ h.turn_of u;
      slots = λ u lu. elim (eqb_tells u c) [
        | inl p ↦ (
            let home : get_elem? (set homes c (some (Some o))) u ≡ some (some (Some o)) = ap
            (get_elem? (set homes c (some (Some o)))) p.1
            ∙ set_here homes c (some (Some o)) (let l = lent.within in omega arith) in
            record {
              empty = λ free. absurd (both_ways (is_claimed net.tree state u) free
                  (h.done_claimed u (ap (is_in state.done) p.1 ∙ done)));
              out = λ more. absurd
                  (let a = turns_same u in
                  let b : turns views u ≡ 0 = ap (turns views) p.1
                  ∙ done-unturned net passes state words homes views c h done in
                  let d = outs_less u in
                  let e : outs views u ≡ 1 = ap (outs views) p.1 ∙ own in
                  let f : one_if (is_of u (Some o)) ≡ 1 = one_if-yes _ (of-same u o (sym p.1)) in
                  omega arith);
              full = λ is none. (o, home, subst (λ x. IsOutcomeOf net x o) (sym p.1) lent.fits, keeps o published);
            })
        | inr p ↦ (
            let f : one_if (is_of u (Some o)) ≡ 0 = one_if-no _ (of-other u o (λ e. p.1 (sym e))) in
            let d = outs_less u in
            slot-kept net state state views now u _ _ grows keeps (λ is. is) (turns_same u) (omega arith)
            (set_else homes c u (some (Some o)) p.1) (h.slots u lu))
      ];
      each = each-set net state state views i w grows keeps h.each (record {
        network = old.network;
        idle = λ none. (let z = old.idle none in record {
          own = z.own;
          joined = z.joined;
          turn = z.turn;
          noted = z.noted;
        });
        ordered = old.ordered;
        others = old.others;
        noted = old.noted;
        lent = λ x e. absurd (cc e);
      });
      parts = (let a = parts-set views i v w at in let b = h.parts in omega arith);
    }

-- a child of the turn's section comes out, where none is out
pub take-shows : (net : Network) (passes : ℕ) (state : State) (words : List ℕ) (homes : Homes) (views : List PassView)
    (i c s : ℕ) (v : PassView)
    → IsTree net.tree → Shows net passes state words homes views → length homes ≡ section_count net.tree
    → get_elem? views i ≡ some v → v.turn ≡ Some s → v.out ≡ None → c < section_count net.tree
    → neighbour net.tree c ≡ Some s
    → (o : Outcome) × (get_elem? homes c ≡ some (some (Some o))) × IsOutcomeOf net c o
    × Shows net passes state words (set homes c none) (set views i (out_view (Some o) v))
take-shows net passes state words homes views i c s v tree h long at mine free within is =
    let claimed = turn-claimed net passes state words homes views i s v h at mine in
    let done = child-done net.tree state c s tree within is claimed in
    let none_out : outs views c ≡ 0 = mine-out net passes state words homes views i c s v h at mine is
    ∙ ap (λ x. one_if (is_of c x)) free in
    let got = (h.slots c within).full done none_out in
    let o : Outcome = got.0 in
    let of_c = fits-section net c o got.2 in
    let w : PassView = out_view (Some o) v in
    let now : List PassView = set views i w in
    let old = h.each i v at in
    let grows : Grows net state state = (λ u e. e) in
    let keeps : Keeps views now = published-set views i v w at (λ x e. e) in
    let turns_same : (u : ℕ) → turns now u ≡ turns views u =
    (λ u. let a = turns-set views i u v w at in omega arith) in
    let outs_more : (u : ℕ) → outs now u ≡ outs views u + one_if (is_of u (Some o)) = (λ u.
    let a = outs-set views i u v w at in let b : one_if (is_of u v.out) ≡ 0 = ap
    (λ x. one_if (is_of u x)) free in omega arith) in (
      o,
      got.1,
      got.2,
      record {
        reached = h.reached;
        counts = h.counts;
        done_claimed = h.done_claimed;
        lists = λ u. (let a = finishes-set views i u v w at in let b = h.lists u in omega arith);
        turn_of = λ u. turns_same u ∙ h.turn_of u;
        slots = λ u lu. elim (eqb_tells u c) [
          | inl p ↦ (
              let hole : get_elem? (set homes c none) u ≡ some none = ap (get_elem? (set homes c none)) p.1
              ∙ set_here homes c none (omega arith) in
              let one : one_if (is_of u (Some o)) ≡ 1 = one_if-yes _ (of-same u o (of_c ∙ sym p.1)) in
              let a = outs_more u in
              record {
                empty = λ no. absurd (both_ways (is_claimed net.tree state u) no
                    (h.done_claimed u (ap (is_in state.done) p.1 ∙ done)));
                out = λ more. hole;
                full = λ e none_is. absurd (omega arith);
              })
          | inr p ↦ (
              let zero_is : one_if (is_of u (Some o)) ≡ 0 = one_if-no _ (of-other u o (λ e. p.1 (sym e ∙ of_c))) in
              let a = outs_more u in
              slot-kept net state state views now u _ _ grows keeps (λ e. e) (turns_same u) (omega arith)
              (set_else homes c u none p.1) (h.slots u lu))
        ];
        each = each-set net state state views i w grows keeps h.each (record {
          network = old.network;
          idle = λ none_is. (let z = old.idle none_is in record {
            own = z.own;
            joined = z.joined;
            turn = z.turn;
            noted = z.noted;
          });
          ordered = old.ordered;
          others = old.others;
          noted = old.noted;
          lent = λ x e.
              (let same : o ≡ x = cc e in
              subst (λ y. IsLent net w y × IsPublished now y) same (
                record {
                  within = (let l = within in omega arith);
                  fits = subst (λ y. IsOutcomeOf net y o) (sym of_c) got.2;
                  turn = (s, mine, ap (neighbour net.tree) of_c ∙ is);
                },
                keeps o got.3,
              ));
        });
        parts = (let a = parts-set views i v w at in let b = h.parts in omega arith);
      },
    )
