-- A pass's list has room for the section whose turn the pass has.
use Rattle.std.proofs.Common.{◌≡◌, ℕ, ◌<◌, ◌≤◌, List, [], ◌∷◌, length, Bool, true, false, refl, ap, sym, ◌∙◌, arith, inl, inr}
use Rattle.std.proofs.lemmas.Bool.{both_ways, false_from_ne_true}
use Rattle.std.proofs.lemmas.Bool.Decides.{eqb_tells, leb_tells}
use Rattle.std.proofs.lemmas.List.{length-map}
use Rattle.std.proofs.lemmas.Map.Steps.{length-le_from_distinct_below}
use Rattle.std.proofs.lemmas.List.Sums.{sum_by-cons}
use Rattle.std.proofs.lemmas.Map.Keys.{IsDistinct-cons}
use Rattle.std.specs.Prelude.{◌==◌, ◌||◌}
use Rattle.std.specs.List.{count_by, flat_map, AllByRecursion}
use mathlib.Core.Option.{some}
use lib.ListN.{get_elem?}
use Rattle.duct_definitions.specs.Network.{Network}
use Rattle.duct_definitions.specs.Tree.{section_count}
use Rattle.schedule_core.specs.Orderly.{AreDistinct}
use Rattle.schedule_core.specs.Schedule.{State, is_in}
use Rattle.schedule_core.proofs.Claims.{claimed_within}
use Rattle.schedule_core.proofs.OrderlyLaws.{none_twice}
use Rattle.contract_join.specs.declared.outcome.Outcome.{Outcome}
use Rattle.contract_join.specs.Outcomes.{section_of}
use Rattle.child_counter.specs.declared.view.PassView.{PassView}
use Rattle.child_counter.specs.Passes.{sections_of, times, all_of}
use Rattle.child_counter.specs.Shown.{one_if}
use Rattle.child_counter.specs.Steps.{Happens}
use Rattle.child_counter.proofs.Sums.{sum-has, set_at, one_if-no}
use Rattle.child_counter.proofs.Lists.{times-append}

-- how often a number stands in a list
abbrev often : ℕ → List ℕ → ℕ
often s xs = count_by (λ x. x == s) xs

pub often-sections : (s : ℕ) (os : List Outcome) → often s (sections_of os) ≡ times s os
often-sections s [] = refl
often-sections s (o ∷ os) =
    let a = sum_by-cons (λ x. one_if (x == s)) (section_of o) (sections_of os) in
    let b = sum_by-cons (λ z. one_if (section_of z == s)) o os in
    let c = often-sections s os in
    omega arith

-- where none stands twice the list is distinct
apart-from : (x : ℕ) (xs : List ℕ) → often x xs ≡ 0 → AllByRecursion (λ y. (x == y) ≡ false) xs
apart-from x [] none_is = tt
apart-from x (y ∷ ys) none_is =
    let a = sum_by-cons (λ z. one_if (z == x)) y ys in (
      elim (eqb_tells x y) [
        | inl p ↦ absurd (let one : one_if (y == x) ≡ 1 = elim
            (eqb_tells y x) [ inl q ↦ ap one_if q.0 | inr q ↦ absurd (q.1 (sym p.1)) ] in omega arith)
        | inr p ↦ p.0
      ],
      apart-from x ys (omega arith),
    )

distinct-from : (xs : List ℕ) → ((s : ℕ) → often s xs ≤ 1) → AreDistinct xs
distinct-from [] h = none_twice
distinct-from (x ∷ xs) h =
    let a = sum_by-cons (λ z. one_if (z == x)) x xs in
    let one : one_if (x == x) ≡ 1 = elim (eqb_tells x x) [ inl q ↦ ap one_if q.0 | inr q ↦ absurd (q.1 refl) ] in
    let here = h x in
    IsDistinct-cons (λ y z. y == z) x xs (apart-from x xs (omega arith))
    (distinct-from xs (λ s. let b = sum_by-cons (λ z. one_if (z == s)) x xs in let c = h s in omega arith))

-- what stands in the list counts
in-often : (s : ℕ) (xs : List ℕ) → is_in xs s ≡ true → 0 < often s xs
in-often s [] is = absurd (both_ways false refl is)
in-often s (x ∷ xs) is =
    let a = sum_by-cons (λ z. one_if (z == s)) x xs in
    elim (eqb_tells s x) [
      | inl p ↦ (let one : one_if (x == s) ≡ 1 = elim (eqb_tells x s)
          [ inl q ↦ ap one_if q.0 | inr q ↦ absurd (q.1 (sym p.1)) ] in omega arith)
      | inr p ↦ (let rest = in-often s xs (sym (ap (λ b. b || is_in xs s) p.0) ∙ is) in omega arith)
    ]

-- sections of which none stands twice are no more than there are
few : (os : List Outcome) (n : ℕ) → ((s : ℕ) → times s os ≤ 1) → ((s : ℕ) → n ≤ s → times s os ≡ 0) → length os ≤ n
few os n once outside =
    let a = length-le_from_distinct_below (sections_of os) n
    (distinct-from (sections_of os) (λ s. let e = often-sections s os in let b = once s in omega arith))
    (λ s is. elim (leb_tells n s) [
      | inl p ↦ (
          let b = in-often s (sections_of os) is in
          let c = often-sections s os in
          let d = outside s p.1 in
          absurd (omega arith))
      | inr p ↦ p.1
    ]) in
    let b = length-map os section_of in
    omega arith

-- a pass has no more sections in its list than there are
pub own-few : (v w : PassView) (word : ℕ) (related : State → ℕ → State → Type 0) → Happens v w word related
    → length w.own ≤ section_count v.net.tree
own-few v w word related h =
    let net : Network = v.net in
    let views : List PassView = h.new.views in
    let here : get_elem? views h.place ≡ some w = ap (λ l. get_elem? l h.place) h.has
    ∙ set_at h.old.views h.place v w h.had in
    let most : (s : ℕ) → times s w.own ≤ one_if (is_in h.after.done s) = (λ s.
    let a = sum-has (λ (x : PassView). times s (all_of x)) views h.place w here in
    let b = times-append s (flat_map (λ outcomes. outcomes) w.joined) w.own in
    let c = h.shows.lists s in
    omega arith) in
    few w.own (section_count net.tree)
    (λ s. let a = most s in let b = one_if-most (is_in h.after.done s) in omega arith)
    (λ s beyond. let a = most s in
    let b : one_if (is_in h.after.done s) ≡ 0 = one_if-no _
    (false_from_ne_true _ (λ done. let l = claimed_within net.tree h.after s
    (h.shows.done_claimed s done) in omega arith)) in
    omega arith)
  where
    one_if-most : (b : Bool) → one_if b ≤ 1
    one_if-most true = omega arith
    one_if-most false = omega arith
