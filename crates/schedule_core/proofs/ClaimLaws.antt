-- A section is claimed by one event, and stays claimed.
use Rattle.std.proofs.Common.{◌≡◌, ℕ, ◌≤◌, List, [], ◌∷◌, true, false, cond, Option, Some, None, refl, ap, sym, ◌∙◌, arith, inl, inr}
use Rattle.std.proofs.lemmas.Bool.{both_ways, and_parts, not-true, cases_Bool, cases_eq, eq-eqb, eqb-true, ne_eqb, or_cases, or_parts, false_from_ne_true, cond_both}
use Rattle.std.proofs.lemmas.Map.Keys.{IsDistinct-cons}
use Rattle.std.specs.Prelude.{◌==◌, not}
use Rattle.std.specs.List.{list_all, AllByRecursion}
use Rattle.duct_definitions.specs.Tree.{Tree, IsTree, neighbour, children, is_leaf, is_number}
use Rattle.duct_definitions.proofs.TreeLaws.{earlier}
use Rattle.schedule_core.specs.declared.events.Event.{Event}
use Rattle.schedule_core.specs.declared.events.Event.TheVariants.{Claim, Finish}
use Rattle.schedule_core.specs.Schedule.{State, at_start, is_in, is_claimed, accepts, added}
use Rattle.schedule_core.specs.Answers.{claimed_neighbour, next_of}
use Rattle.schedule_core.specs.Orderly.{AreDistinct}
use Rattle.schedule_core.specs.Claims.{with_next, claims_from, claims_of}
use Rattle.schedule_core.specs.CoreFields.{number_of}
use Rattle.schedule_core.proofs.Claims.{leaf_within, is_claimed-inner, claimed_within}
use Rattle.schedule_core.proofs.Numbers.{number-zero, number-claimed, number-other, number-finished, neighbour_inner}
use Rattle.schedule_core.proofs.OrderlyLaws.{none_twice}

-- an accepted event leaves each number as it is or less
number-falls : (t : Tree) (state : State) (event : Event) (s : ℕ) → accepts t state event ≡ true
    → number_of t (added state event) s ≤ number_of t state s
number-falls t state (Claim l) s accepted =
    let leaf = (and_parts (is_leaf t l) (not (is_claimed t state l)) accepted).0 in
    elim (cases_eq s l) [
      | inl same ↦
          let zero : number_of t (added state (Claim l)) s ≡ 0 =
          ap (number_of t (added state (Claim l))) same ∙ number-claimed t state l leaf in
          omega arith
      | inr differs ↦ (let is = number-other t state l s differs in omega arith)
    ]
number-falls t state (Finish f) s accepted =
    let (claimed, unfinished) = and_parts (is_claimed t state f) (not (is_in state.done f)) accepted in
    let is = number-finished t state f s (claimed_within t state f claimed) (not-true (is_in state.done f) unfinished) in
    omega arith

-- what is claimed stays claimed
pub stays_claimed : (t : Tree) (state : State) (event : Event) (s : ℕ) → accepts t state event ≡ true
    → is_claimed t state s ≡ true → is_claimed t (added state event) s ≡ true
stays_claimed t state event s accepted claimed =
    let within = claimed_within t state s claimed in
    let zero = eqb-true (number_of t state s) 0 (number-zero t state s within ∙ claimed) in
    let falls = number-falls t state event s accepted in
    sym (number-zero t (added state event) s within) ∙ eq-eqb (number_of t (added state event) s) 0 (omega arith)

-- the neighbour that is claimed is the neighbour, and its children are done
claimed_neighbour-some : (t : Tree) (state : State) (o : Option ℕ) (s : ℕ) → claimed_neighbour t state o ≡ Some s
    → (o ≡ Some s) × (list_all (is_in state.done) (children t s) ≡ true)
claimed_neighbour-some t state None s is = absurd (cc is)
claimed_neighbour-some t state (Some n) s is =
    elim (cases_Bool (list_all (is_in state.done) (children t n))) [
      | inl all ↦
          let found : Some n ≡ Some s = sym (ap (λ b. cond b (Some n) None) all) ∙ is in
          let same : n ≡ s = cc found in
          (found, sym (ap (λ m. list_all (is_in state.done) (children t m)) same) ∙ all)
      | inr some ↦ (let none : None ≡ Some s = sym (ap (λ b. cond b (Some n) None) some) ∙ is in absurd (cc none))
    ]

-- the section that an accepted event claims wasn't claimed before it, and is claimed after it
next_new : (t : Tree) (state : State) (event : Event) (s : ℕ) → IsTree t → accepts t state event ≡ true
    → next_of t (added state event) event ≡ Some s
    → (is_claimed t state s ≡ false) × (is_claimed t (added state event) s ≡ true)
next_new t state (Claim l) s tree accepted is =
    let (leaf, free) = and_parts (is_leaf t l) (not (is_claimed t state l)) accepted in
    let same : l ≡ s = cc is in
    let zero = number-zero t (added state (Claim l)) l (leaf_within t l leaf) in (
      ap (is_claimed t state) (sym same) ∙ not-true (is_claimed t state l) free,
      ap (is_claimed t (added state (Claim l))) (sym same) ∙ sym zero ∙ ap (λ n. n == 0) (number-claimed t state l leaf),
    )
next_new t state (Finish f) s tree accepted is =
    let (claimed, unfinished) = and_parts (is_claimed t state f) (not (is_in state.done f)) accepted in
    let (neighbour_is, all) = claimed_neighbour-some t (added state (Finish f)) (neighbour t f) s is in
    let within = claimed_within t state f claimed in
    let before = earlier t f s tree within neighbour_is in
    let one : cond {A = ℕ} (is_number s (neighbour t f)) 1 0 ≡ 1 =
    ap (λ o. cond (is_number s o) 1 0) neighbour_is ∙ ap (λ b. cond b 1 0) (eq-eqb s s refl) in
    let less = number-finished t state f s within (not-true (is_in state.done f) unfinished) in
    let some : (number_of t state s == 0) ≡ false = ne_eqb (number_of t state s) 0 (λ zero. omega arith) in (
      sym (number-zero t state s (omega arith)) ∙ some,
      is_claimed-inner t (added state (Finish f)) s (omega arith) (neighbour_inner t f s within neighbour_is) ∙ all,
    )

-- what isn't claimed after an accepted event wasn't claimed before it
new_before : (t : Tree) (state : State) (event : Event) (s : ℕ) → accepts t state event ≡ true
    → is_claimed t (added state event) s ≡ false → is_claimed t state s ≡ false
new_before t state event s accepted new =
    false_from_ne_true (is_claimed t state s) (λ claimed.
    both_ways (is_claimed t (added state event) s) new (stays_claimed t state event s accepted claimed))

-- sections that weren't claimed before an accepted event, with the one that it claims
new_with_next : (t : Tree) (state : State) (event : Event) (rest : List ℕ) → IsTree t → accepts t state event ≡ true
    → ((s : ℕ) → is_in rest s ≡ true → is_claimed t (added state event) s ≡ false)
    → (next : Option ℕ) → next_of t (added state event) event ≡ next
    → (s : ℕ) → is_in (with_next next rest) s ≡ true → is_claimed t state s ≡ false
new_with_next t state event rest tree accepted new None is s stands =
    new_before t state event s accepted (new s stands)
new_with_next t state event rest tree accepted new (Some x) is s stands =
    elim (or_cases (s == x) (is_in rest s) stands) [
      | inl same ↦ ap (is_claimed t state) (eqb-true s x same) ∙ (next_new t state event x tree accepted is).0
      | inr later ↦ new_before t state event s accepted (new s later)
    ]

-- events claim what wasn't claimed before them
all_new : (t : Tree) (state : State) (events : List Event) → IsTree t
    → (s : ℕ) → is_in (claims_from t state events) s ≡ true → is_claimed t state s ≡ false
all_new t state [] tree s stands = absurd (both_ways false refl stands)
all_new t state (event ∷ events) tree s stands =
    let next : State = added state event in
    let claims : List ℕ = with_next (next_of t next event) (claims_from t next events) in
    let rest : List ℕ = claims_from t state events in
    elim (cases_Bool (accepts t state event)) [
      | inl accepted ↦
          new_with_next t state event (claims_from t next events) tree accepted (all_new t next events tree)
          (next_of t next event) refl s (ap (λ b. is_in (cond b claims rest) s) (sym accepted) ∙ stands)
      | inr refused ↦ all_new t state events tree s (ap (λ b. is_in (cond b claims rest) s) (sym refused) ∙ stands)
    ]

apart : (x : ℕ) (xs : List ℕ) → is_in xs x ≡ false → AllByRecursion (λ y. (x == y) ≡ false) xs
apart x [] none = tt
apart x (y ∷ ys) none = (let (here, later) = or_parts (x == y) (is_in ys x) none in (here, apart x ys later))

distinct_with_next : (t : Tree) (state : State) (event : Event) (rest : List ℕ) → IsTree t
    → accepts t state event ≡ true
    → ((s : ℕ) → is_in rest s ≡ true → is_claimed t (added state event) s ≡ false) → AreDistinct rest
    → (next : Option ℕ) → next_of t (added state event) event ≡ next → AreDistinct (with_next next rest)
distinct_with_next t state event rest tree accepted new once None is = once
distinct_with_next t state event rest tree accepted new once (Some x) is =
    let claimed = (next_new t state event x tree accepted is).1 in
    let none = false_from_ne_true (is_in rest x) (λ stands.
    both_ways (is_claimed t (added state event) x) (new x stands) claimed) in
    IsDistinct-cons (λ a b. a == b) x rest (apart x rest none) once

-- no section is claimed by two events
distinct_from : (t : Tree) (state : State) (events : List Event) → IsTree t → AreDistinct (claims_from t state events)
distinct_from t state [] tree = none_twice
distinct_from t state (event ∷ events) tree =
    let next : State = added state event in
    cond_both (accepts t state event) (with_next (next_of t next event) (claims_from t next events))
    (claims_from t state events) (λ (xs : List ℕ). AreDistinct xs)
    (λ accepted. distinct_with_next t state event (claims_from t next events) tree accepted
    (all_new t next events tree) (distinct_from t next events tree) (next_of t next event) refl)
    (λ refused. distinct_from t state events tree)

pub claimed_once : (t : Tree) (events : List Event) → IsTree t → AreDistinct (claims_of t events)
claimed_once t events tree = distinct_from t at_start events tree
