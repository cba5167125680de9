-- How a claim and a finish change what is claimed, and which finishes are accepted.
use Rattle.std.proofs.Common.{◌≡◌, ℕ, ◌+◌, ◌<◌, [], ◌∷◌, ◌++◌, Some, true, false, ap, sym, ◌∙◌, arith, inl, inr, cond}
use Rattle.std.proofs.lemmas.Bool.Decides.{eqb_tells, leb_tells}
use Rattle.std.proofs.lemmas.Bool.{and_from, eq-eqb, ne_eqb, false_from_ne_true}
use Rattle.std.proofs.lemmas.List.Sums.{fold_push}
use Rattle.std.specs.Prelude.{◌==◌, not, ◌&&◌}
use Rattle.duct_definitions.specs.Tree.{Tree, IsTree, section_count, neighbour, is_leaf, is_number}
use Rattle.duct_definitions.proofs.TreeLaws.{earlier}
use Rattle.schedule_core.specs.declared.events.Event.{Event}
use Rattle.schedule_core.specs.declared.events.Event.TheVariants.{Claim, Finish}
use Rattle.schedule_core.specs.Schedule.{State, at_start, is_in, is_claimed, accepts, added, after_event}
use Rattle.schedule_core.specs.CoreFields.{number_of}
use Rattle.schedule_core.proofs.Claims.{claimed_within, leaf_within}
use Rattle.schedule_core.proofs.Numbers.{number-zero, number-claimed, number-other, number-finished}
use Rattle.child_counter.specs.Shown.{IsReached, one_if}
use Rattle.child_counter.proofs.Sums.{one_if-yes, one_if-no, number-same, number-none}

-- one event more
pub reached-more : (t : Tree) (state : State) (event : Event) → IsReached t state
    → IsReached t (after_event t state event)
reached-more t state event h =
    (h.0 ++ event ∷ [], ap (λ a. after_event t a event) h.1 ∙ sym (fold_push (after_event t) at_start h.0 event))

-- an accepted event adds its section
pub after-accepted : (t : Tree) (state : State) (event : Event) → accepts t state event ≡ true
    → after_event t state event ≡ added state event
after-accepted t state event is = ap (λ b. cond b (added state event) state) is

pub after-refused : (t : Tree) (state : State) (event : Event) → accepts t state event ≡ false
    → after_event t state event ≡ state
after-refused t state event is = ap (λ b. cond b (added state event) state) is

-- two states in which a section has the same number
same_claimed : (t : Tree) (a b : State) (s : ℕ) → (s < section_count t → number_of t a s ≡ number_of t b s)
    → is_claimed t a s ≡ is_claimed t b s
same_claimed t a b s same =
    elim (leb_tells (section_count t) s) [
      | inl p ↦ (let beyond = p.1 in
          false_from_ne_true _ (λ is. let l = claimed_within t a s is in omega arith)
          ∙ sym (false_from_ne_true _ (λ is. let l = claimed_within t b s is in omega arith)))
      | inr p ↦ sym (number-zero t a s p.1) ∙ ap (λ n. n == 0) (same p.1) ∙ number-zero t b s p.1
    ]

-- a claim leaves every other section as it is
pub claimed_other : (t : Tree) (state : State) (l s : ℕ) → (s ≡ l → ⊥)
    → is_claimed t (added state (Claim l)) s ≡ is_claimed t state s
claimed_other t state l s differs = same_claimed t (added state (Claim l)) state s
    (λ within. number-other t state l s differs)

pub claimed_leaf : (t : Tree) (state : State) (l : ℕ) → is_leaf t l ≡ true
    → is_claimed t (added state (Claim l)) l ≡ true
claimed_leaf t state l leaf =
    sym (number-zero t (added state (Claim l)) l (leaf_within t l leaf))
    ∙ ap (λ n. n == 0) (number-claimed t state l leaf)

-- a leaf's finish is accepted once it is claimed
pub accepts_claimed : (t : Tree) (state : State) (l s : ℕ) → is_leaf t l ≡ true → is_claimed t state l ≡ false
    → is_in state.done l ≡ false
    → one_if (accepts t (added state (Claim l)) (Finish s)) ≡ one_if (accepts t state (Finish s)) + one_if
    (is_number s (Some l))
accepts_claimed t state l s leaf free new =
    elim (eqb_tells s l) [
      | inl p ↦ (
          let same = p.1 in
          let after : accepts t (added state (Claim l)) (Finish s) ≡ true =
          ap (λ x. accepts t (added state (Claim l)) (Finish x)) same
          ∙ and_from (is_claimed t (added state (Claim l)) l) (not (is_in state.done l)) (claimed_leaf t state l leaf)
          (ap not new) in
          let before : accepts t state (Finish s) ≡ false =
          ap (λ x. accepts t state (Finish x)) same ∙ ap (λ b. b && not (is_in state.done l)) free in
          let number : is_number s (Some l) ≡ true = ap (λ x. is_number x (Some l)) same ∙ number-same l in
          let a = one_if-yes _ after in
          let b = one_if-no _ before in
          let c = one_if-yes _ number in
          omega arith)
      | inr p ↦ (
          let is : accepts t (added state (Claim l)) (Finish s) ≡ accepts t state (Finish s) =
          ap (λ b. b && not (is_in state.done s)) (claimed_other t state l s p.1) in
          let a = ap one_if is in
          let c = one_if-no _ (number-none s (Some l) (λ e. p.1 (let q : l ≡ s = cc e in sym q))) in
          omega arith)
    ]

-- a finish leaves every section but the neighbour as it is
pub claimed_beside : (t : Tree) (state : State) (f s : ℕ) → f < section_count t → is_in state.done f ≡ false
    → (neighbour t f ≡ Some s → ⊥)
    → is_claimed t (added state (Finish f)) s ≡ is_claimed t state s
claimed_beside t state f s within new differs =
    same_claimed t (added state (Finish f)) state s (λ l.
    let less = number-finished t state f s within new in
    let none = one_if-no _ (number-none s (neighbour t f) differs) in
    omega arith)

-- the neighbour was not claimed, and is claimed where one child was left
pub neighbour_claimed : (t : Tree) (state : State) (f n : ℕ) → IsTree t → f < section_count t
    → is_in state.done f ≡ false → neighbour t f ≡ Some n
    → (0 < number_of t state n) × (is_claimed t state n ≡ false)
    × (is_claimed t (added state (Finish f)) n ≡ (number_of t state n == 1))
neighbour_claimed t state f n tree within new is =
    let before = earlier t f n tree within is in
    let less = number-finished t state f n within new in
    let one : one_if (is_number n (neighbour t f)) ≡ 1 = ap (λ o. one_if (is_number n o)) is
    ∙ one_if-yes _ (number-same n) in
    let some : 0 < number_of t state n = omega arith in (
      some,
      sym (number-zero t state n (omega arith)) ∙ ne_eqb (number_of t state n) 0 (λ z. omega arith),
      sym (number-zero t (added state (Finish f)) n (omega arith))
          ∙ elim (eqb_tells (number_of t state n) 1) [
            | inl p ↦ (let q = p.1 in eq-eqb (number_of t (added state (Finish f)) n) 0 (omega arith) ∙ sym p.0)
            | inr p ↦ (let q = p.1 in ne_eqb (number_of t (added state (Finish f)) n) 0 (λ z. omega arith) ∙ sym p.0)
          ],
    )
