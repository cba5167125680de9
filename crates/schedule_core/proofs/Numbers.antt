-- What a section's number says, and how events change it.
use Rattle.std.proofs.Common.{◌≡◌, ℕ, ◌+◌, ◌<◌, length, Bool, true, false, cond, Some, refl, ap, sym, ◌∙◌, arith, inl, inr}
use Rattle.std.proofs.lemmas.Bool.{lt-ltb, eqb-false, eq-eqb, and_cases, both_ways, cond-true, cond-false, cases_Bool, cases_eq}
use Rattle.std.specs.Prelude.{◌==◌, not, max, count_by, nat_lt}
use Rattle.duct_definitions.specs.Tree.{Tree, section_count, neighbour, children, is_leaf, is_number}
use Rattle.duct_definitions.proofs.SectionLists.{child_once}
use Rattle.schedule_core.specs.declared.events.Event.TheVariants.{Claim, Finish}
use Rattle.schedule_core.specs.Schedule.{State, at_start, is_in, is_claimed, added}
use Rattle.schedule_core.specs.CoreFields.{number_of}
use Rattle.schedule_core.proofs.Membership.{is_in-last, is_in-other, not_in-push, none_counted, all_counted}
use Rattle.schedule_core.proofs.Claims.{children-leaf, is_claimed-leaf, is_claimed-inner}

-- how many children of s aren't done
abbrev open_children : Tree → State → ℕ → ℕ
open_children t state s = count_by (λ c. not (is_in state.done c)) (children t s)

number-leaf : (t : Tree) (state : State) (s : ℕ) → is_leaf t s ≡ true
    → number_of t state s ≡ cond (is_in state.claimed s) 0 1
number-leaf t state s leaf = cond-true (is_leaf t s) (cond (is_in state.claimed s) 0 1) (open_children t state s) leaf

pub number-inner : (t : Tree) (state : State) (s : ℕ) → is_leaf t s ≡ false
    → number_of t state s ≡ count_by (λ c. not (is_in state.done c)) (children t s)
number-inner t state s inner = cond-false (is_leaf t s) (cond (is_in state.claimed s) 0 1) (open_children t state s) inner

-- a section that isn't a leaf has children
has_children : (t : Tree) (s : ℕ) → s < section_count t → is_leaf t s ≡ false → 0 < length (children t s)
has_children t s within inner =
    elim (and_cases (nat_lt s (section_count t)) (length (children t s) == 0) inner) [
      | inl outside ↦ absurd (both_ways (nat_lt s (section_count t)) outside (lt-ltb s (section_count t) within))
      | inr some ↦ (let differs = eqb-false (length (children t s)) 0 some in
          elim (cases_eq (length (children t s)) 0) [ inl none ↦ absurd (differs none) | inr more ↦ omega arith ])
    ]

-- before the first event
pub number_start : (t : Tree) (s : ℕ) → s < section_count t → max (length (children t s)) 1 ≡ number_of t at_start s
number_start t s within =
    elim (cases_Bool (is_leaf t s)) [
      | inl leaf ↦ ap (λ xs. max (length xs) 1) (children-leaf t s leaf) ∙ sym (number-leaf t at_start s leaf)
      | inr inner ↦
          let some = has_children t s within inner in
          let is : max (length (children t s)) 1 ≡ length (children t s) = omega arith in
          is ∙ sym (all_counted (children t s)) ∙ sym (number-inner t at_start s inner)
    ]

zero-test : (b : Bool) → (cond b 0 1 == 0) ≡ b
zero-test true = refl
zero-test false = refl

-- a section is claimed exactly where its number is 0
pub number-zero : (t : Tree) (state : State) (s : ℕ) → s < section_count t
    → (number_of t state s == 0) ≡ is_claimed t state s
number-zero t state s within =
    elim (cases_Bool (is_leaf t s)) [
      | inl leaf ↦
          ap (λ n. n == 0) (number-leaf t state s leaf) ∙ zero-test (is_in state.claimed s)
          ∙ sym (is_claimed-leaf t state s leaf)
      | inr inner ↦
          ap (λ n. n == 0) (number-inner t state s inner) ∙ none_counted (is_in state.done) (children t s)
          ∙ sym (is_claimed-inner t state s within inner)
    ]

-- a claim takes the leaf's number
pub number-claimed : (t : Tree) (state : State) (s : ℕ) → is_leaf t s ≡ true → number_of t (added state (Claim s)) s ≡ 0
number-claimed t state s leaf =
    number-leaf t (added state (Claim s)) s leaf ∙ ap (λ b. cond b 0 1) (is_in-last state.claimed s)

-- and no other
pub number-other : (t : Tree) (state : State) (s x : ℕ) → (x ≡ s → ⊥)
    → number_of t (added state (Claim s)) x ≡ number_of t state x
number-other t state s x differs =
    ap (λ b. cond (is_leaf t x) (cond b 0 1) (open_children t state x)) (is_in-other state.claimed s x differs)

-- a finish takes 1 from the number of the neighbour, and from no other
pub number-finished : (t : Tree) (state : State) (s x : ℕ) → s < section_count t → is_in state.done s ≡ false
    → number_of t (added state (Finish s)) x + cond (is_number x (neighbour t s)) 1 0 ≡ number_of t state x
number-finished t state s x within new =
    let less = not_in-push state.done s (children t x) new in
    let once = child_once t x s within in
    elim (cases_Bool (is_leaf t x)) [
      | inl leaf ↦
          let none : count_by (λ c. c == s) (children t x) ≡ 0 =
          ap (λ xs. count_by (λ c. c == s) xs) (children-leaf t x leaf) in
          let after = number-leaf t (added state (Finish s)) x leaf in
          let before = number-leaf t state x leaf in
          omega arith
      | inr inner ↦
          let after = number-inner t (added state (Finish s)) x inner in
          let before = number-inner t state x inner in
          omega arith
    ]

-- the neighbour of a section is no leaf
pub neighbour_inner : (t : Tree) (s n : ℕ) → s < section_count t → neighbour t s ≡ Some n → is_leaf t n ≡ false
neighbour_inner t s n within is =
    elim (cases_Bool (is_leaf t n)) [
      | inr inner ↦ inner
      | inl leaf ↦
          let none : count_by (λ c. c == s) (children t n) ≡ 0 =
          ap (λ xs. count_by (λ c. c == s) xs) (children-leaf t n leaf) in
          let one : cond {A = ℕ} (is_number n (neighbour t s)) 1 0 ≡ 1 =
          ap (λ o. cond (is_number n o) 1 0) is ∙ ap (λ b. cond b 1 0) (eq-eqb n n refl) in
          let once = child_once t n s within in
          absurd (omega arith)
    ]
