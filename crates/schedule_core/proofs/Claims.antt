-- Which sections are claimed.
use Rattle.std.proofs.Common.{◌≡◌, ℕ, ◌<◌, List, [], ◌∷◌, length, Bool, true, false, cond, refl, ap, sym, ◌∙◌, arith, inl, inr}
use Rattle.std.proofs.lemmas.Bool.{lt-ltb, ltb-true, eqb-true, and_parts, cond-true, cond-false, cases_Bool}
use Rattle.std.specs.Prelude.{◌==◌, ◌&&◌, nat_lt}
use Rattle.std.specs.List.{list_all}
use Rattle.duct_definitions.specs.Tree.{Tree, section_count, children, is_leaf}
use Rattle.schedule_core.specs.Schedule.{State, is_in, is_claimed}

empty : (xs : List ℕ) → (length xs == 0) ≡ true → xs ≡ []
empty [] none = refl
empty (x ∷ xs) none = absurd (let is = eqb-true (length (x ∷ xs)) 0 none in omega arith)

pub leaf_within : (t : Tree) (s : ℕ) → is_leaf t s ≡ true → s < section_count t
leaf_within t s leaf =
    ltb-true s (section_count t) (and_parts (nat_lt s (section_count t)) (length (children t s) == 0) leaf).0

pub children-leaf : (t : Tree) (s : ℕ) → is_leaf t s ≡ true → children t s ≡ []
children-leaf t s leaf =
    empty (children t s) (and_parts (nat_lt s (section_count t)) (length (children t s) == 0) leaf).1

pub is_claimed-leaf : (t : Tree) (state : State) (s : ℕ) → is_leaf t s ≡ true
    → is_claimed t state s ≡ is_in state.claimed s
is_claimed-leaf t state s leaf =
    let done : Bool = list_all (is_in state.done) (children t s) in
    ap (λ b. b && cond (is_leaf t s) (is_in state.claimed s) done) (lt-ltb s (section_count t) (leaf_within t s leaf))
    ∙ cond-true (is_leaf t s) (is_in state.claimed s) done leaf

pub is_claimed-inner : (t : Tree) (state : State) (s : ℕ) → s < section_count t → is_leaf t s ≡ false
    → is_claimed t state s ≡ list_all (is_in state.done) (children t s)
is_claimed-inner t state s within inner =
    let done : Bool = list_all (is_in state.done) (children t s) in
    ap (λ b. b && cond (is_leaf t s) (is_in state.claimed s) done) (lt-ltb s (section_count t) within)
    ∙ cond-false (is_leaf t s) (is_in state.claimed s) done inner

-- what is claimed is a section
pub claimed_within : (t : Tree) (state : State) (s : ℕ) → is_claimed t state s ≡ true → s < section_count t
claimed_within t state s claimed =
    let done : Bool = list_all (is_in state.done) (children t s) in
    ltb-true s (section_count t)
    (and_parts (nat_lt s (section_count t)) (cond (is_leaf t s) (is_in state.claimed s) done) claimed).0

-- the children of what is claimed are done
pub children_done : (t : Tree) (state : State) (s : ℕ) → is_claimed t state s ≡ true
    → list_all (is_in state.done) (children t s) ≡ true
children_done t state s claimed =
    elim (cases_Bool (is_leaf t s)) [
      | inl leaf ↦ ap (list_all (is_in state.done)) (children-leaf t s leaf)
      | inr inner ↦ sym (is_claimed-inner t state s (claimed_within t state s claimed) inner) ∙ claimed
    ]
