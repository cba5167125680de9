-- The lists of a tree: children, leaves and roots are in rising number, and each section is a child once.
use Rattle.std.proofs.Common.{◌≡◌, ℕ, zero, suc, ◌+◌, ◌<◌, ◌≤◌, List, [], ◌∷◌, ◌++◌, Bool, true, false, cond, Some, None, Option, refl, ap, ◌∙◌, inl, inr, get_or, arith}
use Rattle.std.proofs.lemmas.Bool.{eqb-true, eq-eqb, cases_eq, both_ways, ne_eqb}
use Rattle.std.proofs.lemmas.List.Elements.{All-filter, All-weaker, filter_passes, filter-append}
use Rattle.std.proofs.lemmas.List.FromFn.{length-range_with_len, get_or-range_with_len}
use Rattle.std.proofs.lemmas.List.Kept.{IsStrictlyIncreasing-filter}
use Rattle.std.proofs.lemmas.List.Sums.{sum_by-cons}
use Rattle.std.specs.Prelude.{◌==◌, ◌&&◌, filter, count_by, All, IsTrue}
use Rattle.std.specs.List.{range_with_len}
use Rattle.std.specs.List.Sorted.{IsStrictlyIncreasing}
use Rattle.duct_units.specs.declared.side.Side.{Side}
use Rattle.duct_definitions.specs.Tree.{Tree, IsTree, section_count, sections, neighbour, side, is_number, children, is_leaf, leaves, all_leaves}
use Rattle.duct_units.specs.Side.{same_side}
use Rattle.duct_definitions.proofs.TreeLaws.{earlier}

range_rising : (a n : ℕ) → IsStrictlyIncreasing (range_with_len a n)
range_rising a n k within =
    let count = length-range_with_len a n in
    let first = get_or-range_with_len a n k 0 (omega arith) in
    let second = get_or-range_with_len a n (k + 1) 0 (omega arith) in
    omega arith

range_below : (a n : ℕ) → All (λ s. s < a + n) (range_with_len a n)
range_below a n k d within =
    let count = length-range_with_len a n in
    let is = get_or-range_with_len a n k d (omega arith) in
    omega arith

-- numbers that pass a test, out of the first n, in rising number
pub chosen_rising : (test : ℕ → Bool) (n : ℕ) → IsStrictlyIncreasing (filter test (range_with_len 0 n))
chosen_rising test n = IsStrictlyIncreasing-filter test (range_with_len 0 n) (range_rising 0 n)

pub chosen_below : (test : ℕ → Bool) (n : ℕ) → All (λ s. s < n) (filter test (range_with_len 0 n))
chosen_below test n =
    let below : All (λ s. s < n) (range_with_len 0 n) =
    All-weaker (λ s. s < 0 + n) (λ s. s < n) (λ s low. omega arith) (range_with_len 0 n) (range_below 0 n) in
    All-filter test (λ s. s < n) (range_with_len 0 n) below

pub chosen_pass : (test : ℕ → Bool) (n : ℕ) → All (λ s. IsTrue (test s)) (filter test (range_with_len 0 n))
chosen_pass test n = filter_passes test (range_with_len 0 n)

pub range-push : (a n : ℕ) → range_with_len a (suc n) ≡ range_with_len a n ++ (a + n) ∷ []
range-push a zero = ap (λ m. m ∷ []) (omega arith)
range-push a (suc n) =
    ap (λ xs. a ∷ xs) (range-push (a + 1) n)
    ∙ ap (λ m. a ∷ (range_with_len (a + 1) n ++ m ∷ [])) (omega arith)

-- one more number
pub chosen-suc : (test : ℕ → Bool) (n : ℕ)
    → filter test (range_with_len 0 (suc n)) ≡ filter test (range_with_len 0 n) ++ cond (test n) (n ∷ []) []
chosen-suc test n =
    let last : 0 + n ≡ n = omega arith in
    ap (filter test) (range-push 0 n)
    ∙ filter-append test (range_with_len 0 n) ((0 + n) ∷ [])
    ∙ ap (λ m. filter test (range_with_len 0 n) ++ cond (test m) (m ∷ []) []) last

-- the same as a loop counts it
pub chosen-push : (test : ℕ → Bool) (n : ℕ)
    → filter test (range_with_len 0 (n + 1)) ≡ filter test (range_with_len 0 n) ++ cond (test n) (n ∷ []) []
chosen-push test n =
    let more : n + 1 ≡ suc n = omega arith in
    ap (λ m. filter test (range_with_len 0 m)) more ∙ chosen-suc test n

-- the number of the neighbour
pub is_number-some : (s : ℕ) (o : Option ℕ) → is_number s o ≡ true → o ≡ Some s
is_number-some s None is = absurd (both_ways false refl is)
is_number-some s (Some n) is = ap Some (eqb-true n s is)

-- a child stands after its neighbour
pub children_later : (t : Tree) (s : ℕ) → IsTree t → All (λ c. s < c) (children t s)
children_later t s tree k d within =
    let c : ℕ = get_or (children t s) k d in
    let test : ℕ → Bool = λ x. is_number s (neighbour t x) in
    let below : c < section_count t = chosen_below test (section_count t) k d within in
    let is : test c ≡ true = chosen_pass test (section_count t) k d within in
    earlier t c s tree below (is_number-some s (neighbour t c) is)

-- a number below the first is in no place
times-before : (test : ℕ → Bool) (c a n : ℕ) → c < a → count_by (λ x. x == c) (filter test (range_with_len a n)) ≡ 0
times-before test c a zero before = refl
times-before test c a (suc n) before =
    let later : List ℕ = filter test (range_with_len (a + 1) n) in
    let rest = times-before test c (a + 1) n (omega arith) in
    let other : (a == c) ≡ false = ne_eqb a c (omega arith) in
    elim (test a) as (λ b. count_by (λ x. x == c) (cond b (a ∷ later) later) ≡ 0) [
      | true ↦
          sum_by-cons (λ x. cond (x == c) 1 0) a later
          ∙ ap (λ b. cond b 1 0 + count_by (λ x. x == c) later) other
          ∙ omega arith
      | false ↦ rest
    ]

-- a number of the range is in one place if it passes the test, and else in none
times-chosen : (test : ℕ → Bool) (c a n : ℕ) → a ≤ c → c < a + n
    → count_by (λ x. x == c) (filter test (range_with_len a n)) ≡ cond (test c) 1 0
times-chosen test c a zero low high = absurd (omega arith)
times-chosen test c a (suc n) low high =
    let later : List ℕ = filter test (range_with_len (a + 1) n) in
    let times : List ℕ → ℕ = λ xs. count_by (λ x. x == c) xs in
    elim (cases_eq a c) [
      | inl same ↦
          let none : times later ≡ 0 = times-before test c (a + 1) n (omega arith) in
          let here : (a == c) ≡ true = eq-eqb a c same in
          let at_a : times (cond (test a) (a ∷ later) later) ≡ cond (test a) 1 0 =
          elim (test a) as (λ b. times (cond b (a ∷ later) later) ≡ cond b 1 0) [
            | true ↦
                sum_by-cons (λ x. cond (x == c) 1 0) a later ∙ ap (λ b. cond b 1 0 + times later) here ∙ omega arith
            | false ↦ none
          ] in
          at_a ∙ ap (λ m. cond (test m) 1 0) same
      | inr differs ↦
          let rest : times later ≡ cond (test c) 1 0 = times-chosen test c (a + 1) n (omega arith) (omega arith) in
          let other : (a == c) ≡ false = ne_eqb a c differs in
          elim (test a) as (λ b. times (cond b (a ∷ later) later) ≡ cond (test c) 1 0) [
            | true ↦
                sum_by-cons (λ x. cond (x == c) 1 0) a later
                ∙ ap (λ b. cond b 1 0 + times later) other
                ∙ omega arith
            | false ↦ rest
          ]
    ]

-- a section is a child of its neighbour once, and of no other section
pub child_once : (t : Tree) (s c : ℕ) → c < section_count t
    → count_by (λ x. x == c) (children t s) ≡ cond (is_number s (neighbour t c)) 1 0
child_once t s c within =
    times-chosen (λ x. is_number s (neighbour t x)) c 0 (section_count t) (omega arith) (omega arith)

filter-filter : {X : Type 0} (p q : X → Bool) (xs : List X) → filter p (filter q xs) ≡ filter (λ x. p x && q x) xs
filter-filter p q [] = refl
filter-filter {X} p q (x ∷ xs) =
    let rest = filter-filter p q xs in
    let once : List X = filter q xs in
    let both : List X = filter (λ y. p y && q y) xs in
    elim (q x) as (λ b. filter p (cond b (x ∷ once) once) ≡ cond (p x && b) (x ∷ both) both) [
      | true ↦ elim (p x) as (λ b. cond b (x ∷ filter p once) (filter p once) ≡ cond (b && true) (x ∷ both) both) [
        | true ↦ ap (λ ys. x ∷ ys) rest
        | false ↦ rest
      ]
      | false ↦ elim (p x) as (λ b. filter p once ≡ cond (b && false) (x ∷ both) both) [
        | true ↦ rest
        | false ↦ rest
      ]
    ]

-- the leaves of a side are those of all leaves that stand on it
pub leaves_of_side : (t : Tree) (x : Side) → filter (λ s. same_side (side t s) x) (all_leaves t) ≡ leaves t x
leaves_of_side t x = filter-filter (λ s. same_side (side t s) x) (is_leaf t) (sections t)
