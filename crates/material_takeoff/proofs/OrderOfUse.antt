-- Names in order of first use, with one more at the end.
use Rattle.std.proofs.Common.{◌≡◌, ℕ, List, [], ◌∷◌, ◌++◌, Bool, true, false, not, cond, ◌||◌, ◌+◌, Option, Some, None, option_map, is_some, refl, ap, subst, ◌∙◌, sym, append-nil, append_assoc}
use Rattle.std.specs.Prelude.{filter}
use Rattle.std.specs.List.{list_any, IsDistinct}
use Rattle.std.specs.Str.{bytes_eq}
use Rattle.std.proofs.lemmas.Slice.Eq.{bytes_eq-Decides}
use Rattle.std.proofs.lemmas.List.Elements.{filter_passes, All-filter, recursion_from_All, All-from_recursion, All-weaker}
use Rattle.name_index.specs.Places.{place_of, is_among}
use Rattle.material_takeoff.specs.Uses.{without, order_of_use}

-- one name more, behind all where it is new
abbrev pub with_name : List (List ℕ) → List ℕ → List (List ℕ)
with_name [] more = more ∷ []
with_name (name ∷ names) more = cond (bytes_eq name more) (name ∷ names) (name ∷ with_name names more)

-- equal names are equal to the same names
pub same_name : (a b : List ℕ) → bytes_eq a b ≡ true → a ≡ b
same_name a b = (bytes_eq-Decides a b).0

other_way : (a b : List ℕ) (t : Bool) → bytes_eq a b ≡ false → bytes_eq b a ≡ t → t ≡ false
other_way a b false apart e = refl
other_way a b true apart e = sym ((bytes_eq-Decides a b).1 (sym (same_name b a e))) ∙ apart

-- other names are others both ways
pub bytes_eq-other : (a b : List ℕ) → bytes_eq a b ≡ false → bytes_eq b a ≡ false
bytes_eq-other a b apart = other_way a b (bytes_eq b a) apart refl

-- ---- one more name

-- the step, by whether the first name is the one left out (a), the new one is the first (b), or the one left out (c)
step : (m n : List ℕ) (W X : List (List ℕ)) (a b c : Bool) → (a ≡ true → b ≡ c)
    → X ≡ cond c W (with_name W n) → bytes_eq m n ≡ b
    → cond b (cond (not a) (m ∷ W) W) (cond (not a) (m ∷ X) X) ≡ cond c (cond (not a) (m ∷ W) W) (with_name (cond (not a) (m ∷ W) W) n)
step m n W X true b true same is e = ap (λ t. cond t W X) (same refl)
step m n W X true b false same is e = ap (λ t. cond t W X) (same refl) ∙ is
step m n W X false true true same is e = refl
step m n W X false true false same is e = ap (λ t. cond t (m ∷ W) (m ∷ with_name W n)) (sym e)
step m n W X false false true same is e = ap (λ r. m ∷ r) is
step m n W X false false false same is e = ap (λ r. m ∷ r) is ∙ ap (λ t. cond t (m ∷ W) (m ∷ with_name W n)) (sym e)

pub without-with_name : (x n : List ℕ) (names : List (List ℕ))
    → without x (with_name names n) ≡ cond (bytes_eq x n) (without x names) (with_name (without x names) n)
without-with_name x n [] = elim (bytes_eq x n) as (λ b. cond (not b) (n ∷ []) [] ≡ cond b [] (n ∷ [])) [ true ↦ refl | false ↦ refl ]
without-with_name x n (m ∷ ms) =
    (elim (bytes_eq m n) as (λ b. without x (cond b (m ∷ ms) (m ∷ with_name ms n)) ≡ cond b (without x (m ∷ ms)) (without x (m ∷ with_name ms n)))
    [ true ↦ refl | false ↦ refl ])
    ∙ step m n (without x ms) (without x (with_name ms n)) (bytes_eq x m) (bytes_eq m n) (bytes_eq x n)
    (λ same. ap (λ q. bytes_eq q n) (sym (same_name x m same))) (without-with_name x n ms) refl

-- with one more name at the end
pub order_of_use-push : (names : List (List ℕ)) (n : List ℕ) → order_of_use (names ++ n ∷ []) ≡ with_name (order_of_use names) n
order_of_use-push [] n = refl
order_of_use-push (x ∷ names) n =
    ap (λ rest. x ∷ without x rest) (order_of_use-push names n) ∙ ap (λ rest. x ∷ rest) (without-with_name x n (order_of_use names))
    ∙ (elim (bytes_eq x n) as (λ b. x ∷ cond b (without x (order_of_use names)) (with_name (without x (order_of_use names)) n)
    ≡ cond b (x ∷ without x (order_of_use names)) (x ∷ with_name (without x (order_of_use names)) n)) [ true ↦ refl | false ↦ refl ])

-- ---- each name once

IsDistinct-filter : (p : List ℕ → Bool) (names : List (List ℕ)) → IsDistinct bytes_eq names → IsDistinct bytes_eq (filter p names)
unfolding IsDistinct
IsDistinct-filter p [] h = tt
IsDistinct-filter p (m ∷ ms) h =
    elim (p m) as (λ b. IsDistinct bytes_eq (cond b (m ∷ filter p ms) (filter p ms))) [
      | true ↦ (
        recursion_from_All (λ y. bytes_eq m y ≡ false) (filter p ms)
            (All-filter p (λ y. bytes_eq m y ≡ false) ms (All-from_recursion (λ y. bytes_eq m y ≡ false) ms h.0)),
        IsDistinct-filter p ms h.1,
      )
      | false ↦ IsDistinct-filter p ms h.1
    ]

not_true : (b : Bool) → not b ≡ true → b ≡ false
not_true true e = cc
not_true false e = refl

pub IsDistinct-order_of_use : (names : List (List ℕ)) → IsDistinct bytes_eq (order_of_use names)
unfolding IsDistinct
IsDistinct-order_of_use [] = tt
IsDistinct-order_of_use (x ∷ names) = (
  recursion_from_All (λ y. bytes_eq x y ≡ false) (without x (order_of_use names))
      (All-weaker (λ y. not (bytes_eq x y) ≡ true) (λ y. bytes_eq x y ≡ false) (λ y. not_true (bytes_eq x y)) (without x (order_of_use names))
      (filter_passes (λ y. not (bytes_eq x y)) (order_of_use names))),
  IsDistinct-filter (λ y. not (bytes_eq x y)) (order_of_use names) (IsDistinct-order_of_use names),
)

-- ---- no name left out

-- another name is among the others as among all
pub list_any-without : (x n : List ℕ) → bytes_eq x n ≡ false → (names : List (List ℕ))
    → list_any (λ m. bytes_eq m n) (without x names) ≡ list_any (λ m. bytes_eq m n) names
list_any-without x n apart [] = refl
list_any-without x n apart (m ∷ ms) =
    elim (bytes_eq x m) as (λ b. bytes_eq x m ≡ b → list_any (λ m. bytes_eq m n) (cond (not b) (m ∷ without x ms) (without x ms))
    ≡ (bytes_eq m n || list_any (λ m. bytes_eq m n) ms)) [
      | true ↦ λ same.
          let here : bytes_eq m n ≡ false = subst (λ q. bytes_eq q n ≡ false) (same_name x m same) apart in
          list_any-without x n apart ms ∙ sym (ap (λ b. b || list_any (λ m. bytes_eq m n) ms) here)
      | false ↦ λ other. ap (λ rest. bytes_eq m n || rest) (list_any-without x n apart ms)
    ] refl

-- ---- the order

more_behind : (names : List (List ℕ)) (n : List ℕ) → (rest : List (List ℕ)) × (with_name names n ≡ names ++ rest)
more_behind [] n = (n ∷ [], refl)
more_behind (x ∷ names) n =
    elim (bytes_eq x n) as (λ b. (rest : List (List ℕ)) × (cond b (x ∷ names) (x ∷ with_name names n) ≡ (x ∷ names) ++ rest)) [
      | true ↦ ([], sym (append-nil (x ∷ names)))
      | false ↦ let (rest, e) = more_behind names n in (rest, ap (λ ns. x ∷ ns) e)
    ]

-- names behind others come behind theirs
pub order_of_use-append : (before after : List (List ℕ)) → (rest : List (List ℕ)) × (order_of_use (before ++ after) ≡ order_of_use before ++ rest)
order_of_use-append before [] = ([], ap order_of_use (append-nil before) ∙ sym (append-nil (order_of_use before)))
order_of_use-append before (n ∷ after) =
    let (one, first) = more_behind (order_of_use before) n in
    let (rest, others) = order_of_use-append (before ++ n ∷ []) after in (
      one ++ rest,
      ap order_of_use (sym (append_assoc before (n ∷ []) after)) ∙ others
          ∙ ap (λ ns. ns ++ rest) (order_of_use-push before n ∙ first) ∙ append_assoc (order_of_use before) one rest,
    )

-- ---- no other name, and none left out

among_is : (name : List ℕ) (names : List (List ℕ)) → is_among name names ≡ list_any (λ m. bytes_eq m name) names
among_is name [] = refl
among_is name (first ∷ names) =
    elim (bytes_eq first name) as (λ b. is_some (cond b (Some 0) (option_map (λ place. place + 1) (place_of name names)))
    ≡ (b || list_any (λ m. bytes_eq m name) names)) [
      | true ↦ refl
      | false ↦ is_some-later (place_of name names) ∙ among_is name names
    ]
  where
    is_some-later : (o : Option ℕ) → is_some (option_map (λ place. place + 1) o) ≡ is_some o
    is_some-later None = refl
    is_some-later (Some p) = refl

any_used : (name : List ℕ) (names : List (List ℕ)) → list_any (λ m. bytes_eq m name) (order_of_use names) ≡ list_any (λ m. bytes_eq m name) names
any_used name [] = refl
any_used name (first ∷ names) =
    elim (bytes_eq first name) as (λ b. bytes_eq first name ≡ b → (b || list_any (λ m. bytes_eq m name) (without first (order_of_use names)))
    ≡ (b || list_any (λ m. bytes_eq m name) names)) [
      | true ↦ λ same. refl
      | false ↦ λ apart. list_any-without first name apart (order_of_use names) ∙ any_used name names
    ] refl

pub is_among-order_of_use : (name : List ℕ) (names : List (List ℕ)) → is_among name (order_of_use names) ≡ is_among name names
is_among-order_of_use name names = among_is name (order_of_use names) ∙ any_used name names ∙ sym (among_is name names)
