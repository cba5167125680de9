-- The items of a list, under a filter, a range, and a greatest or least value.
use Rattle.std.proofs.Common.{◌≡◌, ℕ, zero, suc, ◌+◌, ◌<◌, ◌≤◌, ◌⊎◌, inl, inr, List, [], ◌∷◌, ◌++◌, map, Bool, true, false, refl, ap, sym, subst, arith, cond, max}
use Rattle.std.proofs.lemmas.Bool.{and_parts, or_cases, or_left, or_right, eqb-true, eq-eqb, cases_lt, cases_eq, both_ways, cases_Bool}
use Rattle.std.specs.Prelude.{◌==◌, filter, fold}
use Rattle.std.specs.List.{range_with_len, list_any, list_all, flat_map}
use Rattle.duct_definitions.specs.Dampers.{least_of}

abbrev pub Among : {X : Type 0} → X → List X → Type 0
Among x [] = ⊥
Among x (y ∷ ys) = (x ≡ y) ⊎ Among x ys

pub Among-filter : {X : Type 0} (test : X → Bool) (x : X) (xs : List X) → Among x xs → test x ≡ true
    → Among x (filter test xs)
Among-filter test x [] among passes = among
Among-filter {X} test x (y ∷ ys) (inl same) passes =
    rw (subst (λ (z : X). test z ≡ true) same passes) (inl same)
Among-filter {X} test x (y ∷ ys) (inr later) passes =
    let rest = Among-filter test x ys later passes in
    elim (test y) as (λ b. Among x (cond b (y ∷ filter test ys) (filter test ys))) [ true ↦ inr rest | false ↦ rest ]

pub Among-filtered : {X : Type 0} (test : X → Bool) (x : X) (xs : List X) → Among x (filter test xs)
    → Among x xs × (test x ≡ true)
Among-filtered test x [] among = absurd among
Among-filtered {X} test x (y ∷ ys) among =
    let later : Among x (filter test ys) → Among x (y ∷ ys) × (test x ≡ true) = λ (rest : Among x (filter test ys)).
    let found = Among-filtered test x ys rest in (inr found.0, found.1) in
    elim (cases_Bool (test y)) [
      | inl passes ↦ elim (rw passes at among) [
        | inl same ↦ (inl same, subst (λ (z : X). test z ≡ true) (sym same) passes)
        | inr rest ↦ later rest
      ]
      | inr fails ↦ later (rw fails at among)
    ]

pub Among-range : (a n x : ℕ) → a ≤ x → x < a + n → Among x (range_with_len a n)
Among-range a zero x low high = absurd (omega arith)
Among-range a (suc n) x low high =
    elim (cases_eq x a) [ inl same ↦ inl same | inr other ↦ inr (Among-range (a + 1) n x (omega arith) (omega arith)) ]

pub below-range : (a n x : ℕ) → Among x (range_with_len a n) → x < a + n
below-range a zero x among = absurd among
below-range a (suc n) x (inl same) = omega arith
below-range a (suc n) x (inr later) = let below = below-range (a + 1) n x later in omega arith

pub list_any-among : (s : ℕ) (xs : List ℕ) → Among s xs → list_any (λ y. y == s) xs ≡ true
list_any-among s [] among = absurd among
list_any-among s (y ∷ ys) (inl same) = or_left _ _ (eq-eqb y s (sym same))
list_any-among s (y ∷ ys) (inr later) = or_right _ _ (list_any-among s ys later)

pub among-list_any : (s : ℕ) (xs : List ℕ) → list_any (λ y. y == s) xs ≡ true → Among s xs
among-list_any s [] any = absurd (both_ways false refl any)
among-list_any s (y ∷ ys) any =
    elim (or_cases (y == s) (list_any (λ z. z == s) ys) any) [
      | inl here ↦ inl (sym (eqb-true y s here))
      | inr later ↦ inr (among-list_any s ys later)
    ]

-- a greatest value is at least the first, and at least each
pub start-le-max : {X : Type 0} (f : X → ℕ) (a : ℕ) (xs : List X) → a ≤ fold max a (map f xs)
start-le-max f a [] = omega arith
start-le-max f a (x ∷ xs) = let more = start-le-max f (max a (f x)) xs in omega arith

pub le-max : (f : ℕ → ℕ) (a x : ℕ) (xs : List ℕ) → Among x xs → f x ≤ fold max a (map f xs)
le-max f a x [] among = absurd among
le-max f a x (y ∷ ys) (inl same) = rw same (let more = start-le-max f (max a (f y)) ys in omega arith)
le-max f a x (y ∷ ys) (inr later) = le-max f (max a (f y)) x ys later

-- a least value is at most each, and is the value of one
pub least_of-le : (f : ℕ → ℕ) (x : ℕ) (xs : List ℕ) → Among x xs → least_of (map f xs) ≤ f x
least_of-le f x [] among = absurd among
least_of-le f x (y ∷ []) (inl same) = rw same (omega arith)
least_of-le f x (y ∷ []) (inr none) = absurd none
least_of-le f x (y ∷ z ∷ zs) (inl same) = rw same (omega arith)
least_of-le f x (y ∷ z ∷ zs) (inr later) = let more = least_of-le f x (z ∷ zs) later in omega arith

pub least_of-reached : (f : ℕ → ℕ) (x : ℕ) (xs : List ℕ) → Among x xs
    → (y : ℕ) × (Among y xs × (least_of (map f xs) ≡ f y))
least_of-reached f x [] among = absurd among
least_of-reached f x (y ∷ []) among = (y, (inl refl, refl))
least_of-reached f x (y ∷ z ∷ zs) among =
    let (w, (within, is)) = least_of-reached f z (z ∷ zs) (inl refl) in
    elim (cases_lt (f y) (f w)) [ inl less ↦ (y, (inl refl, omega arith)) | inr most ↦ (w, (inr within, omega arith)) ]

pub list_all-among : {X : Type 0} (test : X → Bool) (x : X) (xs : List X) → list_all test xs ≡ true → Among x xs
    → test x ≡ true
list_all-among test x [] all among = absurd among
list_all-among {X} test x (y ∷ ys) all (inl same) =
    subst (λ (z : X). test z ≡ true) (sym same) (and_parts (test y) (list_all test ys) all).0
list_all-among test x (y ∷ ys) all (inr later) =
    list_all-among test x ys (and_parts (test y) (list_all test ys) all).1 later

pub Among-map : {X Y : Type 0} (f : X → Y) (x : X) (xs : List X) → Among x xs → Among (f x) (map f xs)
Among-map f x [] among = absurd among
Among-map f x (y ∷ ys) (inl same) = inl (ap f same)
Among-map f x (y ∷ ys) (inr later) = inr (Among-map f x ys later)

Among-append_left : {X : Type 0} (x : X) (xs ys : List X) → Among x xs → Among x (xs ++ ys)
Among-append_left x [] ys among = absurd among
Among-append_left x (z ∷ zs) ys (inl same) = inl same
Among-append_left x (z ∷ zs) ys (inr later) = inr (Among-append_left x zs ys later)

Among-append_right : {X : Type 0} (x : X) (xs ys : List X) → Among x ys → Among x (xs ++ ys)
Among-append_right x [] ys among = among
Among-append_right x (z ∷ zs) ys among = inr (Among-append_right x zs ys among)

pub Among-flat_map : {X Y : Type 0} (f : X → List Y) (y : Y) (x : X) (xs : List X) → Among x xs → Among y (f x)
    → Among y (flat_map f xs)
Among-flat_map f y x [] among here = absurd among
Among-flat_map {X} f y x (z ∷ zs) (inl same) here =
    Among-append_left y (f z) (flat_map f zs) (subst (λ (w : X). Among y (f w)) same here)
Among-flat_map f y x (z ∷ zs) (inr later) here =
    Among-append_right y (f z) (flat_map f zs) (Among-flat_map f y x zs later here)
