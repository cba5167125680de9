-- Sums over lists, how often a number stands in a list, and what a change of one item does to them.
use Rattle.std.proofs.Common.{◌≡◌, ℕ, zero, suc, ◌+◌, ◌*◌, ◌≤◌, List, [], ◌∷◌, ◌++◌, set, length, map, refl, ap, sym, ◌∙◌, arith, Bool, cond, ◌==◌}
use Rattle.std.proofs.lemmas.List.Sums.{sum_by-cons, sum_by-append}
use Rattle.std.specs.List.{sum_by}
use mathlib.Core.Option.{some, some-injective, some-ne-none}
use lib.ListN.{get_elem?}
use Rattle.steal_pool.specs.Rule.{times}

-- 1 where it is so, else 0
abbrev pub once : Bool → ℕ
once b = cond b 1 0

pub times-cons : (t x : ℕ) (xs : List ℕ) → times t (x ∷ xs) ≡ once (x == t) + times t xs
times-cons t x xs = sum_by-cons (λ y. cond (y == t) 1 0) x xs

pub times-append : (t : ℕ) (xs ys : List ℕ) → times t (xs ++ ys) ≡ times t xs + times t ys
times-append t xs ys = sum_by-append (λ y. cond (y == t) 1 0) xs ys

module _ {A : Type 0} where
  pub sum-set : (f : A → ℕ) (xs : List A) (k : ℕ) (v w : A) → get_elem? xs k ≡ some v
      → sum_by f (set xs k w) + f v ≡ sum_by f xs + f w
  sum-set f [] k v w e = absurd (some-ne-none v (sym e))
  sum-set f (x ∷ xs) zero v w e =
      let i : f x ≡ f v = ap f (some-injective x v e) in
      let a = sum_by-cons f w xs in
      let b = sum_by-cons f x xs in
      omega arith
  sum-set f (x ∷ xs) (suc k) v w e =
      let i = sum-set f xs k v w e in
      let a = sum_by-cons f x (set xs k w) in
      let b = sum_by-cons f x xs in
      omega arith

  pub sum-has : (f : A → ℕ) (xs : List A) (k : ℕ) (v : A) → get_elem? xs k ≡ some v → f v ≤ sum_by f xs
  sum-has f [] k v e = absurd (some-ne-none v (sym e))
  sum-has f (x ∷ xs) zero v e =
      let i : f x ≡ f v = ap f (some-injective x v e) in
      let b = sum_by-cons f x xs in
      omega arith
  sum-has f (x ∷ xs) (suc k) v e =
      let i = sum-has f xs k v e in
      let b = sum_by-cons f x xs in
      omega arith

  sum-none : (f p : A → ℕ) (xs : List A) → ((k : ℕ) (v : A) → get_elem? xs k ≡ some v → p v ≡ 0 → f v ≡ 0)
      → sum_by p xs ≡ 0 → sum_by f xs ≡ 0
  sum-none f p [] h e = refl
  sum-none f p (x ∷ xs) h e =
      let c = sum_by-cons p x xs in
      let d = sum_by-cons f x xs in
      let a = h 0 x refl (omega arith) in
      let b = sum-none f p xs (λ k v g. h (suc k) v g) (omega arith) in
      omega arith

  -- a sum in which the item with all of p alone counts
  pub sum-alone : (f p : A → ℕ) (xs : List A) (k : ℕ) (v : A)
      → ((i : ℕ) (a : A) → get_elem? xs i ≡ some a → p a ≡ 0 → f a ≡ 0) → get_elem? xs k ≡ some v
      → sum_by p xs ≡ p v → sum_by f xs ≡ f v
  sum-alone f p [] k v h at e = absurd (some-ne-none v (sym at))
  sum-alone f p (x ∷ xs) zero v h at e =
      let i : f x ≡ f v = ap f (some-injective x v at) in
      let j : p x ≡ p v = ap p (some-injective x v at) in
      let c = sum_by-cons p x xs in
      let d = sum_by-cons f x xs in
      let b = sum-none f p xs (λ k a g. h (suc k) a g) (omega arith) in
      omega arith
  sum-alone f p (x ∷ xs) (suc k) v h at e =
      let c = sum_by-cons p x xs in
      let d = sum_by-cons f x xs in
      let m = sum-has p xs k v at in
      let a = h 0 x refl (omega arith) in
      let b = sum-alone f p xs k v (λ i a g. h (suc i) a g) at (omega arith) in
      omega arith

  pub sum-const : (f : A → ℕ) (c : ℕ) (xs : List A) → ((k : ℕ) (v : A) → get_elem? xs k ≡ some v → f v ≡ c)
      → sum_by f xs ≡ c * length xs
  sum-const f c [] h = omega arith
  sum-const f c (x ∷ xs) h =
      let a = h 0 x refl in
      let d = sum_by-cons f x xs in
      let i = sum-const f c xs (λ k v e. h (suc k) v e) in
      omega arith

  pub sum-two : (f g : A → ℕ) (xs : List A) → sum_by (λ x. f x + g x) xs ≡ sum_by f xs + sum_by g xs
  sum-two f g [] = refl
  sum-two f g (x ∷ xs) =
      let i = sum-two f g xs in
      let a = sum_by-cons (λ y. f y + g y) x xs in
      let b = sum_by-cons f x xs in
      let c = sum_by-cons g x xs in
      omega arith

pub sum-map : {A B : Type 0} (f : B → ℕ) (g : A → B) (xs : List A) → sum_by f (map g xs) ≡ sum_by (λ x. f (g x)) xs
sum-map f g [] = refl
sum-map f g (x ∷ xs) =
    let i = sum-map f g xs in
    let a = sum_by-cons f (g x) (map g xs) in
    let b = sum_by-cons (λ y. f (g y)) x xs in
    omega arith

pub sum-same : {A B C : Type 0} (h : C → ℕ) (f : A → C) (g : B → C) (xs : List A) (ys : List B) → map f xs ≡ map g ys
    → sum_by (λ x. h (f x)) xs ≡ sum_by (λ y. h (g y)) ys
sum-same h f g xs ys e = sym (sum-map h f xs) ∙ ap (sum_by h) e ∙ sum-map h g ys
