-- Sums over lists and over what passes know, and what a change of one place does to them.
use Rattle.std.proofs.Common.{◌≡◌, ℕ, zero, suc, ◌+◌, ◌<◌, ◌≤◌, List, [], ◌∷◌, set, length, Option, Some, None, refl, ap, sym, ◌∙◌, arith, inl, inr, Bool, true, false, slice_index, slice_set}
use Rattle.std.proofs.lemmas.List.Sums.{sum_by-cons}
use Rattle.std.proofs.lemmas.List.{get_or-set_same, get_or-set_other}
use Rattle.std.proofs.lemmas.Bool.Decides.{eqb_tells}
use Rattle.std.proofs.lemmas.Bool.{both_ways}
use Rattle.std.specs.Prelude.{◌==◌}
use Rattle.std.specs.List.{sum_by}
use mathlib.Core.Option.{some, some-injective, some-ne-none}
use lib.ListN.{get_elem?}
use Rattle.duct_definitions.specs.Tree.{is_number}
use Rattle.child_counter.specs.declared.view.PassView.{PassView}
use Rattle.child_counter.specs.Passes.{times, all_of, is_of, finishes, turns, outs}
use Rattle.child_counter.specs.Shown.{one_if}

module _ {A : Type 0} where
  pub sum-set : (f : A → ℕ) (xs : List A) (i : ℕ) (v w : A) → get_elem? xs i ≡ some v
      → sum_by f (set xs i w) + f v ≡ sum_by f xs + f w
  sum-set f [] i v w at = absurd (some-ne-none v (sym at))
  sum-set f (x ∷ xs) zero v w at =
      let same : f x ≡ f v = ap f (some-injective x v at) in
      let a = sum_by-cons f w xs in
      let b = sum_by-cons f x xs in
      omega arith
  sum-set f (x ∷ xs) (suc i) v w at =
      let rest = sum-set f xs i v w at in
      let a = sum_by-cons f x (set xs i w) in
      let b = sum_by-cons f x xs in
      omega arith

  pub sum-has : (f : A → ℕ) (xs : List A) (i : ℕ) (v : A) → get_elem? xs i ≡ some v → f v ≤ sum_by f xs
  sum-has f [] i v at = absurd (some-ne-none v (sym at))
  sum-has f (x ∷ xs) zero v at = let same : f x ≡ f v = ap f
      (some-injective x v at) in let b = sum_by-cons f x xs in omega arith
  sum-has f (x ∷ xs) (suc i) v at = let rest = sum-has f xs i v at in let b = sum_by-cons f x xs in omega arith

  pub sum-zero : (f : A → ℕ) (xs : List A) → ((i : ℕ) (v : A) → get_elem? xs i ≡ some v → f v ≡ 0) → sum_by f xs ≡ 0
  sum-zero f [] h = refl
  sum-zero f (x ∷ xs) h =
      let here = h 0 x refl in
      let rest = sum-zero f xs (λ i v at. h (suc i) v at) in
      let b = sum_by-cons f x xs in
      omega arith

  none-of : (f p : A → ℕ) (xs : List A) → ((i : ℕ) (v : A) → get_elem? xs i ≡ some v → p v ≡ 0 → f v ≡ 0)
      → sum_by p xs ≡ 0 → sum_by f xs ≡ 0
  none-of f p [] h is = refl
  none-of f p (x ∷ xs) h is =
      let b = sum_by-cons f x xs in
      let c = sum_by-cons p x xs in
      let here = h 0 x refl (omega arith) in
      let rest = none-of f p xs (λ i v at. h (suc i) v at) (omega arith) in
      omega arith

  -- where the item at one place alone counts for p, it alone counts for f
  pub sum-alone : (f p : A → ℕ) (xs : List A) (i : ℕ) (v : A)
      → ((k : ℕ) (a : A) → get_elem? xs k ≡ some a → p a ≡ 0 → f a ≡ 0) → get_elem? xs i ≡ some v → sum_by p xs ≡ p v
      → sum_by f xs ≡ f v
  sum-alone f p [] i v h at is = absurd (some-ne-none v (sym at))
  sum-alone f p (x ∷ xs) zero v h at is =
      let same : f x ≡ f v = ap f (some-injective x v at) in
      let alone : p x ≡ p v = ap p (some-injective x v at) in
      let b = sum_by-cons f x xs in
      let c = sum_by-cons p x xs in
      let rest = none-of f p xs (λ k a g. h (suc k) a g) (omega arith) in
      omega arith
  sum-alone f p (x ∷ xs) (suc i) v h at is =
      let has = sum-has p xs i v at in
      let b = sum_by-cons f x xs in
      let c = sum_by-cons p x xs in
      let here = h 0 x refl (omega arith) in
      let rest = sum-alone f p xs i v (λ k a g. h (suc k) a g) at (omega arith) in
      omega arith

  pub set_twice : (xs : List A) (i : ℕ) (a b : A) → set (set xs i a) i b ≡ set xs i b
  set_twice [] i a b = refl
  set_twice (x ∷ xs) zero a b = refl
  set_twice (x ∷ xs) (suc i) a b = ap (λ l. x ∷ l) (set_twice xs i a b)

  pub set_at : (xs : List A) (i : ℕ) (v a : A) → get_elem? xs i ≡ some v → get_elem? (set xs i a) i ≡ some a
  set_at [] i v a at = absurd (some-ne-none v (sym at))
  set_at (x ∷ xs) zero v a at = refl
  set_at (x ∷ xs) (suc i) v a at = set_at xs i v a at

pub word-same : (words : List ℕ) (i x : ℕ) → i < length words → slice_index (slice_set words i x) i ≡ x
word-same words i x within = get_or-set_same words i x 0 within

pub word-other : (words : List ℕ) (i k x : ℕ) → (k ≡ i → ⊥)
    → slice_index (slice_set words i x) k ≡ slice_index words k
word-other words i k x differs = get_or-set_other words i k x 0 differs

pub word-again : (words : List ℕ) (i : ℕ) → slice_set words i (slice_index words i) ≡ words
word-again [] i = refl
word-again (w ∷ ws) zero = refl
word-again (w ∷ ws) (suc i) = ap (λ l. w ∷ l) (word-again ws i)

pub one_if-yes : (b : Bool) → b ≡ true → one_if b ≡ 1
one_if-yes b is = ap one_if is

pub one_if-no : (b : Bool) → b ≡ false → one_if b ≡ 0
one_if-no b is = ap one_if is

pub yes_if-one : (b : Bool) → 0 < one_if b → b ≡ true
yes_if-one true more = refl
yes_if-one false more = absurd (omega arith)

pub no_if-zero : (b : Bool) → one_if b ≡ 0 → b ≡ false
no_if-zero false none = refl
no_if-zero true none = absurd (omega arith)

pub number-same : (s : ℕ) → is_number s (Some s) ≡ true
number-same s = elim (eqb_tells s s) [ inl p ↦ p.0 | inr p ↦ absurd (p.1 refl) ]

pub number-is : (s : ℕ) (o : Option ℕ) → is_number s o ≡ true → o ≡ Some s
number-is s None is = absurd (both_ways false refl is)
number-is s (Some n) is = elim (eqb_tells n s) [ inl p ↦ ap Some p.1 | inr p ↦ absurd (both_ways (n == s) p.0 is) ]

pub number-none : (s : ℕ) (o : Option ℕ) → (o ≡ Some s → ⊥) → is_number s o ≡ false
number-none s None not = refl
number-none s (Some n) not = elim (eqb_tells n s) [ inl p ↦ absurd (not (ap Some p.1)) | inr p ↦ p.0 ]

pub some_same : (x y : ℕ) → Some x ≡ Some y → x ≡ y
some_same x y is = cc is

-- a change of one pass in the three sums
pub finishes-set : (views : List PassView) (i s : ℕ) (v w : PassView) → get_elem? views i ≡ some v
    → finishes (set views i w) s + times s (all_of v) ≡ finishes views s + times s (all_of w)
finishes-set views i s v w at = sum-set (λ (x : PassView). times s (all_of x)) views i v w at

pub turns-set : (views : List PassView) (i s : ℕ) (v w : PassView) → get_elem? views i ≡ some v
    → turns (set views i w) s + one_if (is_number s v.turn) ≡ turns views s + one_if (is_number s w.turn)
turns-set views i s v w at = sum-set (λ (x : PassView). one_if (is_number s x.turn)) views i v w at

pub outs-set : (views : List PassView) (i s : ℕ) (v w : PassView) → get_elem? views i ≡ some v
    → outs (set views i w) s + one_if (is_of s v.out) ≡ outs views s + one_if (is_of s w.out)
outs-set views i s v w at = sum-set (λ (x : PassView). one_if (is_of s x.out)) views i v w at

pub parts-set : (views : List PassView) (i : ℕ) (v w : PassView) → get_elem? views i ≡ some v
    → sum_by (λ (x : PassView). x.parts) (set views i w) + v.parts ≡ sum_by
    (λ (x : PassView). x.parts) views + w.parts
parts-set views i v w at = sum-set (λ (x : PassView). x.parts) views i v w at

-- a pass that has the turn is one of those that have it
pub has_turn : (views : List PassView) (i s : ℕ) (v : PassView) → get_elem? views i ≡ some v → v.turn ≡ Some s
    → 0 < turns views s
has_turn views i s v at is =
    let a = sum-has (λ (x : PassView). one_if (is_number s x.turn)) views i v at in
    let b : one_if (is_number s v.turn) ≡ 1 = ap (λ o. one_if (is_number s o)) is ∙ one_if-yes _ (number-same s) in
    omega arith
