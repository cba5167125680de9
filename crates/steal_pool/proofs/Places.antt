-- Items at places of lists.
use Rattle.std.proofs.Common.{◌≡◌, ℕ, zero, suc, ◌<◌, ◌≤◌, ◌≢◌, List, [], ◌∷◌, ◌++◌, set, length, get_or, map, take, refl, ap, sym, ◌∙◌, arith, ◌⊎◌, inl, inr, subst}
use mathlib.Core.Option.{some, some-injective, some-ne-none}
use lib.ListN.{get_elem?}
use Rattle.steal_pool.specs.Deals.{skip}

pub at-short : {A : Type 0} (xs : List A) (k : ℕ) (x : A) → get_elem? xs k ≡ some x → k < length xs
at-short [] k x e = absurd (some-ne-none x (sym e))
at-short (y ∷ ys) zero x e = omega arith
at-short (y ∷ ys) (suc k) x e = let i = at-short ys k x e in omega arith

pub at-end : {A : Type 0} (l : List A) (a b : A) (j : ℕ) → get_elem? (l ++ a ∷ []) j ≡ some b → (get_elem? l j ≡ some b) ⊎ ((j ≡ length l) × (a ≡ b))
at-end [] a b zero e = inr (refl, some-injective a b e)
at-end [] a b (suc j) e = absurd (some-ne-none b (sym e))
at-end (x ∷ xs) a b zero e = inl e
at-end (x ∷ xs) a b (suc j) e = elim (at-end xs a b j e) [ inl p ↦ inl p | inr p ↦ inr (ap suc p.0, p.1) ]

pub at-unmap : {A B : Type 0} (f : A → B) (xs : List A) (k : ℕ) (b : B) → get_elem? (map f xs) k ≡ some b → (a : A) × (get_elem? xs k ≡ some a) × (f a ≡ b)
at-unmap f [] k b e = absurd (some-ne-none b (sym e))
at-unmap f (x ∷ xs) zero b e = (x, refl, some-injective (f x) b e)
at-unmap f (x ∷ xs) (suc k) b e = at-unmap f xs k b e

pub map-at : {A B : Type 0} (f : A → B) (xs : List A) (k : ℕ) (v w : A) → get_elem? xs k ≡ some v → f w ≡ f v → map f (set xs k w) ≡ map f xs
map-at f [] k v w e s = refl
map-at f (x ∷ xs) zero v w e s = ap (λ y. y ∷ map f xs) (s ∙ sym (ap f (some-injective x v e)))
map-at f (x ∷ xs) (suc k) v w e s = ap (λ ys. f x ∷ ys) (map-at f xs k v w e s)

pub at-mid : {A : Type 0} (xs : List A) (y : A) (ys : List A) → get_elem? (xs ++ y ∷ ys) (length xs) ≡ some y
at-mid [] y ys = refl
at-mid (x ∷ xs) y ys = at-mid xs y ys

pub at-get : {A : Type 0} (xs : List A) (k : ℕ) (a d : A) → get_elem? xs k ≡ some a → get_or xs k d ≡ a
at-get [] k a d e = absurd (some-ne-none a (sym e))
at-get (x ∷ xs) zero a d e = some-injective x a e
at-get (x ∷ xs) (suc k) a d e = at-get xs k a d e

pub carry : {A : Type 0} (P : ℕ → A → Type 0) (x j : ℕ) (w u : A) → x ≡ j → w ≡ u → P j w → P x u
carry P x j w u a b p = subst (λ y. P y u) (sym a) (subst (λ y. P j y) b p)

pub take-none : {A : Type 0} (i : ℕ) → ◌≡◌ {A = List A} (take i []) []
take-none zero = refl
take-none (suc i) = refl

pub take-more : {A : Type 0} (i : ℕ) (ds : List A) (d : A) → get_elem? ds i ≡ some d → take (suc i) ds ≡ take i ds ++ d ∷ []
take-more i [] d e = absurd (some-ne-none d (sym e))
take-more zero (a ∷ ds) d e = ap (λ y. y ∷ []) (some-injective a d e)
take-more (suc i) (a ∷ ds) d e = ap (λ ys. a ∷ ys) (take-more i ds d e)

pub take-whole : {A : Type 0} (ds : List A) → take (length ds) ds ≡ ds
take-whole [] = refl
take-whole (a ∷ ds) = ap (λ ys. a ∷ ys) (take-whole ds)

-- one more deque
pub skip-more : {A : Type 0} (x i : ℕ) (ds : List A) (d : A) → get_elem? ds i ≡ some d → x ≢ i → skip x (take (suc i) ds) ≡ skip x (take i ds) ++ d ∷ []
skip-more x i [] d e n = absurd (some-ne-none d (sym e))
skip-more zero zero (a ∷ ds) d e n = absurd (n refl)
skip-more zero (suc i) (a ∷ ds) d e n = take-more i ds d e
skip-more (suc x) zero (a ∷ ds) d e n = ap (λ y. y ∷ []) (some-injective a d e)
skip-more (suc x) (suc i) (a ∷ ds) d e n = ap (λ ys. a ∷ ys) (skip-more x i ds d e (λ p. n (ap suc p)))

-- a hand's own deque
pub skip-same : {A : Type 0} (i : ℕ) (ds : List A) → skip i (take (suc i) ds) ≡ skip i (take i ds)
skip-same i [] = ap (λ ys. skip i ys) (sym (take-none i))
skip-same zero (a ∷ ds) = refl
skip-same (suc i) (a ∷ ds) = ap (λ ys. a ∷ ys) (skip-same i ds)

pub skip-below : {A : Type 0} (j k : ℕ) (ds : List A) (d : A) → get_elem? (skip j ds) k ≡ some d → k < j → get_elem? ds k ≡ some d
skip-below j k [] d e l = absurd (some-ne-none d (sym e))
skip-below zero k (x ∷ xs) d e l = absurd (omega arith)
skip-below (suc j) zero (x ∷ xs) d e l = e
skip-below (suc j) (suc k) (x ∷ xs) d e l = skip-below j k xs d e (omega arith)

pub skip-above : {A : Type 0} (j k : ℕ) (ds : List A) (d : A) → get_elem? (skip j ds) k ≡ some d → j ≤ k → get_elem? ds (suc k) ≡ some d
skip-above j k [] d e l = absurd (some-ne-none d (sym e))
skip-above zero k (x ∷ xs) d e l = e
skip-above (suc j) zero (x ∷ xs) d e l = absurd (omega arith)
skip-above (suc j) (suc k) (x ∷ xs) d e l = skip-above j k xs d e (omega arith)
