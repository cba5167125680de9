-- Lists that are read from their beginning.
use Rattle.std.proofs.Common.{◌≡◌, ℕ, zero, suc, ◌+◌, ◌≤◌, List, [], ◌∷◌, ◌++◌, map, length, take, Some, slice_get, refl, ap, sym, ◌∙◌, arith}
use Rattle.std.proofs.lemmas.List.{map-append}

-- one more is taken
taken-suc : {A : Type 0} (xs : List A) (i : ℕ) (x : A) → slice_get xs i ≡ Some x → take i xs ++ x ∷ [] ≡ take (suc i) xs
taken-suc [] i x at = absurd (cc at)
taken-suc (y ∷ ys) zero x at = (let same : y ≡ x = cc in ap (λ v. v ∷ []) (sym same))
taken-suc (y ∷ ys) (suc i) x at = ap (λ zs. y ∷ zs) (taken-suc ys i x at)

pub taken : {A : Type 0} (xs : List A) (i : ℕ) (x : A) → slice_get xs i ≡ Some x → take i xs ++ x ∷ [] ≡ take (i + 1) xs
taken xs i x at = taken-suc xs i x at ∙ next (suc i) (i + 1) (omega arith)
  where
    next : (a b : ℕ) → a ≡ b → take a xs ≡ take b xs
    next a b e = ap (λ n. take n xs) e

-- all are taken
pub taken-all : {A : Type 0} (xs : List A) (i : ℕ) → length xs ≤ i → take i xs ≡ xs
taken-all [] zero all = refl
taken-all [] (suc i) all = refl
taken-all (x ∷ xs) zero all = absurd (omega arith)
taken-all (x ∷ xs) (suc i) all = ap (λ ys. x ∷ ys) (taken-all xs i (omega arith))

pub map-taken : {A B : Type 0} (f : A → B) (xs : List A) (i : ℕ) (x : A) → slice_get xs i ≡ Some x → map f (take i xs) ++ f x ∷ [] ≡ map f (take (i + 1) xs)
map-taken f xs i x at = sym (map-append f (take i xs) (x ∷ [])) ∙ ap (map f) (taken xs i x at)
