-- The first difference of two lists of names is one, and lists that are the same have none.
use Rattle.std.proofs.Common.{◌≡◌, ◌≢◌, ℕ, zero, suc, ◌<◌, inl, inr, List, [], ◌∷◌, take, refl, ap, ◌∙◌, sym, arith}
use Rattle.std.specs.Prelude.{slice_get}
use Rattle.std.proofs.lemmas.Bool.{cases_lt}
use Rattle.material_takeoff.specs.Agreement.{IsFirstDifference}

-- lists that begin alike have the same there
slice_get-take : (n : ℕ) (xs : List (List ℕ)) (i : ℕ) → i < n → slice_get (take n xs) i ≡ slice_get xs i
slice_get-take zero xs i below = absurd (omega (arith, below))
slice_get-take (suc n) [] i below = refl
slice_get-take (suc n) (x ∷ xs) zero below = refl
slice_get-take (suc n) (x ∷ xs) (suc i) below = slice_get-take n xs i (omega (arith, below))

-- lists that agree up to a difference have none before it
not_before : (names listed : List (List ℕ)) (n m : ℕ) (first : IsFirstDifference names listed n)
    (again : IsFirstDifference names listed m) → first.place < again.place → ⊥
not_before names listed n m first again less =
    first.differs (sym (slice_get-take again.place names first.place less)
    ∙ ap (λ (xs : List (List ℕ)). slice_get xs first.place) again.before
    ∙ slice_get-take again.place listed first.place less)

-- the first difference is one
pub difference-once : (names listed : List (List ℕ)) (n m : ℕ) → IsFirstDifference names listed n
    → IsFirstDifference names listed m → n ≡ m
difference-once names listed n m first again = elim (cases_lt first.place again.place) [
  | inl less ↦ absurd (not_before names listed n m first again less)
  | inr not_less ↦ elim (cases_lt again.place first.place) [
    | inl less ↦ absurd (not_before names listed m n again first less)
    | inr no_more ↦ (let a = first.number in let b = again.number in omega (arith, a, b, not_less, no_more))
  ]
]

-- lists that are the same have none
pub difference-none : (names listed : List (List ℕ)) (n : ℕ) → IsFirstDifference names listed n → names ≢ listed
difference-none names listed n first same = first.differs (ap (λ (xs : List (List ℕ)). slice_get xs first.place) same)
