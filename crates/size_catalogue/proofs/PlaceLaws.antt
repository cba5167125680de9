-- Names of which no two are equal, also with one more.
use Rattle.std.proofs.Common.{◌≡◌, ℕ, zero, suc, ◌⊎◌, inl, inr, List, [], ◌∷◌, ◌++◌, length, Bool, true, false, Option, Some, None, is_some, slice_get, refl, sym, ap, ◌∙◌, subst, arith}
use Rattle.std.specs.Str.{bytes_eq}
use Rattle.std.proofs.lemmas.Slice.Eq.{bytes_eq-Decides}
use Rattle.name_index.specs.Places.{place_of, is_among}
use Rattle.name_index.proofs.PlaceLaws.{or_last, place_of-push}
use Rattle.size_catalogue.specs.Places.{EachOnce}

-- ---- one more name at the end

is_none : (o : Option ℕ) → is_some o ≡ false → o ≡ None
is_none None e = refl
is_none (Some p) e = cc

-- a name that isn't there has no place
pub not_among : (name : List ℕ) (names : List (List ℕ)) → is_among name names ≡ false → place_of name names ≡ None
not_among name names e = is_none (place_of name names) e

-- what stands in the longer list stood in the shorter one, or is the last
pub slice_get-push : {A : Type 0} (xs : List A) (y : A) (i : ℕ) (x : A) → slice_get (xs ++ y ∷ []) i ≡ Some x → (slice_get xs i ≡ Some x) ⊎ ((i ≡ length xs) × (y ≡ x))
slice_get-push [] y zero x e = inr (refl, cc)
slice_get-push [] y (suc i) x e = cc
slice_get-push (z ∷ xs) y zero x e = inl e
slice_get-push (z ∷ xs) y (suc i) x e = elim (slice_get-push xs y i x e) [ inl at ↦ inl at | inr end ↦ inr (omega (arith, end.0), end.1) ]

-- no two names are equal, also with a new one
pub EachOnce-push : (names : List (List ℕ)) (last : List ℕ) → EachOnce names → place_of last names ≡ None → EachOnce (names ++ last ∷ [])
EachOnce-push names last once new i name at =
    elim (slice_get-push names last i name at) [
      | inl before ↦ place_of-push name last names ∙ ap (λ o. or_last o (bytes_eq last name) (length names)) (once i name before)
      | inr end ↦
          place_of-push name last names
          ∙ ap (λ (b : Bool). or_last (place_of name names) b (length names)) ((bytes_eq-Decides last name).1 end.1)
          ∙ ap (λ o. or_last o true (length names)) (subst (λ (n : List ℕ). place_of n names ≡ None) end.1 new)
          ∙ ap (λ k. Some k) (sym end.0)
    ]
