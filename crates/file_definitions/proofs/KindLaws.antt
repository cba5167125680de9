-- What the values of an array are, one by one.
use Rattle.std.proofs.Common.{◌≡◌, ℕ, suc, zero, List, [], ◌∷◌, length, Bool, true, false, ◌&&◌, Option, Some, None, option_map, is_some, refl, ap, ◌∙◌, sym, subst, arith}
use Rattle.std.specs.Prelude.{slice_get, option_and_then}
use Rattle.std.specs.List.{list_all}
use Rattle.toml.specs.Data.{Data}
use Rattle.file_definitions.specs.Document.{all_of}

-- what a list is, by its first value and the others
abbrev pub joined : {A : Type 0} → Option A → Option (List A) → Option (List A)
joined first others = option_and_then (λ x. option_map (λ xs. x ∷ xs) others) first

joined-is_some : {A : Type 0} (first : Option A) (others : Option (List A)) → is_some (joined first others) ≡ (is_some first && is_some others)
joined-is_some None others = refl
joined-is_some (Some x) None = refl
joined-is_some (Some x) (Some xs) = refl

-- each is of the kind, exactly where they all are
pub all_of-decides : {A : Type 0} (kind : Data → Option A) (values : List Data) → is_some (all_of kind values) ≡ list_all (λ value. is_some (kind value)) values
all_of-decides kind [] = refl
all_of-decides kind (value ∷ values) = joined-is_some (kind value) (all_of kind values) ∙ ap (λ b. is_some (kind value) && b) (all_of-decides kind values)

-- the two parts of what a list is
joined-parts : {A : Type 0} (first : Option A) (others : Option (List A)) (x : A) (xs : List A) → joined first others ≡ Some (x ∷ xs) → (first ≡ Some x) × (others ≡ Some xs)
joined-parts None others x xs e = cc
joined-parts (Some y) None x xs e = cc
joined-parts (Some y) (Some ys) x xs e = (cc, cc)

joined-nil : {A : Type 0} (first : Option A) (others : Option (List A)) → joined first others ≡ Some [] → ⊥
joined-nil None others e = cc
joined-nil (Some y) None e = cc
joined-nil (Some y) (Some ys) e = cc

-- there is one for each value
pub all_of-length : {A : Type 0} (kind : Data → Option A) (values : List Data) (xs : List A) → all_of kind values ≡ Some xs → length xs ≡ length values
all_of-length kind [] [] e = refl
all_of-length kind [] (x ∷ xs) e = cc
all_of-length kind (value ∷ values) [] e = absurd (joined-nil (kind value) (all_of kind values) e)
all_of-length kind (value ∷ values) (x ∷ xs) e = ap suc (all_of-length kind values xs (joined-parts (kind value) (all_of kind values) x xs e).1)

-- the one of each value
pub all_of-at : {A : Type 0} (kind : Data → Option A) (values : List Data) (xs : List A) (i : ℕ) → all_of kind values ≡ Some xs → option_and_then kind (slice_get values i) ≡ slice_get xs i
all_of-at kind [] [] i e = refl
all_of-at kind [] (x ∷ xs) i e = cc
all_of-at kind (value ∷ values) [] i e = absurd (joined-nil (kind value) (all_of kind values) e)
all_of-at kind (value ∷ values) (x ∷ xs) zero e = (joined-parts (kind value) (all_of kind values) x xs e).0
all_of-at kind (value ∷ values) (x ∷ xs) (suc i) e = all_of-at kind values xs i (joined-parts (kind value) (all_of kind values) x xs e).1
