-- The first broken rule of the elements of an array.
use Rattle.std.proofs.Common.{◌≡◌, ℕ, suc, zero, ◌+◌, ◌≤◌, List, [], ◌∷◌, ◌++◌, length, take, drop, Option, Some, None, refl, ap, ◌∙◌, sym, subst, arith, append_assoc, append-nil}
use Rattle.std.specs.Prelude.{slice_get}
use Rattle.duct_units.specs.declared.fault.Fault.{Fault}
use Rattle.duct_units.specs.Rules.{Rule, first_broken, or_else}
use Rattle.duct_units.proofs.RuleLaws.{first_broken-append, both_none}
use Rattle.file_definitions.specs.Elements.{each_after, each}

-- from an element on, the list begins with it
pub drop_at : {A : Type 0} (xs : List A) (i : ℕ) (x : A) → slice_get xs i ≡ Some x → drop i xs ≡ x ∷ drop (i + 1) xs
drop_at [] i x e = cc
drop_at (y ∷ xs) zero x e = cc
drop_at (y ∷ xs) (suc i) x e = let more : suc i + 1 ≡ suc (i + 1) = omega arith in rw more (drop_at xs i x e)

-- up to an element, the list ends with it
pub take_at : {A : Type 0} (xs : List A) (i : ℕ) (x : A) → slice_get xs i ≡ Some x → take (i + 1) xs ≡ take i xs ++ x ∷ []
take_at [] i x e = cc
take_at (y ∷ xs) zero x e = cc
take_at (y ∷ xs) (suc i) x e = let more : suc i + 1 ≡ suc (i + 1) = omega arith in rw more (ap (λ zs. y ∷ zs) (take_at xs i x e))

-- the rules of an element, and then those of the later ones
pub each_at : {A : Type 0} (rules : List A → A → List Rule) (xs : List A) (i : ℕ) (x : A) → slice_get xs i ≡ Some x
    → first_broken (each_after rules (take i xs) (drop i xs)) ≡ or_else (first_broken (rules (take i xs) x)) (first_broken (each_after rules (take (i + 1) xs) (drop (i + 1) xs)))
each_at rules xs i x e =
    ap (λ zs. first_broken (each_after rules (take i xs) zs)) (drop_at xs i x e)
    ∙ first_broken-append (rules (take i xs) x) (each_after rules (take i xs ++ x ∷ []) (drop (i + 1) xs))
    ∙ ap (λ zs. or_else (first_broken (rules (take i xs) x)) (first_broken (each_after rules zs (drop (i + 1) xs)))) (sym (take_at xs i x e))

-- where the rules of an element hold, the first broken one is a later element's
pub each_past : {A : Type 0} (rules : List A → A → List Rule) (xs : List A) (i : ℕ) (x : A) → slice_get xs i ≡ Some x → first_broken (rules (take i xs) x) ≡ None
    → first_broken (each_after rules (take i xs) (drop i xs)) ≡ first_broken (each_after rules (take (i + 1) xs) (drop (i + 1) xs))
each_past rules xs i x e none = each_at rules xs i x e ∙ ap (λ o. or_else o (first_broken (each_after rules (take (i + 1) xs) (drop (i + 1) xs)))) none

-- where one of them is broken, it is the first
pub each_here : {A : Type 0} (rules : List A → A → List Rule) (xs : List A) (i : ℕ) (x : A) (fault : Fault) → slice_get xs i ≡ Some x → first_broken (rules (take i xs) x) ≡ Some fault
    → first_broken (each_after rules (take i xs) (drop i xs)) ≡ Some fault
each_here rules xs i x fault e some = each_at rules xs i x e ∙ ap (λ o. or_else o (first_broken (each_after rules (take (i + 1) xs) (drop (i + 1) xs)))) some

-- past the last element there is no rule
pub each_end : {A : Type 0} (rules : List A → A → List Rule) (before xs : List A) (n : ℕ) → length xs ≤ n → first_broken (each_after rules before (drop n xs)) ≡ None
each_end rules before [] zero few = refl
each_end rules before [] (suc n) few = refl
each_end rules before (x ∷ xs) zero few = absurd (omega arith)
each_end rules before (x ∷ xs) (suc n) few = each_end rules before xs n (omega arith)

parts_hold : {A : Type 0} (rules : List A → A → List Rule) (before : List A) (x : A) (xs : List A) → first_broken (each_after rules before (x ∷ xs)) ≡ None
    → (first_broken (rules before x) ≡ None) × (first_broken (each_after rules (before ++ x ∷ []) xs) ≡ None)
parts_hold rules before x xs none =
    both_none (first_broken (rules before x)) (first_broken (each_after rules (before ++ x ∷ []) xs)) (sym (first_broken-append (rules before x) (each_after rules (before ++ x ∷ []) xs)) ∙ none)

-- where no rule is broken, those of each element hold
holds_after : {A : Type 0} (rules : List A → A → List Rule) (before xs : List A) (i : ℕ) (x : A) → first_broken (each_after rules before xs) ≡ None → slice_get xs i ≡ Some x
    → first_broken (rules (before ++ take i xs) x) ≡ None
holds_after rules before [] i x none e = cc
holds_after rules before (y ∷ xs) zero x none e =
    let same : y ≡ x = cc in
    let here = (parts_hold rules before y xs none).0 in
    subst (λ z. first_broken (rules (before ++ []) z) ≡ None) same (subst (λ zs. first_broken (rules zs y) ≡ None) (sym (append-nil before)) here)
holds_after rules before (y ∷ xs) (suc i) x none e =
    subst (λ zs. first_broken (rules zs x) ≡ None) (append_assoc before (y ∷ []) (take i xs)) (holds_after rules (before ++ y ∷ []) xs i x (parts_hold rules before y xs none).1 e)

pub each_holds : {A : Type 0} (rules : List A → A → List Rule) (xs : List A) (i : ℕ) (x : A) → first_broken (each rules xs) ≡ None → slice_get xs i ≡ Some x
    → first_broken (rules (take i xs) x) ≡ None
each_holds rules xs i x none e = holds_after rules [] xs i x none e
