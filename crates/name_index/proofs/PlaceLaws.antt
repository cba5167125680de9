-- The place of a name in a list that grows at its end.
use Rattle.std.proofs.Common.{◌≡◌, ℕ, zero, suc, ◌+◌, ◌<◌, List, [], ◌∷◌, ◌++◌, length, Bool, true, false, cond, Option, Some, None, option_map, is_some, IfSome, Contains, refl, sym, ap, ◌∙◌, subst, arith}
use Rattle.std.specs.Str.{bytes_eq}
use Rattle.std.specs.HashMap.{HashMap, get, Updates}
use Rattle.std.proofs.lemmas.Slice.Eq.{bytes_eq-Decides}
use Rattle.name_index.specs.Places.{place_of, is_among}
use Rattle.name_index.specs.PlaceMap.{IsPlaceMap}

-- one further on
later_within : (o : Option ℕ) (n m : ℕ) → n < m → IfSome o (λ p. p < n) → IfSome (option_map (λ p. p + 1) o) (λ p. p < m)
later_within None n m less h = tt
later_within (Some p) n m less h = omega arith

-- the place of a name is one of the list
pub place_of-within : (name : List ℕ) (names : List (List ℕ)) → IfSome (place_of name names) (λ p. p < length names)
place_of-within name [] = tt
place_of-within name (first ∷ names) =
    elim (bytes_eq first name) as (λ b. IfSome (cond b (Some 0) (option_map (λ p. p + 1) (place_of name names))) (λ p. p < length (first ∷ names)))
    [ true ↦ omega arith | false ↦ later_within (place_of name names) (length names) (length (first ∷ names)) (omega arith) (place_of-within name names) ]

-- a place that was found, or the place n where the one at n is the same
abbrev pub or_last : Option ℕ → Bool → ℕ → Option ℕ
or_last (Some p) same n = Some p
or_last None same n = cond same (Some n) None

or_last-later : (o : Option ℕ) (same : Bool) (n m : ℕ) → n + 1 ≡ m → option_map (λ p. p + 1) (or_last o same n) ≡ or_last (option_map (λ p. p + 1) o) same m
or_last-later (Some p) same n m e = refl
or_last-later None true n m e = ap (λ k. Some k) e
or_last-later None false n m e = refl

-- with one more name at the end
pub place_of-push : (name last : List ℕ) (names : List (List ℕ)) → place_of name (names ++ last ∷ []) ≡ or_last (place_of name names) (bytes_eq last name) (length names)
place_of-push name last [] = refl
place_of-push name last (first ∷ names) =
    elim (bytes_eq first name) as (λ b. cond b (Some 0) (option_map (λ p. p + 1) (place_of name (names ++ last ∷ []))) ≡ or_last (cond b (Some 0) (option_map (λ p. p + 1) (place_of name names))) (bytes_eq last name) (length (first ∷ names))) [
      | true ↦ refl
      | false ↦ ap (option_map (λ p. p + 1)) (place_of-push name last names) ∙ or_last-later (place_of name names) (bytes_eq last name) (length names) (length (first ∷ names)) (omega arith)
    ]

is_none : (o : Option ℕ) → is_some o ≡ false → o ≡ None
is_none None e = refl
is_none (Some p) e = cc

-- the map has no place for a name that isn't there
pub not_there : (found place : Option ℕ) → found ≡ place → is_some found ≡ false → place ≡ None
not_there found place held none = sym held ∙ is_none found none

-- the map where it has one more name
held_at : (last name : List ℕ) (names : List (List ℕ)) (before : Option ℕ) (b : Bool) → bytes_eq last name ≡ b → before ≡ place_of name names → place_of last names ≡ None
    → cond b (Some (length names)) before ≡ or_last (place_of name names) b (length names)
held_at last name names before true same at absent =
    let here : last ≡ name = (bytes_eq-Decides last name).0 same in
    sym (ap (λ o. or_last o true (length names)) (subst (λ q. place_of q names ≡ None) here absent))
held_at last name names before false same at absent = at ∙ apart (place_of name names)
  where
    apart : (o : Option ℕ) → o ≡ or_last o false (length names)
    apart (Some p) = refl
    apart None = refl

pub is_place_map-push : {S : Type 0} (last : List ℕ) (names more : List (List ℕ)) (places grown : HashMap (List ℕ) ℕ S) (n : ℕ)
    → IsPlaceMap names places → place_of last names ≡ None → Updates bytes_eq places grown last (Some n) → n ≡ length names → more ≡ names ++ last ∷ [] → IsPlaceMap more grown
is_place_map-push last names more places grown n held absent updates count is = λ name.
    updates.0 name
    ∙ ap (λ k. cond (bytes_eq last name) (Some k) (get bytes_eq places name)) count
    ∙ held_at last name names (get bytes_eq places name) (bytes_eq last name) refl (held name) absent
    ∙ sym (ap (place_of name) is ∙ place_of-push name last names)

-- ---- whether there is a place

is_some-later : (o : Option ℕ) → is_some (option_map (λ p. p + 1) o) ≡ is_some o
is_some-later None = refl
is_some-later (Some p) = refl

-- a name that is contained has a place
contained_among : (name : List ℕ) (names : List (List ℕ)) → Contains names name → is_among name names ≡ true
contained_among name [] (k, less, at) = absurd (omega arith)
contained_among name (first ∷ names) (zero, less, at) =
    ap (λ b. is_some (cond b (Some 0) (option_map (λ p. p + 1) (place_of name names)))) ((bytes_eq-Decides first name).1 at)
contained_among name (first ∷ names) (suc k, less, at) =
    let later : is_among name names ≡ true = contained_among name names (k, omega arith, at) in
    elim (bytes_eq first name) as (λ b. is_some (cond b (Some 0) (option_map (λ p. p + 1) (place_of name names))) ≡ true)
    [ true ↦ refl | false ↦ is_some-later (place_of name names) ∙ later ]

-- and one with a place is contained
among_contained : (name : List ℕ) (names : List (List ℕ)) → is_among name names ≡ true → Contains names name
among_contained name [] e = cc
among_contained name (first ∷ names) e =
    elim (bytes_eq first name) as (λ b. bytes_eq first name ≡ b → is_some (cond b (Some 0) (option_map (λ p. p + 1) (place_of name names))) ≡ true → Contains (first ∷ names) name) [
      | true ↦ λ same some. (0, omega arith, (bytes_eq-Decides first name).0 same)
      | false ↦ λ other some.
          let (k, less, at) = among_contained name names (sym (is_some-later (place_of name names)) ∙ some) in
          (suc k, omega arith, at)
    ] refl e

-- there is no place exactly where the name is not contained
pub no_place : (found : Option ℕ) (name : List ℕ) (names : List (List ℕ)) → found ≡ place_of name names
    → (is_some found ≡ false → Contains names name → ⊥) × ((Contains names name → ⊥) → is_some found ≡ false)
no_place found name names e = (
  (λ none there. cc (sym none, ap is_some e, contained_among name names there)),
  (λ absent.
      elim (is_some found) as (λ b. is_some found ≡ b → b ≡ false) [
        | true ↦ λ some. absurd (absent (among_contained name names (sym (ap is_some e) ∙ some)))
        | false ↦ λ none. refl
      ] refl),
)
