-- Names that were read: each has the form, and none stands twice.
use Rattle.std.proofs.Common.{◌≡◌, ◌≢◌, ℕ, suc, zero, ◌+◌, ◌<◌, List, [], ◌∷◌, length, take, map, get_or, Bool, true, false, not, cond, Option, Some, None, option_map, is_some, IsTrue, refl, ap, ◌∙◌, sym, subst, arith}
use Rattle.std.specs.Prelude.{slice_get, unwrap_or, option_and_then, All}
use Rattle.std.specs.Str.{bytes_eq}
use Rattle.std.proofs.lemmas.Option.{slice_get-map, slice_get-get_or}
use Rattle.std.proofs.lemmas.Slice.Eq.{bytes_eq-Decides}
use Rattle.duct_units.specs.Name.{is_name, name_of}
use Rattle.duct_definitions.specs.Network.{AreNames}
use Rattle.name_index.specs.Places.{place_of, is_among}

-- a name that stands at a place is among the names
pub among_at : (names : List (List ℕ)) (i : ℕ) (name : List ℕ) → slice_get names i ≡ Some name → is_among name names ≡ true
among_at [] i name e = cc
among_at (first ∷ names) zero name e =
    let same : first ≡ name = cc in
    ap (λ b. is_some (cond b (Some 0) (option_map (λ p. p + 1) (place_of name names)))) ((bytes_eq-Decides first name).1 same)
among_at (first ∷ names) (suc i) name e =
    either (bytes_eq first name) (place_of name names) (among_at names i name e)
  where
    either : (b : Bool) (o : Option ℕ) → is_some o ≡ true → is_some (cond b (Some 0) (option_map (λ p. p + 1) o)) ≡ true
    either true o e = refl
    either false None e = cc
    either false (Some p) e = refl

-- an earlier element is among those before
pub slice_get-take : {A : Type 0} (xs : List A) (i j : ℕ) → i < j → slice_get (take j xs) i ≡ slice_get xs i
slice_get-take [] i zero less = refl
slice_get-take [] i (suc j) less = refl
slice_get-take (x ∷ xs) i zero less = absurd (omega arith)
slice_get-take (x ∷ xs) zero (suc j) less = refl
slice_get-take (x ∷ xs) (suc i) (suc j) less = slice_get-take xs i j (omega arith)

-- where none is among those before it, no two are equal
pub distinct_from : (names : List (List ℕ)) → ((j : ℕ) (name : List ℕ) → slice_get names j ≡ Some name → is_among name (take j names) ≡ false) → (i j : ℕ) → i < j → j < length names → slice_get names i ≢ slice_get names j
distinct_from names new i j less within same =
    let at : slice_get names j ≡ Some (get_or names j []) = slice_get-get_or names j [] within in
    let there = among_at (take j names) i (get_or names j []) (slice_get-take names i j less ∙ same ∙ at) in
    let absent = new j (get_or names j []) at in
    cc

-- where there is a value, it is the one that stands there
pub some_is : {A : Type 0} (o : Option A) (d : A) → is_some o ≡ true → o ≡ Some (unwrap_or o d)
some_is None d e = cc
some_is (Some x) d e = refl

-- a name that was read has the form of one
pub name_is : (text : Option (List ℕ)) (name : List ℕ) → option_and_then name_of text ≡ Some name → IsTrue (is_name name)
name_is None name e = cc
name_is (Some bytes) name e = in_form (is_name bytes) refl e
  where
    in_form : (b : Bool) → is_name bytes ≡ b → cond b (Some bytes) None ≡ Some name → IsTrue (is_name name)
    in_form true is e = let same : bytes ≡ name = cc in subst (λ n. IsTrue (is_name n)) same is
    in_form false is e = cc

pub name_form : (text : Option (List ℕ)) → is_some (option_and_then name_of text) ≡ true → IsTrue (is_name (unwrap_or (option_and_then name_of text) []))
name_form text there = name_is text (unwrap_or (option_and_then name_of text) []) (some_is (option_and_then name_of text) [] there)

-- what the element at a place of a mapped list is
pub at_map : {A B : Type 0} (f : A → B) (xs : List A) (k : ℕ) (d : B) → k < length (map f xs) → (x : A) × (slice_get xs k ≡ Some x) × (get_or (map f xs) k d ≡ f x)
at_map f [] k d within = absurd (omega arith)
at_map f (x ∷ xs) zero d within = (x, refl, refl)
at_map f (x ∷ xs) (suc k) d within = at_map f xs k d (omega arith)

pub map-take : {A B : Type 0} (f : A → B) (n : ℕ) (xs : List A) → take n (map f xs) ≡ map f (take n xs)
map-take f zero [] = refl
map-take f zero (x ∷ xs) = refl
map-take f (suc n) [] = refl
map-take f (suc n) (x ∷ xs) = ap (λ ys. f x ∷ ys) (map-take f n xs)

-- a fact of each element, mapped
pub all_map : {A B : Type 0} (P : B → Type 0) (f : A → B) (xs : List A) → ((k : ℕ) (x : A) → slice_get xs k ≡ Some x → P (f x)) → All P (map f xs)
all_map P f xs each_one k d within = let at = at_map f xs k d within in subst P (sym at.2) (each_one k at.0 at.1)

-- names that have the form, each of which is none of those before it
pub are_names : {A : Type 0} (name : A → List ℕ) (xs : List A) → ((k : ℕ) (x : A) → slice_get xs k ≡ Some x → IsTrue (is_name (name x)) × (is_among (name x) (map name (take k xs)) ≡ false)) → AreNames (map name xs)
are_names name xs each_one = record {
  form = all_map (λ n. IsTrue (is_name n)) name xs (λ k x at. (each_one k x at).0);
  distinct = distinct_from (map name xs) (λ j n at. new j n at (slice_get xs j) refl);
}
  where
    new : (j : ℕ) (n : List ℕ) → slice_get (map name xs) j ≡ Some n → (o : Option _) → slice_get xs j ≡ o → is_among n (take j (map name xs)) ≡ false
    new j n at None is = let e = sym at ∙ slice_get-map name xs j ∙ ap (option_map name) is in cc
    new j n at (Some x) is =
        let same : name x ≡ n = let e = sym (slice_get-map name xs j ∙ ap (option_map name) is) ∙ at in cc in
        ap (is_among n) (map-take name j xs) ∙ ap (λ m. is_among m (map name (take j xs))) (sym same) ∙ (each_one j x is).1

pub not_true : (b : Bool) → not b ≡ true → b ≡ false
not_true true e = cc
not_true false e = refl

-- a name is new where it was added to those before it
pub added_is_new : (name given : List ℕ) (names earlier : List (List ℕ)) (added : Bool) → added ≡ not (is_among name names) → names ≡ earlier → name ≡ given → not (is_among given earlier) ≡ added
added_is_new name given names earlier added is all same = sym (is ∙ ap (λ ns. not (is_among name ns)) all ∙ ap (λ n. not (is_among n earlier)) same)
