-- An array whose values are all of one kind, beside the data that they are seen as.
use Rattle.std.proofs.Common.{◌≡◌, ℕ, suc, zero, ◌<◌, List, [], ◌∷◌, map, length, get_or, Bool, true, ◌&&◌, Option, Some, None, option_map, is_some, refl, ap, ◌∙◌, sym, subst, arith}
use Rattle.std.proofs.lemmas.List.{length-map}
use Rattle.std.specs.Prelude.{slice_get, option_and_then, unwrap_or, IsSome}
use Rattle.std.specs.List.{list_all}
use Rattle.std.proofs.lemmas.Option.{slice_get-map, slice_get-get_or}
use Rattle.toml.specs.declared.value.Value.{Value}
use Rattle.toml.specs.View.{view}
use Rattle.toml.specs.Data.{Data, Members, as_table}
use Rattle.file_definitions.specs.Document.{all_of, are_tables}
use Rattle.file_definitions.proofs.KindLaws.{all_of-decides, all_of-length, all_of-at}

pub is_some-map : {A B : Type 0} (f : A → B) (o : Option A) → is_some (option_map f o) ≡ is_some o
is_some-map f None = refl
is_some-map f (Some x) = refl

list_all-view : (test : Data → Bool) (values : List Value) → list_all (λ value. test (view value)) values ≡ list_all test (map view values)
list_all-view test [] = refl
list_all-view test (value ∷ values) = ap (λ b. test (view value) && b) (list_all-view test values)

-- the test of each value, and that of all
pub all_of-view : {A : Type 0} (kind : Data → Option A) (values : List Value) → list_all (λ value. is_some (kind (view value))) values ≡ is_some (all_of kind (map view values))
all_of-view kind values = list_all-view (λ value. is_some (kind value)) values ∙ sym (all_of-decides kind (map view values))

pub tables_decide : (values : List Data) → are_tables values ≡ is_some (all_of as_table values)
tables_decide values = sym (all_of-decides as_table values)

-- what the array holds
abbrev pub held : {A : Type 0} → (Data → Option A) → List Value → List A
held kind values = unwrap_or (all_of kind (map view values)) []

is_it : {A : Type 0} (o : Option A) (d : A) → is_some o ≡ true → o ≡ Some (unwrap_or o d)
is_it None d e = cc
is_it (Some x) d e = refl

pub held-length : {A : Type 0} (kind : Data → Option A) (values : List Value) → is_some (all_of kind (map view values)) ≡ true → length (held kind values) ≡ length values
held-length kind values all = all_of-length kind (map view values) (held kind values) (is_it (all_of kind (map view values)) [] all) ∙ length-map values view

-- what the value at a place is, is what the array holds there
pub held-at : {A : Type 0} (kind : Data → Option A) (values : List Value) (i : ℕ) (value : Value) → is_some (all_of kind (map view values)) ≡ true → i < length values
    → kind (view (get_or values i value)) ≡ slice_get (held kind values) i
held-at kind values i value all within =
    let there : slice_get (map view values) i ≡ Some (view (get_or values i value)) = slice_get-map view values i ∙ ap (option_map view) (slice_get-get_or values i value within) in
    sym (ap (option_and_then kind) there) ∙ all_of-at kind (map view values) (held kind values) i (is_it (all_of kind (map view values)) [] all)

-- the index is one of the values
pub within_values : {A : Type 0} (kind : Data → Option A) (values : List Value) (i : ℕ) → is_some (all_of kind (map view values)) ≡ true → i < length (held kind values) → i < length values
within_values kind values i all within = subst (λ n. i < n) (held-length kind values all) within

some_within : {A : Type 0} (xs : List A) (i : ℕ) → i < length xs → IsSome (slice_get xs i)
some_within [] i within = absurd (omega arith)
some_within (x ∷ xs) zero within = refl
some_within (x ∷ xs) (suc i) within = some_within xs i (omega arith)

-- so it is of the kind
pub is_of_kind : {A : Type 0} (kind : Data → Option A) (values : List Value) (i : ℕ) (value : Value) → is_some (all_of kind (map view values)) ≡ true → i < length (held kind values)
    → IsSome (kind (view (get_or values i value)))
is_of_kind kind values i value all within =
    subst (λ o. IsSome o) (sym (held-at kind values i value all (within_values kind values i all within))) (some_within (held kind values) i within)

pub some_of_map : {A B : Type 0} (f : A → B) (o : Option A) (found : Option B) → option_map f o ≡ found → IsSome found → IsSome o
some_of_map f None found e some = subst (λ o. IsSome o) (sym e) some
some_of_map f (Some x) found e some = refl
