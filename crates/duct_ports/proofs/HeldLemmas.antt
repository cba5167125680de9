-- The place of the first file of a name, and the bytes of a file from a place on.
use Rattle.std.proofs.Common.{◌≡◌, ℕ, ◌+◌, ◌≤◌, ◌<◌, List, [], ◌++◌, length, take, drop, Bool, true, false, cond, Option, Some, None, sym, ap, ◌∙◌, arith, refl, inl, inr, length-take-le}
use Rattle.std.specs.Prelude.{nat_lt, slice_get, find, position, is_some, unwrap_or}
use Rattle.std.specs.List.{position_or_len}
use Rattle.std.specs.Option.{option_map_or}
use Rattle.std.specs.Str.{bytes_eq}
use Rattle.std.proofs.lemmas.Bool.{ltb-false, ltb-true}
use Rattle.std.proofs.lemmas.Option.{slice_get_past, slice_get_cases}
use Rattle.std.proofs.lemmas.List.Folds.{find_at}
use Rattle.std.proofs.lemmas.List.{take-append-drop, drop-drop, take_at}
use Rattle.duct_ports.specs.declared.held.HeldFile.{HeldFile}
use Rattle.duct_ports.specs.NamedFiles.{bytes_from, contents_of}

slice_get-at : {X : Type 0} (xs : List X) (n : ℕ) (b : Bool) → nat_lt n (length xs) ≡ b
    → slice_get xs (unwrap_or (cond b (Some n) None) (length xs)) ≡ slice_get xs n
slice_get-at xs n true within = refl
slice_get-at xs n false past =
    let none : slice_get xs n ≡ None = slice_get_past xs n (ltb-false n (length xs) past) in
    slice_get_past xs (length xs) (omega arith) ∙ sym none

is_some-at : {X : Type 0} (xs : List X) (n : ℕ) (b : Bool) → nat_lt n (length xs) ≡ b
    → is_some (cond b (Some n) None) ≡ is_some (slice_get xs n)
is_some-at xs n true within =
    let low : n < length xs = ltb-true n (length xs) within in
    elim (slice_get_cases xs n).1
    [ inl at ↦ sym (ap is_some at.2) | inr past ↦ absurd (omega (arith, past.0)) ]
is_some-at xs n false past = sym (ap is_some (slice_get_past xs n (ltb-false n (length xs) past)))

-- the item at the place of the first that passes, or past the last one, is the first that passes
pub first_by_place : {X : Type 0} (p : X → Bool) (xs : List X)
    → slice_get xs (unwrap_or (position p xs) (length xs)) ≡ find p xs
first_by_place p xs =
    let n : ℕ = position_or_len p xs in
    slice_get-at xs n (nat_lt n (length xs)) refl ∙ sym (find_at p xs)

-- there is such a place exactly where there is such an item
pub found_by_place : {X : Type 0} (p : X → Bool) (xs : List X)
    → is_some (position p xs) ≡ is_some (find p xs)
found_by_place p xs =
    let n : ℕ = position_or_len p xs in
    is_some-at xs n (nat_lt n (length xs)) refl ∙ ap is_some (sym (find_at p xs))

-- the first file of the name, read from its first byte
pub named_place : (files : List HeldFile) (name : List ℕ) (place : Option ℕ)
    → place ≡ position (λ file. bytes_eq file.name name) files
    → bytes_from files (unwrap_or place (length files), 0) ≡ contents_of files name
named_place files name place is =
    let first = first_by_place (λ (file : HeldFile). bytes_eq file.name name) files in
    ap (λ p. bytes_from files (unwrap_or p (length files), 0)) is
    ∙ ap (λ file. option_map_or (λ f. f.bytes) file []) first

-- after n more bytes of a file were read into the beginning of a buffer
pub reads_more : (files : List HeldFile) (i at n : ℕ) (left moved after : List ℕ)
    → left ≡ bytes_from files (i, at) → moved ≡ take n left → n ≤ length left
    → left ≡ take n (moved ++ after) ++ bytes_from files (i, at + n)
reads_more files i at n left moved after is prefix within =
    let bytes : List ℕ = option_map_or (λ file. file.bytes) (slice_get files i) [] in
    let whole : length moved ≡ n = ap length prefix ∙ length-take-le n left within in
    let head : take n (moved ++ after) ≡ take n left = take_at moved after n whole ∙ prefix in
    let tail : drop n left ≡ bytes_from files (i, at + n) = ap (drop n) is ∙ drop-drop n at bytes in
    sym (take-append-drop n left)
    ∙ ap (λ rest. take n left ++ rest) tail
    ∙ ap (λ first. first ++ bytes_from files (i, at + n)) (sym head)
