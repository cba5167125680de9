-- The names of a made network are names, and no two of one kind are equal.
use Rattle.std.proofs.Common.{◌≡◌, ℕ, ◌+◌, ◌<◌, ◌≤◌, List, [], ◌∷◌, length, true, Option, Some, decimal, refl, ap, sym, ◌∙◌, subst, arith}
use Rattle.std.specs.Prelude.{IsTrue, slice_get}
use Rattle.std.specs.List.{list_all}
use Rattle.std.specs.Char.{is_ascii_digit}
use Rattle.std.proofs.lemmas.Fmt.{digits_decimal, decimal_is_IsNumeral, length-decimal-le}
use Rattle.std.specs.Str.Parse.{digits_value}
use Rattle.std.proofs.lemmas.List.Elements.{All-from_get_or}
use Rattle.std.proofs.lemmas.List.FromFn.{length-map-range_with_len, get_or-map-range_with_len}
use Rattle.std.proofs.lemmas.Option.{slice_get_read, same_Some}
use Rattle.std.proofs.lemmas.Bool.{and_parts}
use Rattle.std.proofs.lemmas.Bool.Decides.{nat_tests}
use Rattle.duct_units.specs.Name.{is_name, is_name_byte}
use Rattle.duct_units.proofs.Spelling.{own}
use Rattle.duct_definitions.specs.Network.{AreNames}
use Rattle.duct_load.specs.Made.{numbered, names_with}

pub letter_is_ascii : (b : ℕ) → IsTrue (is_name_byte b) → b < 128
letter_is_ascii b is = grind (arith, nat_tests)

digit_byte : (b : ℕ) → is_ascii_digit b ≡ true → is_name_byte b ≡ true
digit_byte b e = grind (arith, nat_tests)

digit_bytes : (bs : List ℕ) → list_all is_ascii_digit bs ≡ true → list_all is_name_byte bs ≡ true
digit_bytes [] e = refl
digit_bytes (b ∷ bs) e =
    let parts = and_parts (is_ascii_digit b) (list_all is_ascii_digit bs) e in
    rw (digit_byte b parts.0) (digit_bytes bs parts.1)

-- a letter and a number are a name
pub numbered_is_name : (letter i : ℕ) → IsTrue (is_name_byte letter) → i < 500 → IsTrue (is_name (numbered letter i))
numbered_is_name letter i is few =
    let digits : list_all is_name_byte (decimal (i + 1)) ≡ true = digit_bytes (decimal (i + 1)) (digits_decimal own (i + 1) (omega arith)) in
    let short : length (decimal (i + 1)) ≤ 3 = length-decimal-le 3 (i + 1) (omega arith) (omega arith) (omega arith) in
    grind (arith, nat_tests)

-- a number is known by its decimals
same_number : (a b : ℕ) → a < 500 → b < 500 → decimal (a + 1) ≡ decimal (b + 1) → a ≡ b
same_number a b small few e =
    let one : digits_value 10 (decimal (a + 1)) ≡ a + 1 = (decimal_is_IsNumeral (a + 1) (omega arith)).1 in
    let other : digits_value 10 (decimal (b + 1)) ≡ b + 1 = (decimal_is_IsNumeral (b + 1) (omega arith)).1 in
    let values : a + 1 ≡ b + 1 = sym one ∙ ap (digits_value 10) e ∙ other in
    omega arith

same_tail : (letter : ℕ) (xs ys : List ℕ) → letter ∷ xs ≡ letter ∷ ys → xs ≡ ys
same_tail letter xs ys e = cc

name_at : (letter count i : ℕ) → i < count → slice_get (names_with letter count) i ≡ Some (numbered letter i)
name_at letter count i within =
    slice_get_read (names_with letter count) count i (numbered letter i) (sym (length-map-range_with_len (numbered letter) 0 count)) within
    (sym (get_or-map-range_with_len (numbered letter) 0 count i i (numbered letter i) within (omega arith)))

-- the names of one kind are names, and no two are equal
pub names_with-AreNames : (letter count : ℕ) → IsTrue (is_name_byte letter) → count ≤ 500 → AreNames (names_with letter count)
names_with-AreNames letter count is few = record {
  form = All-from_get_or (λ name. IsTrue (is_name name)) (names_with letter count) [] (λ i within.
      (let long : length (names_with letter count) ≡ count = length-map-range_with_len (numbered letter) 0 count in
      subst (λ name. IsTrue (is_name name)) (sym (get_or-map-range_with_len (numbered letter) 0 count i i [] (omega arith) (omega arith)))
      (numbered_is_name letter i is (omega arith))));
  distinct = λ i j before within same.
      (let long : length (names_with letter count) ≡ count = length-map-range_with_len (numbered letter) 0 count in
      let first = name_at letter count i (omega arith) in
      let second = name_at letter count j (omega arith) in
      let equal : ◌≡◌ {A = Option (List ℕ)} (Some (numbered letter i)) (Some (numbered letter j)) = sym first ∙ same ∙ second in
      let names : numbered letter i ≡ numbered letter j = same_Some (numbered letter i) (numbered letter j) equal in
      let number : i ≡ j = same_number i j (omega arith) (omega arith) (same_tail letter _ _ names) in
      absurd (omega arith));
}
