-- Bytes that spell a whole number are its decimal, and its decimal spells it.
use Rattle.std.proofs.Common.{◌≡◌, ◌≢◌, inl, inr, ℕ, zero, suc, ◌<◌, ◌^◌, true, false, ◌==◌, if◌then◌else◌, List, [], ◌∷◌, length, get_or, ℤ, pos, negsuc, neg_ℤ, Some, None, decimal, refl, sym, ap, subst, ◌∙◌, arith}
use Rattle.std.specs.Char.{is_ascii_digit}
use Rattle.std.specs.Fmt.{signed_decimal}
use Rattle.std.specs.Int.Signed.{mag}
use Rattle.std.specs.Str.{all_ascii_digits}
use Rattle.std.specs.Str.Parse.{digits_value, signed_digits_value, without_leading_sign}
use Rattle.std.proofs.lemmas.Bool.{and_parts}
use Rattle.std.proofs.lemmas.Bool.Decides.{nat_tests, eqb_tells}
use Rattle.std.proofs.lemmas.Fmt.{decimal-digits_value, decimal_digit, digits_decimal, digits_value-decimal, first_decimal}
use Rattle.std.proofs.lemmas.Option.{cond_some}
use Rattle.std.proofs.lemmas.Str.Parse.{IsNumeralModel, numerals_by_value, tells_all_ascii_digits}
use Rattle.duct_units.specs.Whole.{begins_above_zero, begins_as_number, is_number, number_of}

-- std's value of a text of digits
pub own : IsNumeralModel (λ ds. all_ascii_digits ds ≡ true) (digits_value 10)
own = numerals_by_value _ tells_all_ascii_digits

-- ---- from bytes to the decimal

-- digits that begin above 0 are the decimal of their value
above_zero_spelled : (ds : List ℕ) → begins_above_zero ds ≡ true → all_ascii_digits ds ≡ true
    → digits_value 10 ds < 2 ^ 64 → decimal (digits_value 10 ds) ≡ ds
above_zero_spelled [] begins digits small = cc
above_zero_spelled (first ∷ rest) begins digits small =
    let front : first ≢ 48 = grind (arith, nat_tests) in
    decimal-digits_value own (first ∷ rest) digits (omega arith) (λ zero. absurd (front zero)) small

-- and that value isn't 0
above_zero_value : (ds : List ℕ) → begins_above_zero ds ≡ true → all_ascii_digits ds ≡ true
    → digits_value 10 ds < 2 ^ 64 → digits_value 10 ds ≢ 0
above_zero_value ds begins digits small none =
    let zero_spelled : ds ≡ 48 ∷ [] = sym (above_zero_spelled ds begins digits small) ∙ ap decimal none ∙ decimal_digit 0 (omega arith) in
    let fails : begins_above_zero ds ≡ false = ap begins_above_zero zero_spelled in
    cc

-- a minus and the decimal of a number that isn't 0 are the decimal of its opposite
minus_decimal : (v : ℕ) (ds : List ℕ) → v ≢ 0 → decimal v ≡ ds → 45 ∷ ds ≡ signed_decimal (neg_ℤ (pos v))
minus_decimal zero ds above spelled = absurd (above refl)
minus_decimal (suc k) ds above spelled = ap (λ digits. 45 ∷ digits) (sym spelled)

-- a number is small where its opposite is
small_opposite : (v : ℕ) → mag (neg_ℤ (pos v)) < 2 ^ 63 → v < 2 ^ 64
small_opposite zero small = omega arith
small_opposite (suc k) small = omega arith

-- a minus and digits that begin above 0 are the decimal of their value
minus_spelled : (ds : List ℕ) → begins_above_zero ds ≡ true → all_ascii_digits ds ≡ true
    → mag (neg_ℤ (pos (digits_value 10 ds))) < 2 ^ 63 → 45 ∷ ds ≡ signed_decimal (neg_ℤ (pos (digits_value 10 ds)))
minus_spelled ds begins digits small =
    let fits : digits_value 10 ds < 2 ^ 64 = small_opposite _ small in
    minus_decimal (digits_value 10 ds) ds (above_zero_value ds begins digits fits) (above_zero_spelled ds begins digits fits)

-- a digit is no sign
no_minus : (byte : ℕ) → is_ascii_digit byte ≡ true → (byte == 45) ≡ false
no_minus byte digit = grind (arith, nat_tests)

no_plus : (byte : ℕ) → is_ascii_digit byte ≡ true → (byte == 43) ≡ false
no_plus byte digit = grind (arith, nat_tests)

-- behind no sign stand all bytes
pub unsigned_digits : (first : ℕ) (rest : List ℕ) → is_ascii_digit first ≡ true → without_leading_sign (first ∷ rest) ≡ first ∷ rest
unsigned_digits first rest digit = rw (no_minus first digit, no_plus first digit)

-- and their value isn't below 0
unsigned_value : (first : ℕ) (rest : List ℕ) → is_ascii_digit first ≡ true
    → signed_digits_value 10 (first ∷ rest) ≡ pos (digits_value 10 (first ∷ rest))
unsigned_value first rest digit = rw (no_minus first digit, no_plus first digit)

-- digits alone, of which a zero in front is the only one, are the decimal of their value
digits_spelled : (first : ℕ) (rest : List ℕ) → is_ascii_digit first ≡ true → (first ≡ 48 → length (first ∷ rest) ≡ 1)
    → all_ascii_digits (without_leading_sign (first ∷ rest)) ≡ true → mag (signed_digits_value 10 (first ∷ rest)) < 2 ^ 63
    → first ∷ rest ≡ signed_decimal (signed_digits_value 10 (first ∷ rest))
digits_spelled first rest digit alone digits small =
    let all : all_ascii_digits (first ∷ rest) ≡ true = rw (unsigned_digits first rest digit) at digits in
    let fits : mag (pos (digits_value 10 (first ∷ rest))) < 2 ^ 63 = rw (unsigned_value first rest digit) at small in
    let spelled : decimal (digits_value 10 (first ∷ rest)) ≡ first ∷ rest = decimal-digits_value own (first ∷ rest) all (omega arith) alone (omega arith) in
    rw (unsigned_value first rest digit) (sym spelled)

-- bytes that begin as a number, with digits behind the sign, are the decimal of their value
number_spelled : (bytes : List ℕ) → begins_as_number bytes ≡ true → all_ascii_digits (without_leading_sign bytes) ≡ true
    → mag (signed_digits_value 10 bytes) < 2 ^ 63 → bytes ≡ signed_decimal (signed_digits_value 10 bytes)
number_spelled [] begins digits small = cc
number_spelled (first ∷ []) begins digits small = digits_spelled first [] begins (λ _. refl) digits small
number_spelled (first ∷ second ∷ rest) begins digits small =
    let IsSpelled : ℕ → Type 0 = λ byte. begins_as_number (byte ∷ second ∷ rest) ≡ true
    → all_ascii_digits (without_leading_sign (byte ∷ second ∷ rest)) ≡ true
    → mag (signed_digits_value 10 (byte ∷ second ∷ rest)) < 2 ^ 63
    → byte ∷ second ∷ rest ≡ signed_decimal (signed_digits_value 10 (byte ∷ second ∷ rest)) in
    elim (eqb_tells first 45) [
      | inl minus ↦ subst IsSpelled (sym minus.1) (minus_spelled (second ∷ rest)) begins digits small
      | inr plain ↦
          let front : begins_above_zero (first ∷ second ∷ rest) ≡ true = rw (plain.0) at begins in
          let digit : is_ascii_digit first ≡ true = grind (arith, nat_tests) in
          let above : first ≢ 48 = grind (arith, nat_tests) in
          digits_spelled first (second ∷ rest) digit (λ zero. absurd (above zero)) digits small
    ]

-- ---- from the decimal to bytes

-- bytes of the form spell their value
pub number_of_is : (bytes : List ℕ) → begins_as_number bytes ≡ true → all_ascii_digits (without_leading_sign bytes) ≡ true
    → number_of bytes ≡ Some (signed_digits_value 10 bytes)
number_of_is bytes begins digits =
    let spells : is_number bytes ≡ true = rw (begins) digits in
    ap (λ b. if b then Some (signed_digits_value 10 bytes) else None) spells

-- a front above 0 is one of a number
begins_plainly : (ds : List ℕ) → begins_above_zero ds ≡ true → begins_as_number ds ≡ true
begins_plainly [] begins = begins
begins_plainly (first ∷ []) begins = grind (arith, nat_tests)
begins_plainly (first ∷ second ∷ rest) begins = grind (arith, nat_tests)

-- digits that begin above 0 spell their value
number_of-digits : (ds : List ℕ) → begins_above_zero ds ≡ true → all_ascii_digits ds ≡ true → number_of ds ≡ Some (pos (digits_value 10 ds))
number_of-digits [] begins digits = cc
number_of-digits (first ∷ rest) begins digits =
    let digit : is_ascii_digit first ≡ true = grind (arith, nat_tests) in
    let all : all_ascii_digits (without_leading_sign (first ∷ rest)) ≡ true = rw (unsigned_digits first rest digit) digits in
    number_of_is (first ∷ rest) (begins_plainly (first ∷ rest) begins) all ∙ ap Some (unsigned_value first rest digit)

-- and behind a minus they spell its opposite
number_of-minus : (ds : List ℕ) → begins_above_zero ds ≡ true → all_ascii_digits ds ≡ true
    → number_of (45 ∷ ds) ≡ Some (neg_ℤ (pos (digits_value 10 ds)))
number_of-minus [] begins digits = cc
number_of-minus (first ∷ rest) begins digits = number_of_is (45 ∷ first ∷ rest) begins digits

-- digits with a front above `0` begin above 0
begins_by_front : (ds : List ℕ) → all_ascii_digits ds ≡ true → 48 < get_or ds 0 0 → begins_above_zero ds ≡ true
begins_by_front [] digits front = absurd (omega arith)
begins_by_front (first ∷ rest) digits front = grind (arith, nat_tests)

-- the decimal of a number above 0 begins above 0
decimal_begins : (n : ℕ) → 0 < n → n < 2 ^ 64 → begins_above_zero (decimal n) ≡ true
decimal_begins n above small = begins_by_front (decimal n) (digits_decimal own n small) (first_decimal n above small)

-- the decimal of a number spells it
pub number_of-signed_decimal : (n : ℤ) → mag n < 2 ^ 63 → number_of (signed_decimal n) ≡ Some n
number_of-signed_decimal (pos zero) small = rw (decimal_digit 0 (omega arith))
number_of-signed_decimal (pos (suc k)) small =
    let fits : suc k < 2 ^ 64 = omega arith in
    number_of-digits (decimal (suc k)) (decimal_begins (suc k) (omega arith) fits) (digits_decimal own (suc k) fits)
    ∙ ap (λ v. Some (pos v)) (digits_value-decimal own (suc k) fits)
number_of-signed_decimal (negsuc k) small =
    let fits : suc k < 2 ^ 64 = omega arith in
    number_of-minus (decimal (suc k)) (decimal_begins (suc k) (omega arith) fits) (digits_decimal own (suc k) fits)
    ∙ ap (λ v. Some (neg_ℤ (pos v))) (digits_value-decimal own (suc k) fits)

-- bytes that spell a number are its decimal
pub number_of_spelled : (bytes : List ℕ) (n : ℤ) → mag n < 2 ^ 63 → number_of bytes ≡ Some n → bytes ≡ signed_decimal n
number_of_spelled bytes n small spells =
    let parts : (is_number bytes ≡ true) × (signed_digits_value 10 bytes ≡ n) = cond_some (is_number bytes) (signed_digits_value 10 bytes) n spells in
    let form : (begins_as_number bytes ≡ true) × (all_ascii_digits (without_leading_sign bytes) ≡ true) = and_parts _ _ parts.0 in
    let IsSpelled : ℤ → Type 0 = λ z. mag z < 2 ^ 63 → bytes ≡ signed_decimal z in
    subst IsSpelled parts.1 (number_spelled bytes form.0 form.1) small
