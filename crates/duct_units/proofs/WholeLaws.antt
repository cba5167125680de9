-- The number that bytes spell within bounds: what it says of them, and what the code finds.
use Rattle.std.proofs.Common.{◌≡◌, ℕ, ◌<◌, ◌^◌, true, false, ◌&&◌, ◌==◌, cond, if◌then◌else◌, Bool, List, [], ◌∷◌, length, drop, ℤ, ◌≤ℤ◌, int_le, Option, Some, None, Result, Ok, Err, IfSome, IfNone, IsUtf8, FitsSigned, refl, sym, ap, subst, ◌∙◌, arith}
use Rattle.std.specs.Int.{w64}
use Rattle.std.specs.Int.Signed.{mag, le_z_yes}
use Rattle.std.specs.Result.{result_ok}
use Rattle.std.specs.Str.{all_ascii_digits}
use Rattle.std.specs.Str.Parse.{signed_digits_value, without_leading_sign, ParsesSigned}
use Rattle.std.proofs.lemmas.Bool.{and_parts}
use Rattle.std.proofs.lemmas.Float.{T_from_true}
use Rattle.std.proofs.lemmas.Fmt.{IsAscii-signed}
use Rattle.std.proofs.lemmas.Int.{ints}
use Rattle.std.proofs.lemmas.Option.{cond_some, none-some}
use Rattle.std.proofs.lemmas.Str.{IsUtf8-from_ascii}
use Rattle.std.below.core.specs.declared.int.i64.TheConstants.{MIN, MAX}
use Rattle.duct_units.specs.Whole.{begins_as_number, is_number, number_of, whole_of, within, IsWhole}
use Rattle.duct_units.proofs.Spelling.{own, unsigned_digits, number_of_is, number_of_spelled, number_of-signed_decimal}

-- ---- within bounds

-- a number that is kept lies within the bounds
within_some : (low high n : ℤ) (found : Option ℤ) → within low high found ≡ Some n → (found ≡ Some n) × (low ≤ℤ n) × (n ≤ℤ high)
within_some low high n None e = cc
within_some low high n (Some x) e =
    let parts : ((int_le low x && int_le x high) ≡ true) × (x ≡ n) = cond_some (int_le low x && int_le x high) x n e in
    let bounds : (int_le low x ≡ true) × (int_le x high ≡ true) = and_parts (int_le low x) (int_le x high) parts.0 in
    let IsKept : ℤ → Type 0 = λ z. (◌≡◌ {A = Option ℤ} (Some x) (Some z)) × (low ≤ℤ z) × (z ≤ℤ high) in
    subst IsKept parts.1 (refl, le_z_yes (T_from_true _ bounds.0), le_z_yes (T_from_true _ bounds.1))

-- and one that lies there is kept
within-some : (low high n : ℤ) → low ≤ℤ n → n ≤ℤ high → within low high (Some n) ≡ Some n
within-some low high n above below = grind (arith, ints)

-- narrower bounds keep no number that wider ones don't
within-within : (low high : ℤ) (found : Option ℤ) → FitsSigned w64 low → FitsSigned w64 high
    → within low high (within MIN MAX found) ≡ within low high found
within-within low high None low_fits high_fits = refl
within-within low high (Some x) low_fits high_fits = grind (arith, ints)

-- between numbers of 64 bits lie only such
small_between : (low high n : ℤ) → FitsSigned w64 low → FitsSigned w64 high → low ≤ℤ n → n ≤ℤ high → mag n < 2 ^ 63
small_between low high n low_fits high_fits above below = grind (arith, ints)

-- what the bytes spell is a number within the bounds, and they are its decimal
pub whole_of_is : (bytes : List ℕ) (low high n : ℤ) → FitsSigned w64 low → FitsSigned w64 high
    → whole_of bytes low high ≡ Some n → IsWhole bytes low high n
unfolding whole_of
whole_of_is bytes low high n low_fits high_fits e =
    let parts = within_some low high n (number_of bytes) e in
    let small : mag n < 2 ^ 63 = small_between low high n low_fits high_fits parts.1 parts.2 in
    record { spelled = number_of_spelled bytes n small parts.0; least = parts.1; most = parts.2 }

-- and where they are the decimal of such a number, they spell it
pub whole_of-IsWhole : (bytes : List ℕ) (low high n : ℤ) → FitsSigned w64 low → FitsSigned w64 high
    → IsWhole bytes low high n → whole_of bytes low high ≡ Some n
unfolding whole_of
whole_of-IsWhole bytes low high n low_fits high_fits is =
    let small : mag n < 2 ^ 63 = small_between low high n low_fits high_fits is.least is.most in
    let spells : number_of bytes ≡ Some n = ap number_of is.spelled ∙ number_of-signed_decimal n small in
    ap (within low high) spells ∙ within-some low high n is.least is.most

-- ---- what the code answers

-- a number of 64 bits, tested against its bounds, is the number within them
pub narrowed : (bytes : List ℕ) (low high : ℤ) (wide : Option ℤ) → FitsSigned w64 low → FitsSigned w64 high
    → wide ≡ whole_of bytes MIN MAX → whole_of bytes low high ≡ within low high wide
unfolding whole_of
narrowed bytes low high wide low_fits high_fits e =
    sym (ap (within low high) e ∙ within-within low high (number_of bytes) low_fits high_fits)

-- the answer is such a number
pub some_is_whole : (bytes : List ℕ) (low high : ℤ) (answer : Option ℤ) → FitsSigned w64 low → FitsSigned w64 high
    → answer ≡ whole_of bytes low high → IfSome answer (IsWhole bytes low high)
some_is_whole bytes low high None low_fits high_fits e = tt
some_is_whole bytes low high (Some n) low_fits high_fits e = whole_of_is bytes low high n low_fits high_fits (sym e)

-- and without an answer there is none
pub none_is_whole : (bytes : List ℕ) (low high : ℤ) (answer : Option ℤ) → FitsSigned w64 low → FitsSigned w64 high
    → answer ≡ whole_of bytes low high → IfNone answer ((n : ℤ) → ¬ (IsWhole bytes low high n))
none_is_whole bytes low high None low_fits high_fits e =
    λ n is. none-some n (e ∙ whole_of-IsWhole bytes low high n low_fits high_fits is)
none_is_whole bytes low high (Some n) low_fits high_fits e = tt

-- a number of 64 bits lies within their bounds, and another doesn't
within_64 : (n : ℤ) → FitsSigned w64 n → within MIN MAX (Some n) ≡ Some n
within_64 n fits = grind (arith, ints)

past_64 : (n : ℤ) → ¬ (FitsSigned w64 n) → within MIN MAX (Some n) ≡ None
past_64 n past = grind (arith, ints)

-- bytes of another form spell no number
not_number : (bytes : List ℕ) → is_number bytes ≡ false → number_of bytes ≡ None
not_number bytes not = ap (λ b. if b then Some (signed_digits_value 10 bytes) else None) not

-- bytes that begin otherwise spell no number
pub whole_of-other : (bytes : List ℕ) (low high : ℤ) → begins_as_number bytes ≡ false → whole_of bytes low high ≡ None
unfolding whole_of
whole_of-other bytes low high not =
    ap (within low high) (not_number bytes (ap (λ b. b && all_ascii_digits (without_leading_sign bytes)) not))

-- nor do bytes that are no text
pub whole_of-no_text : (bytes : List ℕ) → ¬ (IsUtf8 bytes) → whole_of bytes MIN MAX ≡ None
whole_of-no_text bytes not =
    let min_fits : FitsSigned w64 MIN = record { sfits = omega arith } in
    let max_fits : FitsSigned w64 MAX = record { sfits = omega arith } in
    elim (whole_of bytes MIN MAX) as (λ answer. whole_of bytes MIN MAX ≡ answer → answer ≡ None) [
      | None ↦ λ _. refl
      | Some n ↦ λ e.
          let is : IsWhole bytes MIN MAX n = whole_of_is bytes MIN MAX n min_fits max_fits e in
          let small : mag n < 2 ^ 63 = small_between MIN MAX n min_fits max_fits is.least is.most in
          absurd (not (subst IsUtf8 (sym is.spelled) (IsUtf8-from_ascii _ (IsAscii-signed n small))))
    ] refl

-- a sign and a byte behind it, or no sign, leave a byte
left_of_sign : (first second : ℕ) (rest : List ℕ) (minus plus : Bool)
    → 0 < length (cond minus (second ∷ rest) (drop (cond plus 1 0) (first ∷ second ∷ rest)))
left_of_sign first second rest true plus = omega arith
left_of_sign first second rest false true = omega arith
left_of_sign first second rest false false = omega arith

-- bytes that begin as a number have something behind their sign
digits_there : (bytes : List ℕ) → begins_as_number bytes ≡ true → 0 < length (without_leading_sign bytes)
digits_there [] begins = cc
digits_there (first ∷ []) begins = rw (unsigned_digits first [] begins) (omega arith)
digits_there (first ∷ second ∷ rest) begins = left_of_sign first second rest (first == 45) (first == 43)

-- what `parse` reads of bytes that begin as a number is the number that they spell, where it fits
pub parsed_whole : {E : Type 0} (bytes : List ℕ) (parsed : Result ℤ E) → begins_as_number bytes ≡ true → ParsesSigned w64 10 bytes parsed
    → result_ok parsed ≡ whole_of bytes MIN MAX
unfolding whole_of
parsed_whole bytes (Ok n) begins parses =
    let spells : number_of bytes ≡ Some (signed_digits_value 10 bytes) = number_of_is bytes begins (own.from _ parses.0.0.1) in
    ap Some parses.1 ∙ sym (ap (within MIN MAX) spells ∙ within_64 (signed_digits_value 10 bytes) parses.0.1)
parsed_whole bytes (Err e) begins refuses =
    elim (all_ascii_digits (without_leading_sign bytes)) as (λ b. all_ascii_digits (without_leading_sign bytes) ≡ b → None ≡ whole_of bytes MIN MAX) [
      | true ↦ λ digits.
          let spells : number_of bytes ≡ Some (signed_digits_value 10 bytes) = number_of_is bytes begins digits in
          let past : ¬ (FitsSigned w64 (signed_digits_value 10 bytes)) = λ fits. refuses ((digits_there bytes begins, own.to _ digits), fits) in
          sym (ap (within MIN MAX) spells ∙ past_64 (signed_digits_value 10 bytes) past)
      | false ↦ λ other.
          let not : is_number bytes ≡ false = ap (λ b. begins_as_number bytes && b) other ∙ ap (λ b. b && false) begins in
          sym (ap (within MIN MAX) (not_number bytes not))
    ] refl
