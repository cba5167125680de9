-- What is read at the beginning of some bytes is the only thing that stands there.
use Rattle.std.proofs.Common.{◌≡◌, ℕ, ◌+◌, ◌<◌, ◌≤◌, ◌^◌, true, List, [], ◌∷◌, ◌++◌, length, take, drop, get_or, ℤ, pos, negsuc, refl, sym, ap, subst, ◌∙◌, arith}
use Rattle.std.specs.Prelude.{unsigned_abs, decimal}
use Rattle.std.specs.Char.{is_ascii_digit}
use Rattle.std.specs.Str.{all_ascii_digits}
use Rattle.std.proofs.lemmas.Bool.{and_parts, and_from, false≢true}
use Rattle.std.proofs.lemmas.Fmt.{digits_decimal, decimal_injective}
use Rattle.std.proofs.lemmas.Int.{ints}
use Rattle.std.proofs.lemmas.List.{take_more, take-append-drop}
use Rattle.duct_units.specs.Whole.{IsWhole}
use Rattle.duct_units.proofs.Spelling.{own}
use Rattle.front_certificate.specs.Reading.{IsEnded, IsNumberAt}

all-push : (xs : List ℕ) (x : ℕ) → all_ascii_digits xs ≡ true → is_ascii_digit x ≡ true
    → all_ascii_digits (xs ++ x ∷ []) ≡ true
all-push [] x all digit = and_from (is_ascii_digit x) true digit refl
all-push (y ∷ ys) x all digit =
    let parts = and_parts (is_ascii_digit y) (all_ascii_digits ys) all in
    and_from (is_ascii_digit y) (all_ascii_digits (ys ++ x ∷ [])) parts.0 (all-push ys x parts.1 digit)

pub digits-more : (bytes : List ℕ) (end : ℕ) → end < length bytes → all_ascii_digits (take end bytes) ≡ true
    → is_ascii_digit (get_or bytes end 0) ≡ true → all_ascii_digits (take (end + 1) bytes) ≡ true
digits-more bytes end within so_far next =
    ap all_ascii_digits (take_more bytes end 0 within) ∙ all-push (take end bytes) (get_or bytes end 0) so_far next

-- digits up to what is no digit are those alone
pub run-unique : (xs us ys vs : List ℕ) → all_ascii_digits xs ≡ true → IsEnded us → all_ascii_digits ys ≡ true → IsEnded vs
    → xs ++ us ≡ ys ++ vs → (xs ≡ ys) × (us ≡ vs)
run-unique [] us [] vs xd ue yd ve same = (refl, same)
run-unique [] [] (y ∷ ys) vs xd ue yd ve same = absurd (cc same)
run-unique [] (u ∷ us) (y ∷ ys) vs xd ue yd ve same =
    let head : u ≡ y = cc same in
    absurd (false≢true (sym ue ∙ ap is_ascii_digit head ∙ (and_parts (is_ascii_digit y) (all_ascii_digits ys) yd).0))
run-unique (x ∷ xs) us [] [] xd ue yd ve same = absurd (cc same)
run-unique (x ∷ xs) us [] (v ∷ vs) xd ue yd ve same =
    let head : x ≡ v = cc same in
    absurd (false≢true (sym ve ∙ ap is_ascii_digit (sym head) ∙ (and_parts (is_ascii_digit x) (all_ascii_digits xs) xd).0))
run-unique (x ∷ xs) us (y ∷ ys) vs xd ue yd ve same =
    let head : x ≡ y = cc same in
    let tail : xs ++ us ≡ ys ++ vs = cc same in
    let rest = run-unique xs us ys vs (and_parts (is_ascii_digit x) (all_ascii_digits xs) xd).1 ue
    (and_parts (is_ascii_digit y) (all_ascii_digits ys) yd).1 ve tail in
    (cc (head, rest.0), rest.1)

-- a number at the beginning spells the digits there
pub number-digits : (most : ℕ) (bytes word rest : List ℕ) (m : ℕ) (more : List ℕ) → most < 2 ^ 63 → word ++ rest ≡ bytes
    → all_ascii_digits word ≡ true → IsEnded rest → IsNumberAt most bytes m more → (word ≡ decimal m) × (rest ≡ more)
number-digits most bytes word rest m more low whole digits ended is =
    let small = is.small in
    run-unique word rest (decimal m) more digits ended (digits_decimal own m (omega arith)) is.ended (whole ∙ is.spelled)

spelled_natural : (bytes : List ℕ) (most : ℕ) (z : ℤ) → IsWhole bytes (pos 0) (pos most) z
    → (bytes ≡ decimal (unsigned_abs z)) × (unsigned_abs z ≤ most)
spelled_natural bytes most (pos m) whole = (whole.spelled, omega (arith, ints, whole.most))
spelled_natural bytes most (negsuc m) whole = absurd (omega (arith, ints, whole.least))

pub number-found : (most : ℕ) (high : ℤ) (bytes word rest : List ℕ) (z : ℤ) → IsWhole word (pos 0) high z → high ≡ pos most
    → most < 2 ^ 63 → word ++ rest ≡ bytes → all_ascii_digits word ≡ true → IsEnded rest
    → IsNumberAt most bytes (unsigned_abs z) rest
    × ((m : ℕ) (more : List ℕ) → IsNumberAt most bytes m more → (m ≡ unsigned_abs z) × (more ≡ rest))
number-found most high bytes word rest z read same low whole digits ended =
    let is = subst (λ h. IsWhole word (pos 0) h z) same read in
    let natural = spelled_natural word most z is in
    let bound = natural.1 in (
      record { small = natural.1; spelled = sym whole ∙ ap (λ w. w ++ rest) natural.0; ended = ended },
      λ m more other.
          let found = number-digits most bytes word rest m more low whole digits ended other in
          let small = other.small in
          (decimal_injective m (unsigned_abs z) (omega arith) (omega arith) (sym found.0 ∙ natural.0), sym found.1),
    )

pub number-missing : (most : ℕ) (high : ℤ) (bytes word rest : List ℕ) → ((z : ℤ) → IsWhole word (pos 0) high z → ⊥)
    → high ≡ pos most → most < 2 ^ 63 → word ++ rest ≡ bytes → all_ascii_digits word ≡ true → IsEnded rest
    → (m : ℕ) (more : List ℕ) → IsNumberAt most bytes m more → ⊥
number-missing most high bytes word rest none same low whole digits ended m more is =
    let found = number-digits most bytes word rest m more low whole digits ended is in
    none (pos m) (subst (λ h. IsWhole word (pos 0) h (pos m)) (sym same) (record {
      spelled = found.0;
      least = omega (arith, ints);
      most = (let small = is.small in omega (arith, ints));
    }))

pub halves : (word rest bytes : List ℕ) (n : ℕ) → word ≡ take n bytes → rest ≡ drop n bytes → word ++ rest ≡ bytes
halves word rest bytes n front back =
    ap (λ (l : List ℕ). l ++ rest) front ∙ ap (λ (l : List ℕ). take n bytes ++ l) back ∙ take-append-drop n bytes
