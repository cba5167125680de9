use Rattle.std.proofs.Common.{◌≡◌, ℕ, List, sym, subst, ap, ◌∙◌, arith}
use Rattle.std.specs.Prelude.{unsigned_abs}
use Rattle.std.specs.Int.{w64}
use Rattle.std.specs.Str.{all_ascii_digits}
use Rattle.std.proofs.lemmas.Int.{ints, to_z-of_z}
use Rattle.front_certificate.specs.Reading.{IsNumberAt, IsEnded}
use Rattle.front_certificate.proofs.WordReading.{number-found, number-missing, halves}
use Rattle.front_certificate.proofs.words.number_at.Goals as goal

pub returns-in_err-number : goal.returns-in_err-number
returns-in_err-number c =
    let bytes = c.args.bytes.now in
    let word = c.split_at.result.0.now in
    let rest = c.split_at.result.1.now in
    rw c.from_residual.ensures
    (number-missing c.args.most _ bytes word rest c.in_err-number.ensures.none (omega (arith, ints)) c.requires
    (halves word rest bytes c.digits.result c.split_at.ensures.front c.split_at.ensures.back)
    (ap all_ascii_digits c.split_at.ensures.front ∙ c.digits.ensures.digits)
    (subst IsEnded (sym c.split_at.ensures.back) c.digits.ensures.ended))

pub returns : goal.returns
returns c =
    let bytes = c.args.bytes.now in
    let word = c.split_at.result.0.now in
    let rest = c.split_at.result.1.now in
    let some = c.in_ok-number.ensures.some in
    let low = some.least in
    let high = some.most in
    let natural : c.unsigned_abs.result ≡ unsigned_abs c.in_ok-number.number =
    c.unsigned_abs.ensures.value ∙ ap unsigned_abs (to_z-of_z w64 c.in_ok-number.number (omega (arith, ints))) in
    let found = number-found c.args.most _ bytes word rest c.in_ok-number.number some (omega (arith, ints)) c.requires
    (halves word rest bytes c.digits.result c.split_at.ensures.front c.split_at.ensures.back)
    (ap all_ascii_digits c.split_at.ensures.front ∙ c.digits.ensures.digits)
    (subst IsEnded (sym c.split_at.ensures.back) c.digits.ensures.ended) in
    subst (λ n. IsNumberAt c.args.most bytes n rest
    × ((x : ℕ) (more : List ℕ) → IsNumberAt c.args.most bytes x more → (x ≡ n) × (more ≡ rest))) (sym natural) found
