use Rattle.std.proofs.Common.{◌∷◌, sym}
use Rattle.front_certificate.proofs.LineReading.{total-none, total-some, no-total, no-start}
use Rattle.front_certificate.proofs.reading.total_at.Goals as goal

pub returns-in_err-rest : goal.returns-in_err-rest
returns-in_err-rest c = rw c.from_residual.ensures (no-start c.args.bytes.now c.in_err-rest.ensures.none)

pub returns-in-Some : goal.returns-in-Some
returns-in-Some c =
    total-none c.args.bytes.now c.in_ok-rest.rest.now c.in-Some.rest.now c.in_ok-rest.ensures.some c.in-Some.ensures.some

pub returns-in_err-total : goal.returns-in_err-total
returns-in_err-total c =
    rw c.from_residual-in_err-total.ensures
    (no-total c.args.bytes.now c.in_ok-rest.rest.now c.in_ok-rest.ensures.some c.in_default.ensures.none
    (λ m more. c.in_err-total.ensures m (10 ∷ more)))

pub returns-in_err-rest-2 : goal.returns-in_err-rest-2
returns-in_err-rest-2 c =
    rw c.from_residual-in_err-rest-2.ensures
    (no-total c.args.bytes.now c.in_ok-rest.rest.now c.in_ok-rest.ensures.some c.in_default.ensures.none
    (λ m more at. c.in_err-rest-2.ensures.none more (sym (c.in_ok-total.ensures.1 m (10 ∷ more) at).1)))

pub returns : goal.returns
returns c =
    total-some c.args.bytes.now c.in_ok-rest.rest.now c.in_ok-total.rest.now c.in_ok-rest-2.rest.now c.in_ok-total.total
    c.in_ok-rest.ensures.some c.in_default.ensures.none c.in_ok-total.ensures.0 c.in_ok-total.ensures.1
    c.in_ok-rest-2.ensures.some
