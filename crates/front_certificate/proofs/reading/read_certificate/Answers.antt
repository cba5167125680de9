use Rattle.std.proofs.Common.{◌+◌, sym, subst, ◌∙◌, arith}
use Rattle.std.proofs.lemmas.Bool.Decides.{nat_tests}
use Rattle.front_certificate.specs.Certificates.{Certificate}
use Rattle.front_certificate.proofs.ReadingSteps.{HasRead, named, form-refused, project-refused, total-refused, fronts-start, front-refused, fronts-next, end-refused, rest-refused}
use Rattle.front_certificate.proofs.reading.read_certificate.Goals as goal

pub returns-in_default-clause-err : goal.returns-in_default-clause-err
returns-in_default-clause-err c =
    form-refused c.args.net.now c.args.bytes.now c.as_slice.result.now
    (record { is = c.as_slice.ensures ∙ c.in_ok-form.ensures; none = c.in_default.ensures.none }) c.bad_line.result c.bad_line.ensures

pub returns-in_default-behind-clause-err : goal.returns-in_default-behind-clause-err
returns-in_default-behind-clause-err c =
    project-refused c.args.net.now c.args.bytes.now c.as_slice.result.now c.in-Some.rest.now (record { is = c.as_slice.ensures ∙ c.in_ok-form.ensures; starts = c.in-Some.ensures.some })
    c.as_slice-2.result.now (record { is = c.as_slice-2.ensures ∙ c.in_ok-project.ensures ∙ named _ _ (c.bytes.ensures.value ∙ c.name-name.ensures); none = c.in_default-behind.ensures.none })
    c.bad_line-in_default-behind.result c.bad_line-in_default-behind.ensures

pub returns-in_default-total_at-clause-err : goal.returns-in_default-total_at-clause-err
returns-in_default-total_at-clause-err c =
    total-refused c.args.net.now c.args.bytes.now c.as_slice.result.now c.in-Some.rest.now (record { is = c.as_slice.ensures ∙ c.in_ok-form.ensures; starts = c.in-Some.ensures.some })
    c.as_slice-2.result.now c.in-Some-behind.rest.now (record { is = c.as_slice-2.ensures ∙ c.in_ok-project.ensures ∙ named _ _ (c.bytes.ensures.value ∙ c.name-name.ensures); starts = c.in-Some-behind.ensures.some })
    c.in_default-total_at.ensures c.bad_line-in_default-total_at.result c.bad_line-in_default-total_at.ensures

pub loop-i-init : goal.loop-i-init
loop-i-init c =
    subst (λ (v : Certificate). HasRead c.args.net.now c.args.bytes.now v 0 c.in-Some-total_at.rest.now) (sym c.start-c.ensures)
    (fronts-start c.args.net.now c.args.bytes.now c.as_slice.result.now c.in-Some.rest.now (record { is = c.as_slice.ensures ∙ c.in_ok-form.ensures; starts = c.in-Some.ensures.some })
    c.as_slice-2.result.now c.in-Some-behind.rest.now (record { is = c.as_slice-2.ensures ∙ c.in_ok-project.ensures ∙ named _ _ (c.bytes.ensures.value ∙ c.name-name.ensures); starts = c.in-Some-behind.ensures.some })
    c.in-Some-total_at.total c.in-Some-total_at.rest.now c.in-Some-total_at.ensures)

pub returns-in_default-2-clause-err : goal.returns-in_default-2-clause-err
returns-in_default-2-clause-err c =
    let count = c.front_count-count.ensures.value in
    let less = c.loop-i-test.true in
    front-refused c.args.net.now c.args.bytes.now c.loop-i.c c.loop-i.i c.loop-i.rest.now c.loop-i.invariant (omega arith)
    (rw c.in_default-2.is at c.in_ok-front.ensures) c.bad_line-in_default-2.result c.bad_line-in_default-2.ensures

pub loop-i-preserved : goal.loop-i-preserved
loop-i-preserved c =
    let count = c.front_count-count.ensures.value in
    let less = c.loop-i-test.true in
    subst (λ (v : Certificate). HasRead c.args.net.now c.args.bytes.now v (c.loop-i.i + 1) c.in-Some-2.after.now) (sym c.in_ok-push.ensures.pushed)
    (fronts-next c.args.net.now c.args.bytes.now c.loop-i.c c.loop-i.i c.loop-i.rest.now c.loop-i.invariant (omega arith)
    c.in-Some-2.front c.in-Some-2.after.now (rw c.in-Some-2.is at c.in_ok-front.ensures))

pub returns-in_default-behind-2-clause-err : goal.returns-in_default-behind-2-clause-err
returns-in_default-behind-2-clause-err c =
    end-refused c.args.net.now c.args.bytes.now c.loop-i.c c.loop-i.i c.loop-i.rest.now c.loop-i.invariant
    c.front_count-count.result c.front_count-count.ensures.value c.loop-i-test.false c.loop-i.auto.i-end c.as_slice-3.result.now
    (record { is = c.as_slice-3.ensures ∙ c.in_ok-end.ensures; none = c.in_default-behind-2.ensures.none })
    c.bad_line-in_default-behind-2.result c.bad_line-in_default-behind-2.ensures

pub returns-clause-err : goal.returns-clause-err
returns-clause-err c =
    rest-refused c.args.net.now c.args.bytes.now c.loop-i.c c.loop-i.i c.loop-i.rest.now c.loop-i.invariant
    c.front_count-count.result c.front_count-count.ensures.value c.loop-i-test.false c.loop-i.auto.i-end c.as_slice-3.result.now
    c.in-Some-behind-2.rest.now
    (record { is = c.as_slice-3.ensures ∙ c.in_ok-end.ensures; starts = c.in-Some-behind-2.ensures.some })
    (grind (arith, nat_tests, c.if-is_empty.ensures)) c.bad_line-else-is_empty.result c.bad_line-else-is_empty.ensures
