use Rattle.std.proofs.Common.{arith, ap, sym, ◌∙◌, Some}
use Rattle.front_certificate.specs.Certificates.{bound, bound_sum}
use Rattle.front_certificate.proofs.Steps.{sum_of-none, sum_of-step, sum_of-all}
use Rattle.front_certificate.proofs.stated.Stated.bound_sum.Goals as goal

pub returns-in_err-cost-clause-value : goal.returns-in_err-cost-clause-value
unfolding bound_sum
returns-in_err-cost-clause-value c =
    let stated = c.args.self.now in
    c.from_residual.ensures
    ∙ sym (sum_of-none (λ s. bound stated.net stated.fronts s c.args.k c.args.budget) c.args.sections.now c.loop-s.s-index 0
    c.loop-s-test.true (sym c.in_err-cost.ensures.value))

pub loop-s-preserved : goal.loop-s-preserved
loop-s-preserved c =
    let stated = c.args.self.now in
    record {
      sum = sum_of-step (λ s. bound stated.net stated.fronts s c.args.k c.args.budget) c.args.sections.now c.loop-s.s-index
          c.loop-s.sum c.from-sum.result c.loop-s-test.true c.loop-s.invariant.sum
          (sym c.in_ok-cost.ensures.value ∙ ap Some (sym c.from-sum.ensures));
      fits = (let more = c.loop-s.invariant.fits in let low = c.in_ok-cost.ensures.fits in omega arith);
    }

pub returns-clause-value : goal.returns-clause-value
unfolding bound_sum
returns-clause-value c =
    let stated = c.args.self.now in
    sym c.loop-s.invariant.sum
    ∙ sum_of-all (λ s. bound stated.net stated.fronts s c.args.k c.args.budget) c.args.sections.now c.loop-s.s-index
    (omega arith)
