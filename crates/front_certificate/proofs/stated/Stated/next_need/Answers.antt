use Rattle.std.proofs.Common.{◌≡◌, ◌<◌, arith, sym, ◌∙◌, subst, List}
use Rattle.std.specs.Prelude.{IfSome}
use Rattle.pareto_front.specs.declared.point.Point.{Point}
use Rattle.pareto_front.specs.Front.{cheapest}
use Rattle.front_certificate.specs.Certificates.{bound, bound_sum}
use Rattle.front_certificate.proofs.Steps.{sum_of-same-step, sum_of-all, below-lesser, lesser-above}
use Rattle.front_certificate.proofs.stated.Stated.next_need.Goals as goal

pub loop-s-preserved : goal.loop-s-preserved
loop-s-preserved c =
    let stated = c.args.self.now in
    record {
      above = subst (λ o. IfSome o (λ need. c.args.budget < need)) (sym c.lesser-next.ensures)
          (lesser-above c.loop-s.next c.need_above.result c.args.budget c.loop-s.invariant.above c.need_above.ensures.above);
      stay = λ other over below.
          let both = below-lesser c.loop-s.next c.need_above.result other
          (subst (λ o. IfSome o (λ need. other < need)) c.lesser-next.ensures below) in
          sum_of-same-step (λ s. bound stated.net stated.fronts s c.args.k other)
          (λ s. bound stated.net stated.fronts s c.args.k c.args.budget) c.args.sections.now c.loop-s.s-index c.loop-s-test.true
          (c.loop-s.invariant.stay other over both.0)
          (subst (λ (f : List Point). cheapest f other ≡ cheapest f c.args.budget) c.front.ensures
          (c.need_above.ensures.stay other over both.1));
    }

pub returns-clause-stay : goal.returns-clause-stay
unfolding bound_sum
returns-clause-stay c other over below =
    let stated = c.args.self.now in
    sym (sum_of-all (λ s. bound stated.net stated.fronts s c.args.k other) c.args.sections.now c.loop-s.s-index (omega arith))
    ∙ c.loop-s.invariant.stay other over below
    ∙ sum_of-all (λ s. bound stated.net stated.fronts s c.args.k c.args.budget) c.args.sections.now c.loop-s.s-index (omega arith)
