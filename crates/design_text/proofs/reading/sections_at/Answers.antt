use Rattle.std.proofs.Common.{◌∷◌, [], sym, length-append, arith}
use Rattle.design_text.proofs.SectionLoop.{goes_on, ends, is_full}
use Rattle.design_text.proofs.reading.sections_at.Goals as goal

pub returns-in_default-clause-value : goal.returns-in_default-clause-value
returns-in_default-clause-value c =
    rw c.from_vec.ensures (ends _ _ _ _ _ (sym c.in_default.ensures) c.loop.invariant.all)

pub loop-preserved : goal.loop-preserved
loop-preserved c = record {
  all = rw c.in_ok-push.ensures.items (goes_on _ _ _ _ _ _ _ c.loop-test.true (sym c.in-Some.ensures) c.loop.invariant.all);
  count = rw c.in_ok-push.ensures.items (omega (arith, length-append c.loop.sections.items (c.in-Some.section ∷ []), c.loop.invariant.count));
}

pub returns-clause-value : goal.returns-clause-value
returns-clause-value c = rw c.from_vec-2.ensures (is_full _ _ _ _ _ c.loop-test.false c.loop.invariant.all)
