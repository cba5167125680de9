use Rattle.std.proofs.Common.{ap, sym, ◌∙◌, arith, inl, inr, subst}
use Rattle.std.specs.Prelude.{IsTrue}
use Rattle.std.proofs.lemmas.Bool.Decides.{eqb_tells}
use Rattle.duct_definitions.specs.Tree.{section_count, is_leaf}
use Rattle.schedule_core.proofs.Claims.{leaf_within}
use Rattle.schedule_core.specs.Schedule.{is_in}
use Rattle.room_tests.proofs.counters.note_all.Goals as goal

pub loop-s-preserved : goal.loop-s-preserved
loop-s-preserved c = (
  c.note.ensures.belongs,
  λ x before leaf. elim (eqb_tells x c.loop-s.s) [
    | inl p ↦ subst (λ y. IsTrue (is_in c.note.new.worker.view.noted y)) (sym p.1) (c.in_ok-note.ensures.noted (subst (λ y. IsTrue (is_leaf c.args.net.now.tree y)) p.1 leaf))
    | inr p ↦ (let q = p.1 in c.in_ok-note.ensures.kept x (c.loop-s.invariant.1 x (omega arith) leaf))
  ],
)

pub returns-clause-noted : goal.returns-clause-noted
returns-clause-noted c = λ s leaf. c.loop-s.invariant.1 s (let l = leaf_within c.args.net.now.tree s leaf in let e = c.loop-s-test.false in let n = c.len-s-end.ensures.value in let t = ap section_count c.tree.ensures.tree in omega arith) leaf
