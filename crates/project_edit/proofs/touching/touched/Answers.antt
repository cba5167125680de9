use Rattle.std.proofs.Common.{◌∙◌, sym}
use Rattle.air_tree.proofs.FilledLists.{chosen-yes, chosen-no}
use Rattle.project_edit.specs.Touched.{is_touched}
use Rattle.project_edit.proofs.touching.touched.Goals as goal
use Rattle.project_edit.proofs.touching.touched.Goals.{then-is_touched+in_ok-push, else-is_touched}

pub loop-s-preserved : goal.loop-s-preserved
loop-s-preserved c =
    let test = is_touched c.args.tree.now c.args.edit.now c.args.is_cap_kept in
    elim c.if-is_touched.branch [
      | then-is_touched+in_ok-push w ↦
          rw (w.sections-is, w.in_ok-push.ensures.items)
          (chosen-yes test c.loop-s.s c.loop-s.sections.items c.loop-s.invariant (sym c.is_touched.ensures ∙ w.if-is_touched.true))
      | else-is_touched w ↦
          rw w.sections-is (chosen-no test c.loop-s.s c.loop-s.sections.items c.loop-s.invariant (sym c.is_touched.ensures ∙ w.if-is_touched.false))
    ]
