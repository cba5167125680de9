use Rattle.std.proofs.Common.{length, vec_len}
use Rattle.project_edit.specs.Touched.{is_touched}
use Rattle.edit_session.specs.Condensed.{AreLater}
use Rattle.edit_session.proofs.Fronts.{AreLeft}
use Rattle.edit_session.proofs.condensing.all_fronts.Given as goal

-- the fronts of the first sections are left, and those of the others stand
abbrev pub invariant-loop-old : goal.invariant-loop-old
invariant-loop-old l =
    record {
      left : AreLeft l.net (is_touched l.net.tree l.edit l.is_cap_kept) l.left.items;
      later : AreLater l.net (length l.left.items) l.fronts.items;
    }

abbrev pub decreases-loop-old : goal.decreases-loop-old
decreases-loop-old l = vec_len l.left
