use Rattle.std.proofs.Common.{ℕ, ◌∙◌, sym}
use Rattle.std.specs.Prelude.{◌&&◌}
use Rattle.duct_definitions.specs.Tree.{Tree, side, is_root}
use Rattle.duct_units.specs.Side.{same_side}
use Rattle.air_tree.proofs.FilledLists.{chosen-yes, chosen-no}
use Rattle.air_tree.proofs.lists.root_list.Goals as goal
use Rattle.air_tree.proofs.lists.root_list.Goals.{then-is_root_of+in_ok-push, else-is_root_of}

pub loop-s-preserved : goal.loop-s-preserved
loop-s-preserved c =
    let t : Tree = record { neighbours = c.args.neighbours.now; sides = c.args.sides.now } in
    let s : ℕ = c.loop-s.s in
    elim c.if-is_root_of.branch [
      | then-is_root_of+in_ok-push w ↦ rw (w.found-is, w.in_ok-push.ensures.items)
          (chosen-yes (λ x. same_side (side t x) c.args.side && is_root t x) s c.loop-s.found.items
          c.loop-s.invariant (sym c.is_root_of.ensures ∙ w.if-is_root_of.true))
      | else-is_root_of w ↦ rw w.found-is
          (chosen-no (λ x. same_side (side t x) c.args.side && is_root t x) s c.loop-s.found.items
          c.loop-s.invariant (sym c.is_root_of.ensures ∙ w.if-is_root_of.false))
    ]
