use Rattle.std.proofs.Common.{ℕ, ap, ◌∙◌, sym}
use Rattle.duct_definitions.specs.Tree.{Tree, all_leaves}
use Rattle.net_model.proofs.DesignSums.{greatest-none, greatest-yes, greatest-no, greatest-all}
use Rattle.net_model.proofs.designs.worst.Goals as goal
use Rattle.net_model.proofs.designs.worst.Goals.{then-is_on, else-is_on}

pub loop-leaf-init : goal.loop-leaf-init
loop-leaf-init c =
    greatest-none c.args.net.now c.args.d.now c.args.side c.leaves-leaf-items.result.now
    (c.leaves-leaf-items.ensures.value ∙ ap (λ (t : Tree). all_leaves t) c.tree.ensures.tree)

pub loop-leaf-preserved : goal.loop-leaf-preserved
loop-leaf-preserved c =
    let net = c.args.net.now in
    let d = c.args.d.now in
    let found = c.leaves-leaf-items.result.now in
    let i : ℕ = c.loop-leaf.leaf-index in
    let on_side = sym c.is_on.ensures in
    elim c.if-is_on.branch [
      | then-is_on w ↦
          rw (w.most-is, w.max-most.ensures) (greatest-yes net d c.args.side i found c.loop-leaf.most
          w.path_loss.result c.loop-leaf-test.true c.loop-leaf.invariant
          (on_side ∙ w.if-is_on.true) w.path_loss.ensures.value w.path_loss.ensures.bound)
      | else-is_on w ↦
          rw w.most-is (greatest-no net d c.args.side i found c.loop-leaf.most c.loop-leaf-test.true
          c.loop-leaf.invariant (on_side ∙ w.if-is_on.false))
    ]

pub returns : goal.returns
returns c =
    let whole = greatest-all c.args.net.now c.args.d.now c.args.side c.loop-leaf.leaf-index
    c.leaves-leaf-items.result.now c.loop-leaf.most
    c.loop-leaf-test.false c.loop-leaf.invariant in
    record { value = whole; bound = c.loop-leaf.invariant.bound }
