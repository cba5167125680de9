use Rattle.std.proofs.Common.{◌≡◌, ◌+◌, ℕ, Option, Some, ap, ◌∙◌, sym, subst, arith}
use Rattle.duct_definitions.specs.Tree.{Tree, neighbour}
use Rattle.duct_definitions.specs.Designs.{path_loss, pair_of, loss_of}
use Rattle.net_model.proofs.Bounds.{path_loss-le}
use Rattle.net_model.proofs.DesignSums.{IsWalked, leaf_within, walked-none, walked-more, walked-fits, walked-all}
use Rattle.net_model.proofs.designs.path_loss.Goals as goal

walked : (c : goal.After-loss_at-loss)
    → IsWalked c.args.net.now c.args.d.now c.args.leaf (Some c.in-Some.s) c.loop-at.loss
walked c = subst (λ (o : Option ℕ). IsWalked c.args.net.now c.args.d.now c.args.leaf o c.loop-at.loss) c.in-Some.is
    c.loop-at.invariant

pub overflow_add-loss : goal.overflow_add-loss
overflow_add-loss c =
    let fits = walked-fits c.args.net.now c.args.d.now c.args.leaf c.in-Some.s c.loop-at.loss
    c.tree-tree.ensures.network c.requires.leaf (walked c) in
    let is : c.loss_at-loss.result ≡ loss_of (pair_of c.args.net.now c.args.d.now c.in-Some.s) =
    c.loss_at-loss.ensures in
    omega arith

pub loop-at-init : goal.loop-at-init
loop-at-init c = walked-none c.args.net.now c.args.d.now c.args.leaf c.requires.leaf

pub loop-at-preserved : goal.loop-at-preserved
loop-at-preserved c =
    let net = c.args.net.now in
    let d = c.args.d.now in
    let at_some = subst (λ (o : Option ℕ). IsWalked net d c.args.leaf o c.loop-at.loss) c.in-Some.is
    c.loop-at.invariant in
    let more = walked-more net d c.args.leaf c.in-Some.s c.loop-at.loss c.tree-tree.ensures.network at_some in
    let next = c.neighbour-at.ensures.value ∙ ap (λ (t : Tree). neighbour t c.in-Some.s) c.tree-tree.ensures.tree in
    subst (λ (lost : ℕ). IsWalked net d c.args.leaf c.neighbour-at.result (c.loop-at.loss + lost))
    (sym c.loss_at-loss.ensures)
    (subst (λ (o : Option ℕ). IsWalked net d c.args.leaf o (c.loop-at.loss + loss_of (pair_of net d c.in-Some.s)))
    (sym next) more)

pub returns : goal.returns
returns c =
    let net = c.args.net.now in
    let d = c.args.d.now in
    let whole : c.loop-at.loss ≡ path_loss net d c.args.leaf =
    walked-all net d c.args.leaf c.loop-at.at c.loop-at.loss c.in_default.not-Some c.loop-at.invariant in
    let most = path_loss-le net d c.args.leaf c.tree-tree.ensures.network
    (leaf_within net.tree c.args.leaf c.requires.leaf) in
    record { value = whole; bound = omega arith }
