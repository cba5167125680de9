use Rattle.std.proofs.Common.{◌≡◌, ◌≤◌, ◌+◌, ◌*◌, ℕ, ap, ◌∙◌, sym, subst, arith}
use Rattle.duct_definitions.specs.declared.limits.TheConstants.{MAX_FAN_COST}
use Rattle.duct_definitions.specs.Tree.{Tree, section_count}
use Rattle.duct_definitions.specs.Designs.{pair_of, price_of, cost}
use Rattle.design_check.specs.Named.{named}
use Rattle.net_model.proofs.DesignSums.{IsAdded, added-none, added-more, added-fits, added-all, cost-le}
use Rattle.design_check.proofs.cost.cost.Goals as goal

pub overflow_add-cost : goal.overflow_add-cost
overflow_add-cost c =
    let net = c.args.net.now in
    let d = (named c.args.net.now c.args.listed.now) in
    let fans = subst (λ n. n ≤ 2 * MAX_FAN_COST) c.fans_cost-cost.ensures.value c.fans_cost-cost.ensures.bound in
    let all : c.len-s-end.result ≡ section_count net.tree = c.len-s-end.ensures.value ∙ ap
    (λ (t : Tree). section_count t) c.tree-tree.ensures.tree in
    let fits = added-fits net d c.loop-s.s c.loop-s.cost c.tree-tree.ensures.network fans (omega arith)
    c.loop-s.invariant in
    let is : c.price_at-cost.result ≡ price_of (pair_of net d c.loop-s.s) = c.price_at-cost.ensures in
    omega arith

pub loop-s-init : goal.loop-s-init
loop-s-init c = subst (IsAdded c.args.net.now (named c.args.net.now c.args.listed.now) 0) (sym c.fans_cost-cost.ensures.value)
    (added-none c.args.net.now (named c.args.net.now c.args.listed.now))

pub loop-s-preserved : goal.loop-s-preserved
loop-s-preserved c =
    let net = c.args.net.now in
    let d = (named c.args.net.now c.args.listed.now) in
    let all : c.len-s-end.result ≡ section_count net.tree = c.len-s-end.ensures.value ∙ ap
    (λ (t : Tree). section_count t) c.tree-tree.ensures.tree in
    subst (λ (price : ℕ). IsAdded net d (c.loop-s.s + 1) (c.loop-s.cost + price)) (sym c.price_at-cost.ensures)
    (added-more net d c.loop-s.s c.loop-s.cost (omega arith) c.loop-s.invariant)

pub returns : goal.returns
returns c =
    let net = c.args.net.now in
    let d = (named c.args.net.now c.args.listed.now) in
    let fans = subst (λ n. n ≤ 2 * MAX_FAN_COST) c.fans_cost-cost.ensures.value c.fans_cost-cost.ensures.bound in
    let all : c.len-s-end.result ≡ section_count net.tree = c.len-s-end.ensures.value ∙ ap
    (λ (t : Tree). section_count t) c.tree-tree.ensures.tree in
    let whole : c.loop-s.cost ≡ cost net d = added-all net d c.loop-s.s c.loop-s.cost (omega arith)
    c.loop-s.invariant in
    let most = cost-le net d c.tree-tree.ensures.network fans in
    whole
