use Rattle.std.proofs.Common.{◌≡◌, ℕ, List, ap, sym, ◌∙◌, subst, arith}
use Rattle.duct_definitions.specs.Tree.{Tree, section_count}
use Rattle.duct_definitions.specs.Designs.{cost}
use Rattle.duct_definitions.specs.Order.{IsBest}
use Rattle.expand_sizes.proofs.Sizing.{sized-none, next-sizable, next-sized}
use Rattle.expand_sizes.proofs.Whole.{design-best, design-cost}
use Rattle.expand_sizes.proofs.descent.expand.Goals as goal

pub first_attaining-size-requires-clause-sizable : goal.first_attaining-size-requires-clause-sizable
first_attaining-size-requires-clause-sizable c =
    let all : c.len-count.result ≡ section_count c.args.net.now.tree =
    c.len-count.ensures.value ∙ ap (λ (t : Tree). section_count t) c.tree.ensures.tree in
    next-sizable c.loop-s.invariant (omega arith) c.as_slice.ensures.value c.towards_fan-beside.ensures.size
    c.as_slice-in-loop-s.ensures.value c.towards_fan-beside.ensures.left

pub loop-s-init : goal.loop-s-init
loop-s-init c =
    sized-none c.tree.ensures.network.tree c.requires.choice c.in_ok-sizes.ensures.items c.in_ok-rests.ensures.items

pub loop-s-preserved : goal.loop-s-preserved
loop-s-preserved c =
    let all : c.len-count.result ≡ section_count c.args.net.now.tree =
    c.len-count.ensures.value ∙ ap (λ (t : Tree). section_count t) c.tree.ensures.tree in
    next-sized c.loop-s.invariant (omega arith) c.as_slice.ensures.value c.towards_fan-beside.ensures.size
    c.as_slice-in-loop-s.ensures.value c.towards_fan-beside.ensures.left
    c.first_attaining-size.ensures.attains c.first_attaining-size.ensures.first c.loss_with.ensures
    c.in_ok-push.ensures.items c.in_ok-push-2.ensures.items

pub returns-clause-best : goal.returns-clause-best
returns-clause-best c =
    let all : c.len-count.result ≡ section_count c.args.net.now.tree =
    c.len-count.ensures.value ∙ ap (λ (t : Tree). section_count t) c.tree.ensures.tree in
    let best = design-best c.loop-s.invariant (omega arith) in
    subst (λ (sizes : List ℕ). IsBest c.args.net.now (record { fan = c.args.choice.now.fan; back = c.args.choice.now.back; sizes = sizes }))
    (sym c.from_vec.ensures) best

pub returns-clause-cost : goal.returns-clause-cost
returns-clause-cost c =
    let all : c.len-count.result ≡ section_count c.args.net.now.tree =
    c.len-count.ensures.value ∙ ap (λ (t : Tree). section_count t) c.tree.ensures.tree in
    let whole = design-cost c.loop-s.invariant (omega arith) in
    subst
    (λ (sizes : List ℕ).
    cost c.args.net.now (record { fan = c.args.choice.now.fan; back = c.args.choice.now.back; sizes = sizes }) ≡ c.args.choice.now.cost)
    (sym c.from_vec.ensures) whole
