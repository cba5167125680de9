use Rattle.std.proofs.Common.{◌∙◌, arith, rules}
use Rattle.expand_sizes.proofs.Children.{summed-none, summed-all, next-beside, next-within, next-none, next-more, next-fits}
use Rattle.expand_sizes.proofs.sizes.price_beyond.Goals as goal

pub cheapest-requires-clause-beside : goal.cheapest-requires-clause-beside
cheapest-requires-clause-beside c =
    next-beside c.loop-child.invariant c.loop-child-test.true c.index-fronts-child.result c.index-fronts-child.is

pub cheapest-requires-clause-within : goal.cheapest-requires-clause-within
cheapest-requires-clause-within c =
    next-within c.loop-child.invariant c.loop-child-test.true c.index-fronts-child.result c.index-fronts-child.is
    c.requires.within

pub returns-in_err-price-clause-value : goal.returns-in_err-price-clause-value
returns-in_err-price-clause-value c =
    c.from_residual.ensures
    ∙ next-none c.loop-child.invariant c.loop-child-test.true c.index-fronts-child.result c.index-fronts-child.is
    c.in_err-price.ensures.least

pub overflow_add-price : goal.overflow_add-price
overflow_add-price c =
    let fits = next-fits c.loop-child.invariant c.loop-child-test.true c.index-fronts-child.result c.index-fronts-child.is
    c.in_ok-price.field-0 c.in_ok-price.ensures.bounds in
    omega arith

pub loop-child-init : goal.loop-child-init
loop-child-init c =
    summed-none c.args.net.now c.args.fronts.now c.args.s c.args.k c.args.budget _ c.tree.ensures.network.tree
    c.requires.fronts c.requires.size (search rules)

pub loop-child-preserved : goal.loop-child-preserved
loop-child-preserved c =
    next-more c.loop-child.invariant c.loop-child-test.true c.index-fronts-child.result c.index-fronts-child.is
    c.in_ok-price.field-0 c.in_ok-price.ensures.least c.in_ok-price.ensures.bounds

pub returns : goal.returns
returns c =
    let all = summed-all c.loop-child.invariant (omega arith) c.loop-child-test.false in
    record { value = all.0; fits = all.1 }
