use Rattle.std.proofs.Common.{◌+◌, ◌%◌, ◌<◌, length, arith}
use Rattle.steal_pool.proofs.Looking.{pop-searched, steal-searched, stolen, not-stolen}
use Rattle.steal_pool.proofs.hand.find.Goals as goal

pub returns-in-Some : goal.returns-in-Some
returns-in-Some c = pop-searched _ _ _ _ c.in-Some.ensures.same c.in-Some.ensures.view

pub returns-in-Some-steal : goal.returns-in-Some-steal
returns-in-Some-steal c =
    let inside : (c.args.first + c.loop-k.k) % c.len-count.result < length c.loop-k.others.items = (let a = c.loop-k.others.ok.0 in let b = c.loop-k.invariant.1 in omega arith) in
    steal-searched _ _ _ _ _ c.index_mut.result.now c.steal.new.self _ _ c.loop-k.invariant.0 inside c.index_mut.ensures.value c.in-Some-steal.ensures.same (stolen c.index_mut.result.now c.steal.new.self _ c.in-Some-steal.ensures.view)

pub loop-k-preserved : goal.loop-k-preserved
loop-k-preserved c =
    let inside : (c.args.first + c.loop-k.k) % c.len-count.result < length c.loop-k.others.items = (let a = c.loop-k.others.ok.0 in let b = c.loop-k.invariant.1 in omega arith) in (
      steal-searched _ _ _ _ _ c.index_mut.result.now c.steal.new.self _ _ c.loop-k.invariant.0 inside c.index_mut.ensures.value c.in_default-steal.ensures.same (not-stolen c.index_mut.result.now c.steal.new.self c.in_default-steal.ensures.view),
      c.loop-k.invariant.1,
    )
