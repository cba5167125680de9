use Rattle.std.proofs.Common.{◌≡◌, length, ap, arith}
use Rattle.std.specs.Vec.Iter.{into_iter_items}
use Rattle.child_counter.specs.Closed.{fronts_among, refused_among}
use Rattle.child_counter.proofs.Taking.{fronts-few, few-left}
use Rattle.child_counter.proofs.ending.sorted.Goals as goal

pub push_reserved-requires : goal.push_reserved-requires
push_reserved-requires c =
    let at = c.loop-outcome in
    let left = few-left at.yielded (into_iter_items at.outcome-iterator) _ c.in-Some.outcome
    (into_iter_items c.next.new.self) at.invariant.0 c.in-Some.ensures.steps.0 in
    let few = fronts-few at.yielded in
    let has : length at.fronts.items ≡ length (fronts_among at.yielded) = ap length at.invariant.1 in
    let room = at.invariant.3 in
    let len = at.fronts.ok.0 in
    omega arith

pub push_reserved-requires-in-NoMemory : goal.push_reserved-requires-in-NoMemory
push_reserved-requires-in-NoMemory c =
    let at = c.loop-outcome in
    let left = few-left at.yielded (into_iter_items at.outcome-iterator) _ c.in-Some.outcome
    (into_iter_items c.next.new.self) at.invariant.0 c.in-Some.ensures.steps.0 in
    let few = fronts-few at.yielded in
    let has : length at.refused.items ≡ length (refused_among at.yielded) = ap length at.invariant.2 in
    let room = at.invariant.4 in
    let len = at.refused.ok.0 in
    omega arith
