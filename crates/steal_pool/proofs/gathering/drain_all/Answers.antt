use Rattle.std.proofs.Common.{ap, arith, length, ◌∙◌}
use Rattle.std.proofs.lemmas.List.Sums.{sum_by-cons}
use Rattle.steal_pool.specs.Gathers.{own_pushed}
use Rattle.steal_pool.specs.declared.deque.OwnDeque.{OwnDeque}
use Rattle.std.specs.List.{sum_by}
use Rattle.steal_pool.proofs.Draining.{drained-enough, drained-more}
use Rattle.steal_pool.proofs.gathering.drain_all.Goals as goal

pub drain-requires : goal.drain-requires
drain-requires c =
    let a = ap (sum_by (λ (o : OwnDeque). length (own_pushed o))) c.take_first-own.ensures ∙ sum_by-cons (λ (o : OwnDeque). length (own_pushed o)) c.take_first-own.result c.take_first-own.new.list.items in
    let b = c.loop-owns.invariant.roomy in
    omega arith

pub loop-owns-preserved : goal.loop-owns-preserved
loop-owns-preserved c =
    let inv = c.loop-owns.invariant in
    let d = c.drain.ensures in
    record {
      roomy = (let a = ap (sum_by (λ (o : OwnDeque). length (own_pushed o))) c.take_first-own.ensures ∙ sum_by-cons (λ (o : OwnDeque). length (own_pushed o)) c.take_first-own.result c.take_first-own.new.list.items in let b = inv.roomy in let r0 = d.room.0 in let r1 = d.room.1 in omega arith);
      enough = drained-enough c.loop-owns.owns.items c.take_first-own.new.list.items c.take_first-own.result c.take_first-own.ensures inv.enough d.parts;
      counts = drained-more c.args.owns.items c.loop-owns.owns.items c.take_first-own.new.list.items c.take_first-own.result c.args.left.now.items c.loop-owns.left.items c.drain.new.left.items c.take_first-own.ensures inv.enough d.parts d.counts inv.counts;
    }
