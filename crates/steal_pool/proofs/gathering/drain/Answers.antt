use Rattle.std.proofs.Common.{ap, ◌∙◌, arith}
use Rattle.steal_pool.proofs.Draining.{drain-shrinks, drain-counts, drain-room, drain-ends}
use Rattle.steal_pool.proofs.gathering.drain.Goals as goal

pub unreachable-requires : goal.unreachable-requires
unreachable-requires c =
    let inv = c.loop-task.invariant in
    let m = c.in-Some.ensures.view.0 in
    let a = drain-room c.loop-task.own c.pop_last.new.self c.args.own c.in-Some.task m c.in-Some.ensures.view.1 inv.pushed in
    let a0 = a.0 in
    let a1 = a.1 in
    let full = c.in_default-push.ensures.full in
    let cap = inv.capacity in
    let long = inv.long in
    let room = c.requires in
    omega arith

pub loop-task-preserved : goal.loop-task-preserved
loop-task-preserved c =
    let inv = c.loop-task.invariant in
    let m = c.in-Some.ensures.view.0 in
    let p = c.in-Ok.ensures in
    let a = drain-room c.loop-task.own c.pop_last.new.self c.args.own c.in-Some.task m c.in-Some.ensures.view.1 inv.pushed in
    let a0 = a.0 in
    let a1 = a.1 in
    let cap = p.capacity in
    let old_cap = inv.capacity in
    let long = inv.long in
    let len = p.len in
    record {
      parts = ap (λ v. v.parts) m ∙ inv.parts;
      pushed = ap (λ v. v.pushed) m ∙ inv.pushed;
      counts = drain-counts c.loop-task.own c.pop_last.new.self c.args.own c.in-Some.task c.args.left.now.items c.loop-task.left.items c.push.new.self.items m p.items inv.counts;
      capacity = omega arith;
      long = omega arith;
      most = omega arith;
    }

pub loop-task-smaller : goal.loop-task-smaller
loop-task-smaller c = drain-shrinks c.loop-task.own c.pop_last.new.self c.in-Some.task c.in-Some.ensures.view.0 c.in-Some.ensures.view.1

pub returns-clause-counts : goal.returns-clause-counts
returns-clause-counts c =
    let inv = c.loop-task.invariant in
    let e = c.in_default.ensures.view in
    drain-ends c.loop-task.own c.pop_last.new.self c.args.own c.args.left.now.items c.loop-task.left.items e.0 e.1 inv.parts inv.pushed inv.counts
