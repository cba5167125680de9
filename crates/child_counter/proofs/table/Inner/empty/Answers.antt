use Rattle.std.proofs.Common.{◌≡◌, length, arith, Some, None, ap, sym, ◌∙◌}
use Rattle.std.specs.Prelude.{slice_get}
use mathlib.Core.Option.{some-injective}
use Rattle.child_counter.proofs.Closing.{opens, each-once, emptied, FitsLast}
use Rattle.child_counter.proofs.table.Inner.empty.Goals as goal

pub loop-k-init : goal.loop-k-init
loop-k-init c =
    let counts = c.close_with-closed.ensures.counts in
    let n = c.slot_count-count.ensures in
    let ok = c.close_with-closed.result.slots.ok in
    let values = c.close_with-closed.ensures.values in
    let key = c.args.self.table.shared.key in
    let slotted = c.args.self.slotted in
    record {
      long = counts.1 ∙ sym n;
      taken = λ j l. absurd (omega arith);
      full = λ j k l. values.1 j (omega arith) (let a = counts.1 in omega arith);
      has = λ j l.
          (let got = opens key.net key.passes c.args.pass.id c.args.pass.me.0 _ c.close_with-closed.result.slots.items
          c.args.self.tree values.2 (let a = counts.1 in let b = ok.0 in omega arith) c.requires.last j
          (let a = counts.1 in let b = ok.0 in omega arith) in
          (got.0, got.1, (got.2, got.3)));
      so_far = ap length c.requires.none_yet;
      roomy = (let e = c.requires.room in omega arith);
      fits = λ j o e. (let z : None ≡ Some o = ap (λ l. slice_get l j) (sym c.requires.none_yet)
          ∙ e in absurd (cc z));
    }

pub unreachable-requires : goal.unreachable-requires
unreachable-requires c =
    let h = c.loop-k.invariant.has c.loop-k.k c.loop-k-test.true in
    let e = c.in_default.ensures in
    let z = some-injective (Some h.0) None (sym h.1 ∙ e.value) in
    cc z

pub loop-k-preserved : goal.loop-k-preserved
loop-k-preserved c =
    let t = c.in-Some.ensures in
    let p = c.push_reserved.ensures in
    rw (t.others.0, t.others.1, t.others.2, p.items)
    (emptied (FitsLast c.args.self.table.shared.key.net c.args.pass.me.0) c.slot_count-count.result c.loop-k.k
    c.loop-k.closed.slots.items c.loop-k.closed.slots.filled c.loop-k.closed.slots.len c.loop-k.outcomes.items _ _
    c.in-Some.outcome c.loop-k.invariant c.loop-k-test.true t.value (let a = p.capacity in omega arith))

pub returns-clause-published : goal.returns-clause-published
returns-clause-published c = λ s o is. (c.loop-k.invariant.fits s o is).1

pub returns-clause-once : goal.returns-clause-once
returns-clause-once c =
    let key = c.args.self.table.shared.key in
    let final = c.close_with-closed.ensures.values.2 in
    let t = final.0 in
    let h = final.1.0 in
    each-once key.net key.passes h.0 t.words t.homes t.views c.args.pass.id c.args.pass.me.0 c.args.self.tree h.1
    final.1.1 c.requires.last
