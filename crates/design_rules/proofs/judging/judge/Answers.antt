use Rattle.std.proofs.Common.{length, refl, arith, sym}
use Rattle.std.proofs.lemmas.Option.{slice_get_read}
use Rattle.design_rules.proofs.RuleLists.{asked-more, refused-at, has-room, all-asked}
use Rattle.design_rules.proofs.judging.judge.Goals as goal

pub loop-i-init : goal.loop-i-init
loop-i-init g c = record { long = refl; meanings = refl; counts = refl; names = refl; so_far = λ k m l e. absurd (omega arith) }

pub ask-requires : goal.ask-requires
ask-requires g c =
    let long = c.loop-i.invariant.long in
    let at = slice_get_read c.loop-i.rules.items (length c.loop-i.rules.items) c.loop-i.i c.index_mut.result.now refl (omega arith) c.index_mut.ensures.value in
    record { room = has-room _ _ _ _ _ _ _ _ _ c.loop-i.invariant at c.requires.room }

pub loop-i-preserved : goal.loop-i-preserved
loop-i-preserved g c =
    let long = c.loop-i.invariant.long in
    let at = slice_get_read c.loop-i.rules.items (length c.loop-i.rules.items) c.loop-i.i c.index_mut.result.now refl (omega arith) c.index_mut.ensures.value in
    let e = c.if-not-ask.ensures in
    asked-more _ _ _ _ _ _ _ _ c.ask.new.rule c.loop-i.invariant at (sym e.answer) e.meaning e.counted e.label

pub returns-then-not-ask : goal.returns-then-not-ask
returns-then-not-ask g c =
    let long = c.loop-i.invariant.long in
    let at = slice_get_read c.loop-i.rules.items (length c.loop-i.rules.items) c.loop-i.i c.index_mut.result.now refl (omega arith) c.index_mut.ensures.value in
    let e = c.if-not-ask.ensures in
    let r = refused-at _ _ _ _ _ _ _ _ c.ask.new.rule c.loop-i.invariant at (sym e.answer) e.meaning e.counted e.label in
    record { value = r.value; none = r.none; some = r.some; within = r.within; counts = r.counts; same = r.same }

pub returns-clause-value : goal.returns-clause-value
returns-clause-value g c = (all-asked _ _ _ _ _ _ _ c.loop-i.invariant (let long = c.loop-i.invariant.long in let t = c.loop-i-test.false in omega arith)).value

pub returns-clause-none : goal.returns-clause-none
returns-clause-none g c = (all-asked _ _ _ _ _ _ _ c.loop-i.invariant (let long = c.loop-i.invariant.long in let t = c.loop-i-test.false in omega arith)).none
