use Rattle.std.proofs.Common.{length, refl, arith}
use Rattle.std.proofs.lemmas.Option.{slice_get_read}
use Rattle.net_build.proofs.AddedLaws.{refusal-added, none-added, count-at}
use Rattle.net_build.proofs.AskedLaws.{asked-one}
use Rattle.net_build.proofs.asking.ask.Goals as goal

pub overflow_add-index_mut : goal.overflow_add-index_mut
overflow_add-index_mut g c =
    let n = c.requires.long in
    let w = c.in-Some.ensures.within in
    let at = slice_get_read c.args.refusals.now.items (length c.args.refusals.now.items) c.in-Some.i c.index_mut.result.now refl (omega arith) c.index_mut.ensures.value in
    let e = count-at c.args.refusals.now.items c.in-Some.i c.index_mut.result.now at in
    let s = c.requires.space c.in-Some.i in
    omega arith

pub returns-in-Some-clause-refusals : goal.returns-in-Some-clause-refusals
returns-in-Some-clause-refusals g c =
    let n = c.requires.long in
    let w = c.in-Some.ensures.within in
    let at = slice_get_read c.args.refusals.now.items (length c.args.refusals.now.items) c.in-Some.i c.index_mut.result.now refl (omega arith) c.index_mut.ensures.value in
    refusal-added _ _ c.in-Some.i c.args.refusals.now.items c.index_mut.result.now c.in-Some.ensures.some at

pub returns-in-Some-clause-asked : goal.returns-in-Some-clause-asked
returns-in-Some-clause-asked g c = asked-one _ _ _ _ _ _ c.judge.ensures.same c.judge.ensures.counts

pub returns-in-None-clause-refusals : goal.returns-in-None-clause-refusals
returns-in-None-clause-refusals g c = none-added _ _ _ (c.in-None.ensures.none.0 refl)
