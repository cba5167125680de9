use Rattle.std.proofs.Common.{sym, arith, subst}
use Rattle.std.proofs.lemmas.Result.{IfOk-weaker}
use Rattle.steal_pool.specs.Deals.{OfOneDeal}
use Rattle.steal_pool.proofs.Runs.{dealt-shares, same-hands, some-hand}
use Rattle.steal_pool.proofs.laws.tasks_come_out_as_often_as_dealt.Goals as goal

pub gather-requires-clause-deal : goal.gather-requires-clause-deal
gather-requires-clause-deal g c =
    let v = c.into_vec-hands.result in
    let same = same-hands v.len c.in_ok-deal.field-0 v.items c.as_mut_slice.result.now c.take_all.new.hands c.from_vec.result
    c.into_vec-hands.ensures c.as_mut_slice.ensures.value (let a = v.ok.0 in omega arith) c.take_all.auto.hands
    c.take_all.ensures c.from_vec.ensures in
    subst OfOneDeal (sym same) c.in_ok-deal.ensures.dealt.one_deal

pub gather-requires-clause-some : goal.gather-requires-clause-some
gather-requires-clause-some g c =
    let v = c.into_vec-hands.result in
    let same = same-hands v.len c.in_ok-deal.field-0 v.items c.as_mut_slice.result.now c.take_all.new.hands c.from_vec.result
    c.into_vec-hands.ensures c.as_mut_slice.ensures.value (let a = v.ok.0 in omega arith) c.take_all.auto.hands
    c.take_all.ensures c.from_vec.ensures in
    some-hand c.from_vec.result c.in_ok-deal.field-0 c.args.n same c.in_ok-deal.ensures.count c.requires.0

pub returns : goal.returns
returns g c =
    let v = c.into_vec-hands.result in
    let same = same-hands v.len c.in_ok-deal.field-0 v.items c.as_mut_slice.result.now c.take_all.new.hands c.from_vec.result
    c.into_vec-hands.ensures c.as_mut_slice.ensures.value (let a = v.ok.0 in omega arith) c.take_all.auto.hands
    c.take_all.ensures c.from_vec.ensures in
    IfOk-weaker c.gather.result _ _
    (λ gathered once. once c.args.tasks.now
    (dealt-shares c.args.tasks.now c.args.n c.in_ok-deal.field-0 c.from_vec.result c.in_ok-deal.ensures.dealt same))
    c.gather.ensures.once
