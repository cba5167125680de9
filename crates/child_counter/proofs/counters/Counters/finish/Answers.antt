use Rattle.std.proofs.Common.{◌≡◌, ◌++◌, ◌∷◌, [], length, ap, arith}
use Rattle.std.proofs.lemmas.List.{length_push, length-map}
use Rattle.contract_join.specs.Outcomes.{section_of}
use Rattle.child_counter.specs.declared.view.PassView.{PassView}
use Rattle.child_counter.proofs.Room.{own-few}
use Rattle.child_counter.proofs.counters.Counters.finish.Goals as goal

pub push_reserved-requires : goal.push_reserved-requires
push_reserved-requires c =
    let v : PassView = c.pass.inside.seat.me.0 in
    let w : PassView = c.count_down-next.new.seat.me.0 in
    let few = own-few v w _ _ c.count_down-next.ensures.event in
    let own : w.own ≡ v.own ++ c.args.outcome ∷ [] = ap (λ m. m.0.own) c.count_down-next.ensures.me in
    let more : length w.own ≡ length (v.own ++ c.args.outcome ∷ []) = ap length own in
    let a = length_push v.own c.args.outcome in
    let b = length-map v.own section_of in
    let d = ap length c.pass.invariant.own_is in
    let e = c.pass.invariant.roomy in
    let f = c.pass.inside.finished.ok.0 in
    omega arith
