use Rattle.std.proofs.Common.{◌≡◌, ◌∙◌, ap, sym, arith}
use Rattle.duct_definitions.specs.Tree.{neighbour}
use Rattle.schedule_core.specs.declared.events.Event.TheVariants.{Finish}
use Rattle.schedule_core.specs.CoreFields.{one_less}
use Rattle.schedule_core.specs.CoreInside.{data_of}
use Rattle.schedule_core.proofs.Steps.{refilled, opened, own_finished, finish_room, neighbour_open, next_finished}
use Rattle.schedule_core.proofs.schedule.Core.add_finish.Goals as goal

pub push_reserved-requires : goal.push_reserved-requires
push_reserved-requires c =
    let (own, accepted) = opened c.args.tree.now c.self.inside _ (Finish c.args.s) c.self.view_is c.requires.own
    c.requires.accepted in
    let room = finish_room c.args.tree.now (data_of c.self.inside) c.args.s own accepted in
    let count = own.numbers.count_is in
    let has = c.self.invariant.done in
    let long = c.self.inside.done.ok.0 in
    omega arith

pub count_down-requires : goal.count_down-requires
count_down-requires c =
    let (own, accepted) = opened c.args.tree.now c.self.inside _ (Finish c.args.s) c.self.view_is c.requires.own
    c.requires.accepted in
    rw (c.neighbour.ensures.value, c.deref_mut.ensures.value)
    (neighbour_open c.args.tree.now (data_of c.self.inside) c.args.s own accepted)

pub returns-clause-own : goal.returns-clause-own
returns-clause-own c =
    let (own, accepted) = opened c.args.tree.now c.self.inside _ (Finish c.args.s) c.self.view_is c.requires.own
    c.requires.accepted in
    let numbers : c.count_down.new.numbers ≡ one_less (neighbour c.args.tree.now c.args.s) c.self.inside.numbers.items =
    c.count_down.ensures.numbers
    ∙ ap (λ o. one_less o c.deref_mut.result.now) c.neighbour.ensures.value
    ∙ ap (one_less (neighbour c.args.tree.now c.args.s)) c.deref_mut.ensures.value in
    let written = refilled c.self.inside.numbers.len c.self.inside.numbers.items c.count_down.new.numbers
    (neighbour c.args.tree.now c.args.s) (sym c.self.inside.numbers.ok.0) numbers in
    rw (c.push_reserved.ensures.items, written)
    (own_finished c.args.tree.now (data_of c.self.inside) c.args.s own accepted)

pub returns-clause-next : goal.returns-clause-next
returns-clause-next c =
    let (own, accepted) = opened c.args.tree.now c.self.inside _ (Finish c.args.s) c.self.view_is c.requires.own
    c.requires.accepted in
    rw (c.push_reserved.ensures.items, c.count_down.ensures.next, c.count_down.ensures.numbers, c.neighbour.ensures.value, c.deref_mut.ensures.value)
    (next_finished c.args.tree.now (data_of c.self.inside) c.args.s own accepted)
