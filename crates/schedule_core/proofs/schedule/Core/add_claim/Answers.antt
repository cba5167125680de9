use Rattle.std.proofs.Common.{arith}
use Rattle.schedule_core.specs.declared.events.Event.TheVariants.{Claim}
use Rattle.schedule_core.specs.CoreInside.{data_of}
use Rattle.schedule_core.proofs.Steps.{opened, own_claimed, claim_room}
use Rattle.schedule_core.proofs.schedule.Core.add_claim.Goals as goal

pub push_reserved-requires : goal.push_reserved-requires
push_reserved-requires c =
    let (own, accepted) = opened c.args.tree.now c.self.inside _ (Claim c.args.leaf) c.self.view_is c.requires.own
    c.requires.accepted in
    let room = claim_room c.args.tree.now (data_of c.self.inside) c.args.leaf own accepted in
    let count = own.numbers.count_is in
    let has = c.self.invariant.claimed in
    let long = c.self.inside.claimed.ok.0 in
    omega arith

pub returns-clause-own : goal.returns-clause-own
returns-clause-own c =
    let (own, accepted) = opened c.args.tree.now c.self.inside _ (Claim c.args.leaf) c.self.view_is c.requires.own
    c.requires.accepted in
    rw c.push_reserved.ensures.items (own_claimed c.args.tree.now (data_of c.self.inside) c.args.leaf own accepted)
