use Rattle.std.proofs.Common.{sym, subst}
use Rattle.steal_pool.specs.Deals.{IsDealt}
use Rattle.steal_pool.proofs.Connecting.{dealt, dealt-once}
use Rattle.steal_pool.proofs.dealing.deal.Goals as goal

pub returns-clause-dealt : goal.returns-clause-dealt
returns-clause-dealt c =
    let s = c.in_ok-hands.ensures in
    let d = c.in_ok-connect.ensures in
    subst (IsDealt c.args.tasks.now c.args.n) (sym c.from_vec.ensures)
    (dealt c.args.tasks.now c.args.n c.in_ok-hands.hands.items c.connect.new.hands.items s.count s.starts d.same d.deal)

pub returns-clause-once : goal.returns-clause-once
returns-clause-once c =
    let s = c.in_ok-hands.ensures in
    let d = c.in_ok-connect.ensures in
    dealt-once c.args.tasks.now c.args.n c.from_vec.result c.requires.0
    (subst (IsDealt c.args.tasks.now c.args.n) (sym c.from_vec.ensures)
    (dealt c.args.tasks.now c.args.n c.in_ok-hands.hands.items c.connect.new.hands.items s.count s.starts d.same d.deal))
