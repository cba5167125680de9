use Rattle.std.proofs.Common.{arith}
use Rattle.child_counter.proofs.Joining.{join-shows}
use Rattle.child_counter.proofs.table.Inner.join.Goals as goal

pub join_seat-requires : goal.join_seat-requires
join_seat-requires c = (
  c.requires.belongs.0,
  c.requires.belongs.1,
  c.requires.slots,
  (let a = c.args.self.now.counted in omega arith),
  λ t h at apart at2. (
    h.0,
    join-shows c.args.self.now.table.shared.key.net c.args.self.now.table.shared.key.passes
        h.0 t.words t.homes t.views c.args.pass.now.id c.args.other.id c.args.pass.now.me.0 c.args.other.me.0 h.1 at
        apart at2 c.requires.free.1 c.requires.part,
  ),
)
