use Rattle.std.proofs.Common.{arith}
use Rattle.child_counter.proofs.Joining.{split-shows}
use Rattle.child_counter.proofs.table.Inner.split.Goals as goal

pub split_seat-requires : goal.split_seat-requires
split_seat-requires c = (
  c.requires.belongs,
  (let a = c.args.self.now.counted in let b = c.requires.belongs in omega arith),
  λ t h at. (
    h.0,
    split-shows c.args.self.now.table.shared.key.net c.args.self.now.table.shared.key.passes h.0 t.words
        t.homes t.views c.args.pass.now.id c.args.pass.now.me.0 h.1 at c.requires.parts,
  ),
)
