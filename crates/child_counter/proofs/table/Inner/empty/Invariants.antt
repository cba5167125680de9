use Rattle.std.specs.Vec.{vec_capacity}
use Rattle.child_counter.proofs.Closing.{Emptying, FitsLast}
use Rattle.child_counter.proofs.table.Inner.empty.Given as goal

abbrev pub invariant-loop-k : goal.invariant-loop-k
invariant-loop-k l = Emptying (FitsLast l.fn.self.table.shared.key.net l.fn.pass.me.0) l.count l.k
    l.closed.slots.items l.closed.slots.filled l.closed.slots.len l.outcomes.items (vec_capacity l.outcomes)
