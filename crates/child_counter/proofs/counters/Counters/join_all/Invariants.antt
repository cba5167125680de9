use Rattle.std.proofs.Common.{◌≡◌, ◌<◌, ◌≤◌, ◌+◌, length, vec_len}
use Rattle.std.specs.Vec.{vec_capacity}
use Rattle.std.specs.Vec.Iter.{into_iter_items, into_iter_len}
use Rattle.child_counter.proofs.Taking.{Taking}
use Rattle.child_counter.proofs.counters.Counters.join_all.Given as goal

abbrev pub invariant-loop-pass : goal.invariant-loop-pass
invariant-loop-pass l =
    Taking l.fn.self l.initial.seat.me.0 (into_iter_items l.initial.pass-iterator) l.yielded
    (into_iter_items l.pass-iterator) l.seat.me.0 l.initial.lists.items l.lists.items
    × (into_iter_len l.pass-iterator ≡ length (into_iter_items l.pass-iterator))
    × (l.seat.table_id ≡ l.initial.seat.table_id)
    × (vec_len l.lists ≡ vec_len l.initial.lists + length l.yielded)
    × (vec_capacity l.initial.lists ≤ vec_capacity l.lists)
    × (0 < l.seat.me.0.parts)
