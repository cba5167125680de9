use Rattle.std.proofs.Common.{◌≡◌, ◌≤◌, ◌+◌, ◌-◌, [], length}
use Rattle.std.specs.Prelude.{All}
use Rattle.child_counter.specs.Passes.{fresh_view}
use Rattle.child_counter.specs.Public.{IsNew}
use Rattle.child_counter.proofs.counters.Counters.hand_out.Given as goal

abbrev pub invariant-loop : goal.invariant-loop
invariant-loop l =
    (l.seat.table_id ≡ l.fn.self.id)
    × (l.seat.me ≡ (fresh_view l.fn.self.net (l.passes + 1 - l.counter), []))
    × All (IsNew l.fn.self) l.all.items
    × (length l.all.items + 1 ≡ l.counter)
    × (1 ≤ l.counter)
