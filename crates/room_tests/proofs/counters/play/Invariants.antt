use Rattle.child_counter.specs.Public.{Belongs}
use Rattle.room_tests.proofs.counters.play.Given as goal

abbrev pub invariant-loop-line : goal.invariant-loop-line
invariant-loop-line l = Belongs l.counters l.a × Belongs l.counters l.b
