use Rattle.std.proofs.Common.{◌≡◌, ◌<◌, ℕ}
use Rattle.std.specs.Prelude.{IsTrue}
use Rattle.duct_definitions.specs.Tree.{is_leaf}
use Rattle.schedule_core.specs.Schedule.{is_in}
use Rattle.child_counter.specs.Public.{Belongs}
use Rattle.room_tests.proofs.counters.note_all.Given as goal

abbrev pub invariant-loop-s : goal.invariant-loop-s
invariant-loop-s l =
    Belongs l.counters l.worker
    × ((x : ℕ) → x < l.s → IsTrue (is_leaf l.net.tree x) → IsTrue (is_in l.worker.view.noted x))
