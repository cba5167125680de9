use Rattle.schedule_core.specs.CoreFields.{IsCoreOf}
use Rattle.room_tests.proofs.schedule.told.Given as goal

abbrev pub invariant-loop-line : goal.invariant-loop-line
invariant-loop-line l = IsCoreOf l.fn.tree l.core
