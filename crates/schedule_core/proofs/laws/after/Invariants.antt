use Rattle.std.proofs.Common.{◌≡◌, take}
use Rattle.schedule_core.specs.Schedule.{state_after}
use Rattle.schedule_core.specs.CoreFields.{IsCoreOf}
use Rattle.schedule_core.proofs.laws.after.Given as goal

abbrev pub invariant-loop-event : goal.invariant-loop-event
invariant-loop-event l = IsCoreOf l.tree l.core × (l.core.state ≡ state_after l.tree (take l.event-index l.event-items))
