use Rattle.schedule_core.specs.Schedule.{at_start}
use Rattle.schedule_core.specs.CoreFields.{AreNumbers}
use Rattle.child_counter.proofs.beginning.section_words.Given as goal

abbrev pub invariant-loop-s : goal.invariant-loop-s
invariant-loop-s l = AreNumbers l.tree at_start l.s l.words.items
