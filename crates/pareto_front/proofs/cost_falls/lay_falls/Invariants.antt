use Rattle.pareto_front.proofs.FallsLaid.{IsLaidFrom}
use Rattle.pareto_front.proofs.cost_falls.lay_falls.Given as goal

abbrev pub invariant-loop-i : goal.invariant-loop-i
invariant-loop-i l = IsLaidFrom l.fn.falls l.falls l.points l.fn.first.need l.fn.cost l.i l.before
