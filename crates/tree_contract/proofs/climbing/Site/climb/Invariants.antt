use Rattle.tree_contract.specs.Turns.{HasTurn, SameNotes}
use Rattle.tree_contract.proofs.climbing.Site.climb.Given as goal

abbrev pub invariant-loop-next : goal.invariant-loop-next
invariant-loop-next g l = HasTurn l.self.counters.now l.turn l.pass × SameNotes l.fn.pass l.pass

abbrev pub decreases-loop-next : goal.decreases-loop-next
decreases-loop-next g l = l.turn
