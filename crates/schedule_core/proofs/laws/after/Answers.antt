use Rattle.schedule_core.proofs.ClaimLaws.{claimed_once}
use Rattle.schedule_core.proofs.laws.after.Goals as goal

pub returns-clause-once : goal.returns-clause-once
returns-clause-once c = claimed_once c.args.tree.now c.args.events.now c.loop-event.invariant.0.tree
