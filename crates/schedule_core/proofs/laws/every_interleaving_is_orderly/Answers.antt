use Rattle.schedule_core.proofs.OrderlyLaws.{orderly_after}
use Rattle.schedule_core.proofs.ClaimLaws.{claimed_once}
use Rattle.schedule_core.proofs.laws.every_interleaving_is_orderly.Goals as goal

pub returns-clause-orderly : goal.returns-clause-orderly
returns-clause-orderly c = orderly_after

pub returns-clause-once : goal.returns-clause-once
returns-clause-once c = claimed_once
