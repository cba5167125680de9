use Rattle.fitting_tables.proofs.PairLaws.{holds_on_pairs}
use Rattle.fitting_tables.proofs.laws.on_a_breakpoint_pair.Goals as goal

pub returns : goal.returns
returns c = holds_on_pairs
