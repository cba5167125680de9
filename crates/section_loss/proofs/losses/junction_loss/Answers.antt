use Rattle.std.proofs.Common.{ap, option_copied}
use Rattle.section_loss.proofs.losses.junction_loss.Goals as goal

pub junction_loss_beside-requires-clause-beside : goal.junction_loss_beside-requires-clause-beside
junction_loss_beside-requires-clause-beside c = c.requires.beside c.in-Some-beside.beside.now (ap option_copied c.in-Some-beside.is)
