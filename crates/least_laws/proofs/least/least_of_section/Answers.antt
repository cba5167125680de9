use Rattle.least_laws.proofs.Leasts.{least_of_section}
use Rattle.least_laws.proofs.least.least_of_section.Goals as goal

pub returns : goal.returns
returns c = least_of_section
