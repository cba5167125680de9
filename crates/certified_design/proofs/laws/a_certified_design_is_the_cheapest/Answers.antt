use Rattle.certified_design.proofs.Findings.{certified-cheapest}
use Rattle.certified_design.proofs.laws.a_certified_design_is_the_cheapest.Goals as goal

pub returns : goal.returns
returns c = certified-cheapest
