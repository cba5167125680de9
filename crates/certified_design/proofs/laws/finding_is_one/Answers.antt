use Rattle.certified_design.proofs.Findings.{found-once}
use Rattle.certified_design.proofs.laws.finding_is_one.Goals as goal

pub returns : goal.returns
returns c = found-once
