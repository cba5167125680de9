use Rattle.front_certificate.proofs.OneJudgement.{judged-once}
use Rattle.front_certificate.proofs.laws.judgement_is_one.Goals as goal

pub returns : goal.returns
returns c = judged-once
