use Rattle.front_certificate.proofs.OneReading.{text-once, refusal-once, text-not_refused}
use Rattle.front_certificate.proofs.laws.reading_is_one.Goals as goal

pub returns-clause-text : goal.returns-clause-text
returns-clause-text c = text-once

pub returns-clause-refusal : goal.returns-clause-refusal
returns-clause-refusal c = refusal-once

pub returns-clause-either : goal.returns-clause-either
returns-clause-either c = text-not_refused
