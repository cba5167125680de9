use Rattle.design_text.proofs.ReadLaws.{is_text, is_refusal}
use Rattle.design_text.proofs.reading.read.Goals as goal

pub returns-clause-ok : goal.returns-clause-ok
returns-clause-ok c = is_text _ _ c.fields_of.ensures

pub returns-clause-refused : goal.returns-clause-refused
returns-clause-refused c = is_refusal _ _ c.fields_of.ensures
