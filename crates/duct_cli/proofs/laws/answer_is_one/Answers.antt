use Rattle.duct_cli.proofs.AnswerLaws.{answer_once}
use Rattle.duct_cli.proofs.laws.answer_is_one.Goals as goal

pub returns : goal.returns
returns c = answer_once
