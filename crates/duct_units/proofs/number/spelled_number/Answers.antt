use Rattle.std.proofs.Common.{arith}
use Rattle.std.proofs.lemmas.Grind.{common_steps}
use Rattle.duct_units.proofs.WholeLaws.{parsed_whole, whole_of-no_text, whole_of-other}
use Rattle.duct_units.proofs.number.spelled_number.Goals as goal

pub returns-then-not-begins_as_number : goal.returns-then-not-begins_as_number
returns-then-not-begins_as_number c = grind (arith, whole_of-other)

pub returns-in_err-ok : goal.returns-in_err-ok
returns-in_err-ok c = grind (arith, whole_of-no_text)

pub returns : goal.returns
returns c = grind (arith, common_steps, parsed_whole)
