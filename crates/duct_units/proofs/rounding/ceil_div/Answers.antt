use Rattle.std.proofs.Common.{arith}
use Rattle.std.proofs.lemmas.Grind.{common_steps}
use Rattle.duct_units.proofs.CeilingLaws.{is_ceiling}
use Rattle.duct_units.proofs.rounding.ceil_div.Goals as goal

pub returns-then-n-d-gt0-clause-value : goal.returns-then-n-d-gt0-clause-value
returns-then-n-d-gt0-clause-value c = grind (arith, common_steps)

pub returns-then-n-d-gt0-clause-ceiling : goal.returns-then-n-d-gt0-clause-ceiling
returns-then-n-d-gt0-clause-ceiling c = is_ceiling _ _ _ c.requires (returns-then-n-d-gt0-clause-value c)

pub returns-else-n-d-gt0-clause-ceiling : goal.returns-else-n-d-gt0-clause-ceiling
returns-else-n-d-gt0-clause-ceiling c = is_ceiling _ _ _ c.requires (grind (arith, common_steps))
