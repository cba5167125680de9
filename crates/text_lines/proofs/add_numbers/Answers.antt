use Rattle.std.proofs.Common.{arith}
use Rattle.std.proofs.lemmas.Grind.{common_steps}
use Rattle.duct_units.specs.Lines.{line}
use Rattle.text_lines.proofs.add_numbers.Goals as goal

pub loop-n-init : goal.loop-n-init
unfolding line
loop-n-init c = grind (arith, common_steps)
