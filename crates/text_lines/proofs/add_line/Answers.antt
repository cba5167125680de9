use Rattle.std.proofs.Common.{arith}
use Rattle.std.proofs.lemmas.Grind.{common_steps}
use Rattle.duct_units.specs.Lines.{line}
use Rattle.text_lines.proofs.add_line.Goals as goal

pub loop-word-init : goal.loop-word-init
unfolding line
loop-word-init c = grind (arith, common_steps)
