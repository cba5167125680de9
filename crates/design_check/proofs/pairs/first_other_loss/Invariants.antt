use Rattle.std.proofs.Common.{not}
use Rattle.duct_definitions.specs.Tree.{section_count}
use Rattle.design_check.specs.Verdicts.{loss_agrees}
use Rattle.design_check.proofs.NumberSearch.{NotBelow}
use Rattle.design_check.proofs.pairs.first_other_loss.Given as goal

abbrev pub invariant-loop-s : goal.invariant-loop-s
invariant-loop-s l = NotBelow (λ s. not (loss_agrees l.net l.listed s)) (section_count l.net.tree) l.s
