use Rattle.duct_definitions.specs.Tree.{section_count}
use Rattle.design_check.specs.Verdicts.{name_agrees}
use Rattle.design_check.proofs.NumberSearch.{AllBelow}
use Rattle.design_check.proofs.names.section_names_agree.Given as goal

abbrev pub invariant-loop-s : goal.invariant-loop-s
invariant-loop-s l = AllBelow (name_agrees l.net l.listed) (section_count l.net.tree) l.s
