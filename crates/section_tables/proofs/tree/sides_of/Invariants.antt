use Rattle.std.proofs.Common.{◌≡◌, map, take}
use Rattle.section_tables.specs.declared.tree_section.TreeSection.{TreeSection}
use Rattle.section_tables.proofs.tree.sides_of.Given as goal

abbrev pub invariant-loop-section : goal.invariant-loop-section
invariant-loop-section l = l.sides.items ≡ map (λ (section : TreeSection). section.side) (take l.section-index l.sections)
