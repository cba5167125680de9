use Rattle.std.proofs.Common.{◌≡◌, map, take}
use Rattle.network_file.specs.declared.sections.SectionTable.{SectionTable}
use Rattle.network_file.proofs.reading.tree_sections.Given as goal

abbrev pub invariant-loop-section : goal.invariant-loop-section
invariant-loop-section l = l.in_tree.items ≡ map (λ (table : SectionTable). table.tree) (take l.section-index l.sections)
