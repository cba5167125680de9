use Rattle.std.proofs.Common.{◌≡◌, take}
use Rattle.project_file.specs.Sections.{tree_sections}
use Rattle.project_file.proofs.reading.tree_parts.Given as goal

abbrev pub invariant-loop-section : goal.invariant-loop-section
invariant-loop-section l = l.parts.items ≡ tree_sections (take l.section-index l.sections)
