use Rattle.std.proofs.Common.{◌≡◌, take}
use Rattle.project_file.specs.Sections.{rows_of}
use Rattle.project_file.proofs.reading.row_parts.Given as goal

abbrev pub invariant-loop-section : goal.invariant-loop-section
invariant-loop-section l = l.rows.items ≡ rows_of l.limits (take l.section-index l.sections)
