use Rattle.std.proofs.Common.{◌≡◌, map, take}
use Rattle.project_file.specs.declared.section_row.SectionRow.{SectionRow}
use Rattle.duct_cli.proofs.taking_off.lengths_of.Given as goal

-- those of the sections so far
abbrev pub invariant-loop-row : goal.invariant-loop-row
invariant-loop-row l = l.lengths.items ≡ map (λ (row : SectionRow). row.length) (take l.row-index l.sections)
