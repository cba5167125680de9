use Rattle.std.proofs.Common.{◌≡◌, map, take}
use Rattle.project_file.specs.declared.section_row.SectionRow.{SectionRow}
use Rattle.duct_cli.proofs.taking_off.names_of.Given as goal

-- those of the sections so far
abbrev pub invariant-loop-row : goal.invariant-loop-row
invariant-loop-row l = l.names.items ≡ map (λ (row : SectionRow). row.name) (take l.row-index l.sections)
