use Rattle.std.proofs.Common.{◌≡◌, map, take}
use Rattle.project_file.specs.declared.section_row.SectionRow.{SectionRow}
use Rattle.project_file.proofs.airflows.leaf_flows.Given as goal

abbrev pub invariant-loop-row : goal.invariant-loop-row
invariant-loop-row l = l.flows.items ≡ map (λ (row : SectionRow). row.airflow) (take l.row-index l.rows)
