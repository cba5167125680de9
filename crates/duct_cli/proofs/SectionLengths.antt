-- The lengths of a project's sections are within their bound.
use Rattle.std.proofs.Common.{zero, suc, ◌≤◌, List, [], ◌∷◌, map, arith}
use Rattle.std.specs.Prelude.{All}
use Rattle.duct_definitions.specs.declared.duct.TheConstants.{MAX_LENGTH}
use Rattle.project_file.specs.declared.section_row.SectionRow.{SectionRow}
use Rattle.project_file.specs.Projects.{IsRow}

pub lengths_short : (rows : List SectionRow) → All IsRow rows → All (λ n. n ≤ MAX_LENGTH) (map (λ (row : SectionRow). row.length) rows)
lengths_short [] all k d within = absurd (omega (arith, within))
lengths_short (row ∷ rows) all zero d within = (all 0 row (omega arith)).length
lengths_short (row ∷ rows) all (suc k) d within =
    lengths_short rows (λ i e less. all (suc i) e (omega (arith, less))) k d (omega (arith, within))
