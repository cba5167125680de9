use Rattle.std.proofs.Common.{◌≤◌, ℕ, List, map, ap, sym, subst, ◌∙◌}
use Rattle.std.specs.Prelude.{All}
use Rattle.duct_definitions.specs.declared.duct.TheConstants.{MAX_LENGTH}
use Rattle.project_file.specs.declared.section_row.SectionRow.{SectionRow}
use Rattle.duct_cli.proofs.SectionLengths.{lengths_short}
use Rattle.duct_cli.proofs.taking_off.answer_listed.Goals as goal

pub takeoff-requires-clause-lengths : goal.takeoff-requires-clause-lengths
takeoff-requires-clause-lengths c =
    subst (λ (lengths : List ℕ). All (λ n. n ≤ MAX_LENGTH) lengths)
    (sym (c.in_ok-lengths.ensures ∙ ap (λ (rows : List SectionRow). map (λ row. row.length) rows) c.as_slice-2.ensures))
    (lengths_short c.args.project.now.sections c.requires.rows)
