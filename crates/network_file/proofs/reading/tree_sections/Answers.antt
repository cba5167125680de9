use Rattle.std.proofs.Common.{◌≤◌, ◌∙◌, ap, arith, length, map}
use Rattle.std.proofs.lemmas.List.{take_all}
use Rattle.network_file.specs.declared.sections.SectionTable.{SectionTable}
use Rattle.network_file.proofs.EntryLaws.{sections_of_tables}
use Rattle.network_file.proofs.reading.tree_sections.Goals as goal

pub returns : goal.returns
returns c =
    let end : length c.args.sections.now ≤ c.loop-section.section-index = omega arith in
    c.loop-section.invariant
    ∙ ap (map (λ (table : SectionTable). table.tree)) (take_all c.loop-section.section-index c.args.sections.now end)
    ∙ sections_of_tables c.args.sections.now
