use Rattle.std.proofs.Common.{sym, rules}
use Rattle.toml.specs.View.{table_view}
use Rattle.duct_units.specs.declared.fault.ReadError.TheVariants.{Refused}
use Rattle.section_tables.proofs.SequenceLaws.{stops_as, stops_gives, given}
use Rattle.section_tables.proofs.StepLaws.{read_err}
use Rattle.project_file.specs.ProjectFile.{project_in, project_rules, section_rules_of, sections_of}
use Rattle.project_file.specs.TableEntries.{top_entry}
use Rattle.project_file.specs.TopTable.{top_in}
use Rattle.project_file.proofs.OrderLaws.{at_rest, at_sections, at_top}
use Rattle.project_file.proofs.reading.project_in.Goals as goal

pub returns-in-Err-clause-value : goal.returns-in-Err-clause-value
returns-in-Err-clause-value c =
    let doc = table_view c.args.document.now in
    stops_gives (Refused c.in-Err.fault) (project_rules doc) (project_in doc) (at_top (Refused c.in-Err.fault) doc (read_err _ _ _ (sym c.in-Err.ensures.value)))

pub returns-in_err-sections-clause-value : goal.returns-in_err-sections-clause-value
returns-in_err-sections-clause-value c =
    let doc = table_view c.args.document.now in
    let error = c.in_err-sections.field-0.0 in
    let top = given _ _ (top_entry c.in-Ok.top) c.in-Ok.ensures.value in
    let stops = stops_as error section_rules_of sections_of (top_entry c.in-Ok.top) (top_in doc) top.1 c.in_err-sections.ensures.value in
    let fails = stops_gives error (project_rules doc) (project_in doc) (at_sections error doc top.0 stops) in
    search (rules, fails)

pub returns-clause-value : goal.returns-clause-value
returns-clause-value c =
    at_rest c.project_with.result (table_view c.args.document.now) (top_entry c.in-Ok.top) c.in_ok-sections.sections.entries.items c.in-Ok.ensures.value c.in_ok-sections.ensures.value c.project_with.ensures.value
