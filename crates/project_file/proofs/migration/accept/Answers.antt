use Rattle.std.proofs.Common.{Some}
use Rattle.toml.specs.View.{table_view}
use Rattle.section_tables.proofs.SequenceLaws.{given, stops_from, stops_gives}
use Rattle.project_file.specs.ProjectFile.{project_in, project_rules}
use Rattle.project_file.specs.Raised.{raised}
use Rattle.project_file.proofs.migration.accept.Goals as goal

pub returns-in-Ok-clause-rules : goal.returns-in-Ok-clause-rules
returns-in-Ok-clause-rules c = (given _ _ _ c.in-Ok.ensures.value).0

pub returns-in-Err-clause-refused : goal.returns-in-Err-clause-refused
returns-in-Err-clause-refused c =
    let doc = table_view c.args.document.now in
    stops_gives c.in-Err.error (project_rules doc) (Some (raised doc)) (stops_from c.in-Err.error (project_rules doc) (project_in doc) c.in-Err.ensures.value)
