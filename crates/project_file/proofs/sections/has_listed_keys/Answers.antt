use Rattle.std.proofs.Common.{◌∙◌, sym, ap}
use Rattle.toml.specs.View.{table_view}
use Rattle.file_definitions.specs.Document.{has_only}
use Rattle.project_file.specs.SectionTables.{section_keys}
use Rattle.project_file.proofs.sections.has_listed_keys.Goals as goal

pub returns-in-One : goal.returns-in-One
returns-in-One c = c.has_only.ensures ∙ sym (ap (λ format. has_only (section_keys format) (table_view c.args.table.now)) c.in-One.is)

pub returns-in-Two : goal.returns-in-Two
returns-in-Two c = c.has_only-in-Two.ensures ∙ sym (ap (λ format. has_only (section_keys format) (table_view c.args.table.now)) c.in-Two.is)
