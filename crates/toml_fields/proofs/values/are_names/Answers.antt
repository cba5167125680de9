use Rattle.std.proofs.Common.{◌∙◌}
use Rattle.file_definitions.specs.Document.{name_in}
use Rattle.toml_fields.proofs.KindLaws.{all_of-view}
use Rattle.toml_fields.proofs.values.are_names.Goals as goal

pub returns : goal.returns
returns c = c.are_names_each.ensures ∙ all_of-view name_in c.args.values.now
