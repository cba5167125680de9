use Rattle.std.proofs.Common.{◌∙◌}
use Rattle.file_definitions.specs.Document.{items_of}
use Rattle.toml_fields.proofs.KindLaws.{all_of-view}
use Rattle.toml_fields.proofs.values.are_arrays.Goals as goal

pub returns : goal.returns
returns c = c.are_arrays_each.ensures ∙ all_of-view items_of c.args.values.now
