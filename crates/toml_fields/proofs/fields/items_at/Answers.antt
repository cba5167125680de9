use Rattle.std.proofs.Common.{◌∙◌, sym, ap, Some, option_map}
use Rattle.toml.specs.View.{view}
use Rattle.file_definitions.specs.Document.{list_of}
use Rattle.toml_fields.proofs.KeyLaws.{list_of-view}
use Rattle.toml_fields.proofs.fields.items_at.Goals as goal

pub returns-in-Some : goal.returns-in-Some
returns-in-Some c = rw (c.as_slice.ensures.value, ← list_of-view c.in-Some.items.now.items) (ap (option_map list_of) c.in-Some.ensures)

pub returns-in-None : goal.returns-in-None
returns-in-None c = ap (option_map list_of) c.in-None.ensures
