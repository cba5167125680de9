use Rattle.std.proofs.Common.{sym, ◌∙◌}
use Rattle.file_definitions.specs.Document.{items_of}
use Rattle.toml_fields.proofs.KindLaws.{held-length}
use Rattle.toml_fields.proofs.arrays.Arrays.len.Goals as goal

pub returns : goal.returns
returns c = sym (held-length items_of c.args.self.now.values.now c.args.self.now.arrays)
