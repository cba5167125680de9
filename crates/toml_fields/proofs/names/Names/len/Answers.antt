use Rattle.std.proofs.Common.{sym, ◌∙◌}
use Rattle.file_definitions.specs.Document.{name_in}
use Rattle.toml_fields.proofs.KindLaws.{held-length}
use Rattle.toml_fields.proofs.names.Names.len.Goals as goal

pub returns : goal.returns
returns c = sym (held-length name_in c.args.self.now.values.now c.args.self.now.names)
