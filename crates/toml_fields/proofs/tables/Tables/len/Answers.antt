use Rattle.std.proofs.Common.{sym, ◌∙◌}
use Rattle.toml.specs.Data.{as_table}
use Rattle.toml_fields.proofs.KindLaws.{held-length}
use Rattle.toml_fields.proofs.tables.Tables.len.Goals as goal

pub returns : goal.returns
returns c = sym (held-length as_table c.args.self.now.values.now c.args.self.now.tables)
