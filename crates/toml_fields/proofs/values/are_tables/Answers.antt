use Rattle.std.proofs.Common.{◌∙◌}
use Rattle.toml_fields.proofs.KeyLaws.{are_tables-view}
use Rattle.toml_fields.proofs.values.are_tables.Goals as goal

pub returns : goal.returns
returns c = c.are_tables_each.ensures ∙ are_tables-view c.args.values.now
