use Rattle.std.proofs.Common.{◌∙◌}
use Rattle.toml_fields.proofs.KeyLaws.{has_only-view}
use Rattle.toml_fields.proofs.fields.has_only.Goals as goal

pub returns : goal.returns
returns c = c.are_listed.ensures ∙ has_only-view c.args.keys.now c.args.table.now.entries
