use Rattle.std.proofs.Common.{◌∙◌, sym, ap, is_some}
use Rattle.toml.specs.View.{view}
use Rattle.toml.proofs.Views.{table_get}
use Rattle.toml_fields.proofs.KindLaws.{is_some-map}
use Rattle.toml_fields.proofs.fields.has_key.Goals as goal

pub returns : goal.returns
returns c =
    c.is_some.ensures
    ∙ sym (is_some-map (λ v. view v.now) c.get.result)
    ∙ ap is_some (table_get c.get.result c.args.key.now c.args.table.now.entries c.get.ensures.value)
