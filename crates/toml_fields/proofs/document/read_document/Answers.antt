use Rattle.std.proofs.Common.{◌≡◌, length, eq-eqb, ap, ◌∙◌, sym, subst, Some}
use Rattle.std.proofs.lemmas.Str.{utf8_valid_len-IsUtf8}
use Rattle.toml.specs.Parse.{parse_document}
use Rattle.toml.specs.View.{table_view}
use Rattle.std.specs.Str.Lossy.{utf8_valid_len}
use Rattle.toml_fields.proofs.document.read_document.Goals as goal

pub returns-in-Ok-table_from_str-clause-value : goal.returns-in-Ok-table_from_str-clause-value
returns-in-Ok-table_from_str-clause-value c =
    let parsed : parse_document c.args.bytes.now ≡ Some (table_view c.in-Ok-table_from_str.table) = rw (← c.in-Ok.ensures.cases.0) c.in-Ok-table_from_str.ensures.ok in
    rw (eq-eqb _ _ (utf8_valid_len-IsUtf8 c.args.bytes.now c.in-Ok.ensures.cases.1)) parsed
