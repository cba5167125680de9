use Rattle.std.proofs.Common.{◌≡◌, ◌∙◌, Some, eq-eqb, string_bytes, ap, arith}
use Rattle.std.proofs.lemmas.Str.{IsUtf8-string_bytes, utf8_valid_len-IsUtf8}
use Rattle.toml.specs.Parse.{parse_document}
use Rattle.toml.specs.View.{table_view}
use Rattle.file_definitions.specs.Document.{document_of}
use Rattle.project_file.proofs.migration.printed.Goals as goal

pub returns-in-Ok : goal.returns-in-Ok
returns-in-Ok c =
    let text = c.in-Ok.text in
    let parsed : parse_document (string_bytes text) ≡ Some (table_view c.args.document.now) = c.in-Ok.ensures.reads_back (omega arith) in
    let document : document_of (string_bytes text) ≡ Some (table_view c.args.document.now) = rw (eq-eqb _ _ (utf8_valid_len-IsUtf8 (string_bytes text) (IsUtf8-string_bytes text))) parsed in
    let same = c.from_vec.ensures ∙ ap (λ v. v.items) c.into_bytes.ensures.value in
    ap document_of same ∙ document
