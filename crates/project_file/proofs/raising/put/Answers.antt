use Rattle.std.proofs.Common.{◌∙◌, ap}
use Rattle.toml.specs.View.{members_view, table_view, view}
use Rattle.project_file.specs.Raised.{with_member}
use Rattle.project_file.proofs.RaisedLaws.{inserted}
use Rattle.project_file.proofs.raising.put.Goals as goal

pub returns : goal.returns
returns c =
    ap members_view c.in_ok-insert.ensures.entries ∙ inserted c.in_ok-key.key c.args.value c.args.table.now.entries
    ∙ ap (λ name. with_member name (view c.args.value) (table_view c.args.table.now)) c.in_ok-key.ensures.ok
