use Rattle.std.proofs.Common.{sym, subst}
use Rattle.toml.specs.Data.{Members}
use Rattle.toml.specs.View.{table_view}
use Rattle.project_file.specs.Shallow.{AreShallow}
use Rattle.project_file.proofs.RaisedDepths.{raised_nests}
use Rattle.project_file.proofs.migration.migrated.Goals as goal

pub printed-requires : goal.printed-requires
printed-requires c = subst (λ (doc : Members). AreShallow 2 doc) (sym c.in_ok-raised.ensures) (raised_nests (table_view c.args.document) c.nests_twice_at_most.ensures)
