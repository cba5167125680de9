use Rattle.std.proofs.Common.{sym, List, ◌<◌, length, subst}
use Rattle.std.specs.Prelude.{IsTrue}
use Rattle.friction_table.specs.declared.row.FlowRate.{FlowRate}
use Rattle.friction_table.specs.declared.limits.TheConstants.{MAX_ROWS}
use Rattle.friction_table.specs.Rates.{IsTable, may_follow}
use Rattle.friction_table.proofs.TableLaws.{IsTable-push}
use Rattle.friction_table.proofs.table.RateTable.push.Goals as goal

pub invariant_of-self-2 : goal.invariant_of-self-2
invariant_of-self-2 c =
    let room : length c.self.inside.rows.items < MAX_ROWS = subst (λ (rows : List FlowRate). length rows < MAX_ROWS) (sym c.self.view_is) c.requires.room in
    let order : IsTrue (may_follow c.self.inside.rows.items c.args.row) = subst (λ (rows : List FlowRate). IsTrue (may_follow rows c.args.row)) (sym c.self.view_is) c.requires.order in
    subst IsTable (sym c.in_ok-push.ensures.items) (IsTable-push c.self.inside.rows.items c.args.row c.self.invariant room order c.requires.bounds)
