use Rattle.std.proofs.Common.{◌≡◌, ◌<◌, ◌+◌, ◌++◌, length, map, drop, get_or, List, sym, ap, ◌∙◌, append_assoc, arith}
use Rattle.friction_table.specs.declared.row.FlowRate.{FlowRate}
use Rattle.friction_maker.specs.declared.making.MadeRow.{MadeRow}
use Rattle.friction_maker.specs.MadeRows.{made_row, listed_from}
use Rattle.friction_maker.proofs.OrderLaws.{listed-step}
use Rattle.friction_maker.proofs.tables.Tables.rows.Goals as goal

pub loop-size-preserved : goal.loop-size-preserved
loop-size-preserved c =
    let rest = listed_from (c.loop-size.size + 1) (drop (c.loop-size.size + 1) c.args.self.now) in
    let inside : c.loop-size.size < length c.args.self.now = omega (arith, c.loop-size-test.true, c.len-size-end.ensures, ap length c.self.view_is) in
    let at : c.index.result.now ≡ get_or c.args.self.now c.loop-size.size c.index.result.now =
    c.index.ensures ∙ ap (λ (tables : List (List FlowRate)). get_or tables c.loop-size.size c.index.result.now) c.self.view_is in
    let rows : List MadeRow = map (λ at. made_row c.loop-size.size at) c.index.result.now in
    let added : c.loop-size.rows.items ++ rows ≡ c.add_rows.new.rows.items =
    sym (c.in_ok-add_rows.ensures ∙ ap (λ (table : List FlowRate). c.loop-size.rows.items ++ map (λ at. made_row c.loop-size.size at) table) c.as_slice.ensures) in
    c.loop-size.invariant
    ∙ ap (λ more. c.loop-size.rows.items ++ more) (listed-step c.args.self.now c.loop-size.size c.index.result.now inside at)
    ∙ sym (append_assoc c.loop-size.rows.items rows rest)
    ∙ ap (λ more. more ++ rest) added
