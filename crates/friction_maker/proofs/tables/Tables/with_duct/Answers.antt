use Rattle.std.proofs.Common.{◌≡◌, ◌<◌, ◌≤◌, ◌∙◌, length, true, sym, ap, subst, arith, List}
use Rattle.std.specs.Prelude.{sum_by}
use Rattle.friction_table.specs.declared.row.FlowRate.{FlowRate}
use Rattle.friction_maker.specs.Making.{AreMade, are_low}
use Rattle.friction_maker.proofs.TableLaws.{more_made, grows, open_is}
use Rattle.friction_maker.proofs.tables.Tables.with_duct.Goals as goal

pub returns-clause-made : goal.returns-clause-made
returns-clause-made c =
    let inside : c.in-Some.size < length c.args.self = omega (arith, c.in-Some.ensures.within, c.requires.made.all) in
    let low : are_low c.in_ok-table.table ≡ true = ap are_low (sym c.as_slice.ensures) ∙ sym c.are_low.ensures ∙ c.if-not-are_low.false in
    subst (AreMade c.args.sizes.now c.args.air) (sym c.with_table.ensures)
    (more_made c.args.sizes.now c.args.air c.args.self c.in-Some.size c.in_ok-table.table c.requires.made inside (c.in_ok-table.ensures.made low))

pub returns-clause-grows : goal.returns-clause-grows
returns-clause-grows c =
    let inside : c.in-Some.size < length c.args.self = omega (arith, c.in-Some.ensures.within, c.requires.made.all) in
    let none = open_is c.args.self c.in-Some.size inside (sym c.is_open.ensures ∙ c.if-not-is_open.false) in
    let some : 1 ≤ length c.in_ok-table.table = omega (arith, c.in_ok-table.ensures.rows, c.requires.bounds.rows.0) in
    subst (λ (tables : List (List FlowRate)). sum_by length c.args.self < sum_by length tables) (sym c.with_table.ensures)
    (grows c.args.self c.in-Some.size c.in_ok-table.table inside none some)
