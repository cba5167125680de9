use Rattle.std.proofs.Common.{◌∙◌, length, Some, refl, sym, ap, subst, arith}
use Rattle.std.proofs.lemmas.Int.{ints}
use Rattle.std.proofs.lemmas.Option.{slice_get_read}
use Rattle.fitting_tables.specs.Cells.{value_at, IsCell}
use Rattle.fitting_tables.proofs.CellLaws.{value-none, place-within, value-at}
use Rattle.fitting_tables.proofs.grid.Grid.value.Goals as goal

pub returns-in_err-place-clause-value : goal.returns-in_err-place-clause-value
returns-in_err-place-clause-value c =
    c.from_residual.ensures
    ∙ value-none c.args.area c.args.flow c.self.inside.cells.items (c.in_err-place.ensures.value ∙ c.self.invariant.places c.args.area c.args.flow)
    ∙ ap (value_at c.args.area c.args.flow) c.self.view_is

pub index-requires : goal.index-requires
index-requires c =
    let place = place-within c.args.area c.args.flow c.in_ok-place.field-0.now c.self.inside.cells.items (c.in_ok-place.ensures.value ∙ c.self.invariant.places c.args.area c.args.flow) in
    omega (arith, place, c.self.inside.cells.ok.0)

pub returns-clause-bounds : goal.returns-clause-bounds
returns-clause-bounds c =
    let place = place-within c.args.area c.args.flow c.in_ok-place.field-0.now c.self.inside.cells.items (c.in_ok-place.ensures.value ∙ c.self.invariant.places c.args.area c.args.flow) in
    let cell : IsCell c.index.result.now = subst IsCell (sym c.index.ensures) (c.self.invariant.is.bounds c.in_ok-place.field-0.now c.index.result.now place) in
    (omega (arith, ints, cell.value.0, cell.value.1), omega (arith, ints, cell.value.0, cell.value.1))

pub returns-clause-value : goal.returns-clause-value
returns-clause-value c =
    let held = c.in_ok-place.ensures.value ∙ c.self.invariant.places c.args.area c.args.flow in
    let place = place-within c.args.area c.args.flow c.in_ok-place.field-0.now c.self.inside.cells.items held in
    let cell : IsCell c.index.result.now = subst IsCell (sym c.index.ensures) (c.self.invariant.is.bounds c.in_ok-place.field-0.now c.index.result.now place) in
    let at = slice_get_read c.self.inside.cells.items (length c.self.inside.cells.items) c.in_ok-place.field-0.now c.index.result.now refl place c.index.ensures in
    ap (λ v. Some v) (omega (arith, ints, cell.value.0, cell.value.1))
    ∙ value-at c.args.area c.args.flow c.in_ok-place.field-0.now c.self.inside.cells.items c.index.result.now held at
    ∙ ap (value_at c.args.area c.args.flow) c.self.view_is
