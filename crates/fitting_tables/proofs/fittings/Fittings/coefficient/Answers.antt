use Rattle.std.proofs.Common.{◌≡◌, ◌∙◌, ◌<◌, length, List, sym, ap, subst, arith}
use Rattle.std.specs.Int.{w64}
use mir.Val.{to_z, of_z}
use Rattle.std.proofs.lemmas.Int.{ints}
use Rattle.fitting_tables.specs.declared.row.Cell.{Cell}
use Rattle.fitting_tables.specs.Coefficient.{IsCoefficient, coefficient_of}
use Rattle.fitting_tables.specs.Fittings.{Tables, cells_of}
use Rattle.fitting_tables.specs.FittingsIndex.{tables_of}
use Rattle.fitting_tables.proofs.FittingsLaws.{cells_at}
use Rattle.fitting_tables.proofs.fittings.Fittings.coefficient.Goals as goal

pub returns-clause-value : goal.returns-clause-value
returns-clause-value c =
    let inside = subst (λ (t : Tables). c.args.table < length t.grids) (sym c.self.view_is) c.requires in
    let cells = cells_at (tables_of c.self.inside) c.args.table c.index.result.now inside c.index.ensures ∙ ap (λ (t : Tables). cells_of t c.args.table) c.self.view_is in
    omega (arith, ints, c.coefficient.ensures.bounds.0, c.coefficient.ensures.bounds.1)
    ∙ c.coefficient.ensures.value
    ∙ ap (λ (cs : List Cell). coefficient_of cs c.args.ra c.args.rq) cells

pub returns-clause-ceiling : goal.returns-clause-ceiling
returns-clause-ceiling c =
    let inside = subst (λ (t : Tables). c.args.table < length t.grids) (sym c.self.view_is) c.requires in
    let cells = cells_at (tables_of c.self.inside) c.args.table c.index.result.now inside c.index.ensures ∙ ap (λ (t : Tables). cells_of t c.args.table) c.self.view_is in
    let held : c.coefficient.result ≡ to_z w64 (of_z w64 c.coefficient.result) = omega (arith, ints, c.coefficient.ensures.bounds.0, c.coefficient.ensures.bounds.1) in
    subst (IsCoefficient (cells_of c.args.self.now c.args.table) c.args.ra c.args.rq) held
    (subst (λ (cs : List Cell). IsCoefficient cs c.args.ra c.args.rq c.coefficient.result) cells c.coefficient.ensures.ceiling)
