use Rattle.std.proofs.Common.{◌∙◌, ℕ, ap, arith}
use Rattle.std.proofs.lemmas.Int.{ints}
use Rattle.fitting_tables.specs.Coefficient.{coefficient_of}
use Rattle.fitting_tables.specs.Fittings.{cells_of}
use Rattle.section_loss.specs.Fitting.{ratio_of}
use Rattle.section_loss.proofs.losses.coefficient_at.Goals as goal

pub returns-clause-value : goal.returns-clause-value
returns-clause-value c =
    let cells = cells_of c.args.fittings.now c.args.table in
    omega (arith, ints, c.coefficient.ensures.bounds.0, c.coefficient.ensures.bounds.1)
    ∙ c.coefficient.ensures.value
    ∙ ap (λ (ra : ℕ). coefficient_of cells ra c.ratio-flow.result) c.ratio-area.ensures.value
    ∙ ap (coefficient_of cells (ratio_of c.args.size.now.area c.args.beside.now.area)) c.ratio-flow.ensures.value
