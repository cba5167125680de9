use Rattle.std.proofs.Common.{◌∙◌, sym, ap, Some}
use Rattle.fitting_tables.specs.Fittings.{Tables}
use Rattle.fitting_tables.proofs.FittingsLaws.{hole_is}
use Rattle.fitting_tables.proofs.fittings.Fittings.hole.Goals as goal

pub returns-in_err-table : goal.returns-in_err-table
returns-in_err-table c =
    c.from_residual.ensures
    ∙ sym (hole_is c.deref.result.now c.args.self.now.grids _ c.in_err-table.ensures.value (c.deref.ensures.value ∙ ap (λ (t : Tables). t.grids) c.self.view_is))

pub returns : goal.returns
returns c =
    ap (λ fault. Some fault) c.of_table.ensures
    ∙ sym (hole_is c.deref.result.now c.args.self.now.grids _ c.in_ok-table.ensures.value (c.deref.ensures.value ∙ ap (λ (t : Tables). t.grids) c.self.view_is))
