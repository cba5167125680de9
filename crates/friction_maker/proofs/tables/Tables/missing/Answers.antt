use Rattle.std.proofs.Common.{◌∙◌, sym, ap, Some}
use Rattle.friction_table.proofs.TableLaws.{missing_is}
use Rattle.friction_maker.proofs.tables.Tables.missing.Goals as goal

pub returns-in_err-size : goal.returns-in_err-size
returns-in_err-size c =
    c.from_residual.ensures
    ∙ sym (missing_is c.deref.result.now c.args.self.now _ c.in_err-size.ensures.value (c.deref.ensures.value ∙ c.self.view_is))

pub returns : goal.returns
returns c =
    ap (λ fault. Some fault) c.of_size.ensures
    ∙ sym (missing_is c.deref.result.now c.args.self.now _ c.in_ok-size.ensures.value (c.deref.ensures.value ∙ c.self.view_is))
