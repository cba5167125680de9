use Rattle.std.proofs.Common.{◌∙◌, sym, FitsSigned}
use Rattle.std.proofs.lemmas.Int.{to_z-of_z}
use Rattle.std.specs.Int.{w64}
use Rattle.duct_units.proofs.WholeLaws.{narrowed, some_is_whole, none_is_whole}
use Rattle.duct_units.proofs.number.whole.Goals as goal

pub returns-clause-value : goal.returns-clause-value
returns-clause-value c =
    let low_fits : FitsSigned w64 c.args.low = c.ranges.low in
    let high_fits : FitsSigned w64 c.args.high = c.ranges.high in
    (simp to_z-of_z at c.within.ensures) ∙ sym (narrowed _ _ _ _ low_fits high_fits c.spelled_number.ensures)

pub returns-clause-some : goal.returns-clause-some
returns-clause-some c = some_is_whole _ _ _ _ c.ranges.low c.ranges.high (returns-clause-value c)

pub returns-clause-none : goal.returns-clause-none
returns-clause-none c = none_is_whole _ _ _ _ c.ranges.low c.ranges.high (returns-clause-value c)
