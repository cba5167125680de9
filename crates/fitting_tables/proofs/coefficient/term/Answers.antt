use Rattle.std.proofs.Common.{◌≡◌, ℤ, ◌≤ℤ◌, sym, subst, arith}
use Rattle.std.proofs.lemmas.Int.{ints}
use Rattle.fitting_tables.specs.declared.limits.TheConstants.{MIN_VALUE, MAX_VALUE}
use Rattle.fitting_tables.specs.Coefficient.{IsWeighed}
use Rattle.fitting_tables.proofs.WeightLaws.{times_within, value_within, product_held}
use Rattle.fitting_tables.proofs.coefficient.term.Goals as goal

pub returns-clause-bounds : goal.returns-clause-bounds
returns-clause-bounds c =
    let value = c.unwrap_or-value.result in
    let bounds = subst (λ (v : ℤ). (MIN_VALUE ≤ℤ v) × (v ≤ℤ MAX_VALUE)) (sym c.unwrap_or-value.ensures) (value_within c.value.result c.value.ensures.bounds) in
    let from : c.from.result ≡ value = omega (arith, ints, c.from.ensures, bounds.0, bounds.1) in
    let held = product_held c.from.result c.from-2.result value c.args.weight from c.from-2.ensures c.requires bounds in
    subst (IsWeighed c.args.weight) (sym held) (times_within value c.args.weight bounds)
