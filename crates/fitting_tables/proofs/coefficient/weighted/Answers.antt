use Rattle.std.proofs.Common.{◌≡◌, ◌∙◌, ◌*◌, ◌≤ℤ◌, ℤ, pos, ◌+ℤ◌, sym, ap, subst, arith}
use Rattle.std.proofs.lemmas.Int.{ints}
use Rattle.duct_units.specs.Ceiling.{IsCeiling}
use Rattle.duct_units.proofs.CeilingLaws.{ceiling_alone}
use Rattle.fitting_tables.specs.declared.limits.TheConstants.{MIN_VALUE, MAX_VALUE}
use Rattle.fitting_tables.specs.Coefficient.{numerator, row_terms}
use Rattle.fitting_tables.proofs.WeightLaws.{IsWorked, ratio_times, rows_within, rounded, rounded_within, rounded_held, widths_above}
use Rattle.fitting_tables.proofs.coefficient.weighted.Goals as goal

pub overflow_add-lower : goal.overflow_add-lower
overflow_add-lower c =
    let sum = rows_within c.args.area c.args.flow c.row_terms-lower.result c.row_terms-upper.result c.requires.area c.row_terms-lower.ensures.bounds c.row_terms-upper.ensures.bounds in
    let few = ratio_times c.args.area.width c.args.flow.width c.requires.area.width.1 c.requires.flow.width.1 in
    omega (arith, ints, sum.0, sum.1, few)

worked : (c : goal.After-ceil_div) → IsWorked c.args.area c.args.flow c.row_terms-lower.result c.row_terms-upper.result c.from.result c.ceil_div.result
worked c = record {
  is_area = c.requires.area;
  is_flow = c.requires.flow;
  low = c.row_terms-lower.ensures.bounds;
  high = c.row_terms-upper.ensures.bounds;
  widths = c.from.ensures;
  ceiling = c.ceil_div.ensures.ceiling;
}

-- both rows are the numerator
both_rows : (c : goal.After-ceil_div) → c.row_terms-lower.result +ℤ c.row_terms-upper.result ≡ numerator c.args.grid.now c.args.area c.args.flow
both_rows c =
    ap (λ n. n +ℤ c.row_terms-upper.result) c.row_terms-lower.ensures.value
    ∙ ap (λ n. row_terms c.args.grid.now c.args.area.lower c.args.area.lower_weight c.args.flow +ℤ n) c.row_terms-upper.ensures.value

over_widths : (c : goal.After-ceil_div) → IsCeiling (numerator c.args.grid.now c.args.area c.args.flow) (pos (c.args.area.width * c.args.flow.width)) c.ceil_div.result
over_widths c = subst (λ (n : ℤ). IsCeiling n (pos (c.args.area.width * c.args.flow.width)) c.ceil_div.result) (both_rows c) (rounded c.args.area c.args.flow c.row_terms-lower.result c.row_terms-upper.result c.from.result c.ceil_div.result (worked c))

pub overflow_cast-result : goal.overflow_cast-result
overflow_cast-result c =
    let within = rounded_within c.args.area c.args.flow c.row_terms-lower.result c.row_terms-upper.result c.from.result c.ceil_div.result (worked c) in
    omega (arith, ints, within.0, within.1)

pub returns-clause-ceiling : goal.returns-clause-ceiling
returns-clause-ceiling c =
    subst (IsCeiling (numerator c.args.grid.now c.args.area c.args.flow) (pos (c.args.area.width * c.args.flow.width))) (sym (rounded_held c.args.area c.args.flow c.row_terms-lower.result c.row_terms-upper.result c.from.result c.ceil_div.result (worked c)))
    (over_widths c)

pub returns-clause-value : goal.returns-clause-value
returns-clause-value c =
    let above = widths_above c.args.area c.args.flow c.requires.area c.requires.flow in
    rounded_held c.args.area c.args.flow c.row_terms-lower.result c.row_terms-upper.result c.from.result c.ceil_div.result (worked c)
    ∙ ceiling_alone (numerator c.args.grid.now c.args.area c.args.flow) (pos (c.args.area.width * c.args.flow.width)) c.ceil_div.result (omega (arith, ints, above)) (over_widths c)

pub returns-clause-bounds : goal.returns-clause-bounds
returns-clause-bounds c =
    subst (λ (v : ℤ). (MIN_VALUE ≤ℤ v) × (v ≤ℤ MAX_VALUE)) (sym (rounded_held c.args.area c.args.flow c.row_terms-lower.result c.row_terms-upper.result c.from.result c.ceil_div.result (worked c)))
    (rounded_within c.args.area c.args.flow c.row_terms-lower.result c.row_terms-upper.result c.from.result c.ceil_div.result (worked c))
