use Rattle.std.proofs.Common.{◌∙◌, ◌*◌, ℕ, ◌+ℤ◌, sym, ap, subst, arith}
use Rattle.fitting_tables.specs.Coefficient.{IsWeighed, term}
use Rattle.fitting_tables.proofs.WeightLaws.{both_within, weights_add, ratio_times, sum_held}
use Rattle.fitting_tables.proofs.coefficient.row_terms.Goals as goal

pub returns-clause-value : goal.returns-clause-value
returns-clause-value c =
    let flow = c.args.flow in
    let lower = ratio_times c.args.weight flow.lower_weight c.requires.weight (omega (arith, c.requires.flow.sum, c.requires.flow.width.1)) in
    let upper = ratio_times c.args.weight flow.upper_weight c.requires.weight (omega (arith, c.requires.flow.sum, c.requires.flow.width.1)) in
    sum_held c.term.result c.term-2.result (c.args.weight * flow.lower_weight) (c.args.weight * flow.upper_weight) c.term.ensures.bounds c.term-2.ensures.bounds lower upper
    ∙ ap (λ n. n +ℤ c.term-2.result) c.term.ensures.value
    ∙ ap (λ n. term c.args.grid.now c.args.area flow.lower (c.args.weight * flow.lower_weight) +ℤ n) c.term-2.ensures.value

pub returns-clause-bounds : goal.returns-clause-bounds
returns-clause-bounds c =
    let flow = c.args.flow in
    let lower = ratio_times c.args.weight flow.lower_weight c.requires.weight (omega (arith, c.requires.flow.sum, c.requires.flow.width.1)) in
    let upper = ratio_times c.args.weight flow.upper_weight c.requires.weight (omega (arith, c.requires.flow.sum, c.requires.flow.width.1)) in
    let held = sum_held c.term.result c.term-2.result (c.args.weight * flow.lower_weight) (c.args.weight * flow.upper_weight) c.term.ensures.bounds c.term-2.ensures.bounds lower upper in
    subst (IsWeighed (c.args.weight * flow.width)) (sym held)
    (subst (λ (w : ℕ). IsWeighed w (c.term.result +ℤ c.term-2.result)) (weights_add c.args.weight flow c.requires.flow)
    (both_within (c.args.weight * flow.lower_weight) (c.args.weight * flow.upper_weight) c.term.result c.term-2.result c.term.ensures.bounds c.term-2.ensures.bounds))
