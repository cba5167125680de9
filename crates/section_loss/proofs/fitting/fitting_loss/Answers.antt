use Rattle.std.proofs.Common.{◌≡◌, ◌∙◌, ◌*◌, ◌≤ℤ◌, pos, neg_ℤ, ◌*ℤ◌, sym, ap, subst, arith}
use Rattle.std.specs.Int.{w64, w128}
use mir.Val.{to_z, of_z}
use Rattle.std.proofs.lemmas.Int.{ints}
use Rattle.duct_units.specs.Ceiling.{IsCeiling}
use Rattle.duct_units.proofs.CeilingLaws.{ceiling_alone}
use Rattle.fitting_tables.proofs.WeightLaws.{times_within}
use Rattle.section_loss.specs.declared.limits.TheConstants.{MAX_FITTING_LOSS}
use Rattle.section_loss.specs.Fitting.{velocity_product}
use Rattle.section_loss.proofs.FittingLaws.{area_low, area_high, product_held, ceiling_within}
use Rattle.section_loss.proofs.fitting.fitting_loss.Goals as goal

-- what was rounded up is the coefficient times the velocity pressure
rounded : (c : goal.After-ceil_div) → IsCeiling (c.args.coefficient *ℤ pos (velocity_product c.args.facts.now.density c.args.facts.now.flow)) (pos (c.args.area * c.args.area)) c.ceil_div.result
rounded c =
    let from : c.from.result ≡ c.args.coefficient = omega (arith, ints, c.from.ensures, c.requires.coefficient.0, c.requires.coefficient.1) in
    let product : c.from-2.result ≡ pos (velocity_product c.args.facts.now.density c.args.facts.now.flow) = c.from-2.ensures ∙ ap (λ n. pos n) c.velocity_product.ensures.value in
    let most = rw c.velocity_product.ensures.value at c.velocity_product.ensures.most in
    let num = product_held c.from.result c.from-2.result c.args.coefficient (velocity_product c.args.facts.now.density c.args.facts.now.flow) from product most c.requires.coefficient in
    let den : to_z w128 (of_z w128 c.from-3.result) ≡ pos (c.args.area * c.args.area) = omega (arith, ints, c.from-3.ensures, area_high c.args.area c.requires.area.1) in
    rw (num, den) at c.ceil_div.ensures.ceiling

within : (c : goal.After-ceil_div) → (neg_ℤ (pos MAX_FITTING_LOSS) ≤ℤ c.ceil_div.result) × (c.ceil_div.result ≤ℤ pos MAX_FITTING_LOSS)
within c =
    let p = velocity_product c.args.facts.now.density c.args.facts.now.flow in
    let most = rw c.velocity_product.ensures.value at c.velocity_product.ensures.most in
    ceiling_within (c.args.coefficient *ℤ pos p) c.ceil_div.result p (c.args.area * c.args.area) (times_within c.args.coefficient p c.requires.coefficient) most (area_low c.args.area c.requires.area.0) (rounded c)

held : (c : goal.After-ceil_div) → to_z w64 (of_z w64 (to_z w128 (of_z w128 c.ceil_div.result))) ≡ c.ceil_div.result
held c = let bounds = within c in omega (arith, ints, bounds.0, bounds.1)

pub overflow_cast-result : goal.overflow_cast-result
overflow_cast-result c = let bounds = within c in omega (arith, ints, bounds.0, bounds.1)

pub returns-clause-ceiling : goal.returns-clause-ceiling
returns-clause-ceiling c = subst (IsCeiling (c.args.coefficient *ℤ pos (velocity_product c.args.facts.now.density c.args.facts.now.flow)) (pos (c.args.area * c.args.area))) (sym (held c)) (rounded c)

pub returns-clause-value : goal.returns-clause-value
returns-clause-value c =
    let low = area_low c.args.area c.requires.area.0 in
    held c ∙ ceiling_alone (c.args.coefficient *ℤ pos (velocity_product c.args.facts.now.density c.args.facts.now.flow)) (pos (c.args.area * c.args.area)) c.ceil_div.result (omega (arith, ints, low)) (rounded c)

pub returns-clause-bounds : goal.returns-clause-bounds
returns-clause-bounds c = let bounds = within c in let same = held c in (omega (arith, ints, bounds.0, same), omega (arith, ints, bounds.1, same))
