use Rattle.std.proofs.Common.{◌≡◌, ◌*◌, ℕ, pos, sym, ap, subst, refl, arith}
use Rattle.std.specs.Int.{div_ceil}
use Rattle.std.proofs.lemmas.Int.{ints}
use Rattle.duct_units.proofs.CeilingLaws.{is_ceiling}
use Rattle.friction_maker.specs.Rate.{corrected, root_of, rate_num, rate_den, IsJustAbove}
use Rattle.friction_maker.proofs.BoundLaws.{rate_num_most, flow_most, share_most, rate_den_least, rate_most, just_above}
use Rattle.friction_maker.proofs.rate.made_rate.Goals as goal

pub overflow_mul-num : goal.overflow_mul-num
overflow_mul-num c =
    let share = share_most c.corrected-factor.result c.args.air.density c.corrected-factor.ensures.most c.requires.air.density.1 in
    let most = rate_num_most c.from.result c.from-2.result (omega (arith, share, c.from.ensures)) (omega (arith, flow_most c.args.flow c.requires.flow, c.from-2.ensures)) in
    omega (arith, most)

pub overflow_cast-result : goal.overflow_cast-result
overflow_cast-result c =
    let share = share_most c.corrected-factor.result c.args.air.density c.corrected-factor.ensures.most c.requires.air.density.1 in
    let most = rate_num_most c.from.result c.from-2.result (omega (arith, share, c.from.ensures)) (omega (arith, flow_most c.args.flow c.requires.flow, c.from-2.ensures)) in
    let den : c.from-3.result * c.from-4.result ≡ rate_den c.args.duct = rw (c.from-3.ensures, c.from-4.ensures) refl in
    omega (arith, c.div_ceil.ensures, rate_most (c.from.result * c.from-2.result) (c.from-3.result * c.from-4.result) most (omega (arith, den, rate_den_least c.args.duct c.requires.duct)))

pub returns-clause-rate : goal.returns-clause-rate
returns-clause-rate c =
    let is : c.div_ceil.result ≡ div_ceil (rate_num (corrected c.factor_root.result) c.args.air c.args.flow) (rate_den c.args.duct) =
    rw (c.from.ensures, c.from-2.ensures, c.from-3.ensures, c.from-4.ensures, c.corrected-factor.ensures.value) at c.div_ceil.ensures in
    record {
      root = c.factor_root.result;
      is_root = c.factor_root.ensures.root;
      is_rate = is_ceiling _ _ (pos c.div_ceil.result) (omega (arith, ints, rate_den_least c.args.duct c.requires.duct)) (ap (λ (n : ℕ). pos n) is);
    }

pub returns-clause-near : goal.returns-clause-near
returns-clause-near c =
    let n = rate_num (corrected (root_of c.args.duct c.args.air c.args.flow)) c.args.air c.args.flow in
    let is : c.div_ceil.result ≡ div_ceil n (rate_den c.args.duct) =
    rw (c.from.ensures, c.from-2.ensures, c.from-3.ensures, c.from-4.ensures, c.corrected-factor.ensures.value, c.factor_root.ensures.value) at c.div_ceil.ensures in
    subst (IsJustAbove n (rate_den c.args.duct)) (sym is) (just_above n (rate_den c.args.duct) (omega (arith, rate_den_least c.args.duct c.requires.duct)))
