use Rattle.std.proofs.Common.{◌≡◌, ◌^◌, ◌*◌, ◌+◌, ◌<◌, arith}
use Rattle.std.specs.Int.{div_ceil}
use Rattle.friction_maker.specs.declared.limits.TheConstants.{FACTOR_SCALE}
use Rattle.friction_maker.specs.Rate.{factor_num, factor_den}
use Rattle.friction_maker.proofs.RootLaws.{root_found, root_alone}
use Rattle.friction_maker.proofs.BoundLaws.{root_most, is_root_of}
use Rattle.friction_maker.proofs.rate.factor_root.Goals as goal

pub returns-clause-root : goal.returns-clause-root
returns-clause-root c =
    let wide : 0 < factor_den c.args.duct c.args.air c.args.flow = omega (arith, c.factor_den-den.ensures.value, c.factor_den-den.ensures.above) in
    let power : c.div_ceil-power.result ≡ div_ceil (FACTOR_SCALE ^ 4 * factor_num c.args.duct c.args.air c.args.flow) (factor_den c.args.duct c.args.air c.args.flow) =
    rw (c.pow.ensures, c.from.ensures, c.from-2.ensures, c.from-3.ensures, c.factor_num-num.ensures.value, c.factor_den-den.ensures.value) at c.div_ceil-power.ensures in
    root_found c.args.duct c.args.air c.args.flow c.div_ceil-power.result c.isqrt.result c.isqrt-2.result wide (search arith) power
    c.isqrt.ensures.square_le c.isqrt.ensures.next_square_gt c.isqrt-2.ensures.square_le c.isqrt-2.ensures.next_square_gt

pub returns-clause-most : goal.returns-clause-most
returns-clause-most c = root_most c.args.duct c.args.air c.args.flow (c.isqrt-2.result + 1) c.requires.duct c.requires.air c.requires.flow (returns-clause-root c)

pub returns-clause-value : goal.returns-clause-value
returns-clause-value c =
    root_alone c.args.duct c.args.air c.args.flow (c.isqrt-2.result + 1) _ (returns-clause-root c)
    (is_root_of c.args.duct c.args.air c.args.flow c.requires.duct c.requires.air c.requires.flow)
