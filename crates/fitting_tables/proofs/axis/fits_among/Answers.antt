use Rattle.std.proofs.Common.{◌∙◌, length, sym, arith}
use Rattle.std.proofs.lemmas.Bool.{lt-ltb}
use Rattle.fitting_tables.specs.declared.limits.TheConstants.{MAX_BREAKPOINTS}
use Rattle.fitting_tables.proofs.AxisLaws.{fits_in_room, fits_without_room}
use Rattle.fitting_tables.proofs.axis.fits_among.Goals as goal

pub returns-then-points-lt-MAX_BREAKPOINTS : goal.returns-then-points-lt-MAX_BREAKPOINTS
returns-then-points-lt-MAX_BREAKPOINTS c =
    lt-ltb (length c.args.points.now) MAX_BREAKPOINTS c.if-points-lt-MAX_BREAKPOINTS.true
    ∙ sym (fits_in_room c.args.x c.args.points.now (omega (arith, c.if-points-lt-MAX_BREAKPOINTS.true)))

pub returns-else-points-lt-MAX_BREAKPOINTS : goal.returns-else-points-lt-MAX_BREAKPOINTS
returns-else-points-lt-MAX_BREAKPOINTS c =
    fits_without_room c.args.x c.args.points.now c.first_not_below-place.result c.has_at.result c.first_not_below-place.ensures.parts c.first_not_below-place.ensures.within
    (omega (arith, c.if-points-lt-MAX_BREAKPOINTS.false)) c.requires.few c.has_at.ensures
