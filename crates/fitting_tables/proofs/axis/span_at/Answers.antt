use Rattle.std.proofs.Common.{◌∙◌}
use Rattle.fitting_tables.proofs.SpanLaws.{place_inside, past_first, on_one, between_two, over_it, under_it}
use Rattle.fitting_tables.proofs.axis.span_at.Goals as goal

pub bounds-points-place : goal.bounds-points-place
bounds-points-place c =
    place_inside c.args.points.now c.args.ratio c.clamped-x.result c.first_not_below-place.result
    (record { rising = c.requires.axis.rising; some = c.requires.some; is = c.clamped-x.ensures; parts = c.first_not_below-place.ensures.parts; within = c.first_not_below-place.ensures.within })

pub overflow_sub-place : goal.overflow_sub-place
overflow_sub-place c =
    past_first c.args.points.now c.args.ratio c.clamped-x.result c.first_not_below-place.result
    (record { rising = c.requires.axis.rising; some = c.requires.some; is = c.clamped-x.ensures; parts = c.first_not_below-place.ensures.parts; within = c.first_not_below-place.ensures.within }) c.if-upper-x.false

pub between-requires-clause-above : goal.between-requires-clause-above
between-requires-clause-above c =
    under_it c.args.points.now c.args.ratio c.clamped-x.result c.first_not_below-place.result
    (record { rising = c.requires.axis.rising; some = c.requires.some; is = c.clamped-x.ensures; parts = c.first_not_below-place.ensures.parts; within = c.first_not_below-place.ensures.within }) c.if-upper-x.false

pub between-requires-clause-below : goal.between-requires-clause-below
between-requires-clause-below c =
    over_it c.args.points.now c.args.ratio c.clamped-x.result c.first_not_below-place.result
    (record { rising = c.requires.axis.rising; some = c.requires.some; is = c.clamped-x.ensures; parts = c.first_not_below-place.ensures.parts; within = c.first_not_below-place.ensures.within }) c.if-upper-x.false

pub returns-then-upper-x-clause-value : goal.returns-then-upper-x-clause-value
returns-then-upper-x-clause-value c =
    c.on_breakpoint.ensures.value ∙ on_one c.args.points.now c.args.ratio c.clamped-x.result c.first_not_below-place.result
    (record { rising = c.requires.axis.rising; some = c.requires.some; is = c.clamped-x.ensures; parts = c.first_not_below-place.ensures.parts; within = c.first_not_below-place.ensures.within }) c.if-upper-x.true

pub returns-else-upper-x-clause-value : goal.returns-else-upper-x-clause-value
returns-else-upper-x-clause-value c =
    c.between.ensures.value ∙ between_two c.args.points.now c.args.ratio c.clamped-x.result c.first_not_below-place.result
    (record { rising = c.requires.axis.rising; some = c.requires.some; is = c.clamped-x.ensures; parts = c.first_not_below-place.ensures.parts; within = c.first_not_below-place.ensures.within }) c.if-upper-x.false
