use Rattle.std.proofs.Common.{◌<◌, ◌-◌, ◌∙◌, sym, ap, refl, length, Some, arith}
use Rattle.std.proofs.lemmas.Option.{slice_get_read, slice_get-get_or, slice_get_past}
use Rattle.friction_table.proofs.RisingLaws.{rises_later}
use Rattle.friction_table.proofs.RateLaws.{rate_at-past, rate_at-on, rate_at-lowest, rate_at-inside, not_above_all}
use Rattle.friction_table.proofs.table.rate_in.Goals as goal
use Rattle.friction_table.proofs.table.rate_in.Goals.{then-place-eq0-via-then-place-eq0, then-place-eq0-via-else-place-eq0+then-upper-flow}

pub returns-in_err-upper-clause-value : goal.returns-in_err-upper-clause-value
returns-in_err-upper-clause-value c =
    let none = slice_get_past c.args.rows.now c.first_not_below-place.result c.in_err-upper.ensures.lookup.3 in
    c.from_residual.ensures ∙ sym (rate_at-past c.args.flow c.args.rows.now c.first_not_below-place.result c.first_not_below-place.ensures.parts none)

pub returns-then-place-eq0-clause-none : goal.returns-then-place-eq0-clause-none
returns-then-place-eq0-clause-none c =
    let found = c.in_ok-upper.ensures.lookup in
    let at = slice_get_read c.args.rows.now (length c.args.rows.now) c.first_not_below-place.result c.in_ok-upper.field-0.now refl found.3.0 found.1 in
    ((λ e. cc e), (λ all. absurd (not_above_all c.args.flow c.args.rows.now c.first_not_below-place.result c.in_ok-upper.field-0.now c.first_not_below-place.ensures.parts at all)))

pub returns-then-place-eq0-clause-value : goal.returns-then-place-eq0-clause-value
returns-then-place-eq0-clause-value c =
    let found = c.in_ok-upper.ensures.lookup in
    let at = slice_get_read c.args.rows.now (length c.args.rows.now) c.first_not_below-place.result c.in_ok-upper.field-0.now refl found.3.0 found.1 in
    elim c.then-place-eq0.branch [
      | then-place-eq0-via-then-place-eq0 w ↦
          sym (rate_at-lowest c.args.flow c.args.rows.now c.first_not_below-place.result c.in_ok-upper.field-0.now c.requires.rising c.first_not_below-place.ensures.parts w.if-place-eq0.true at)
      | then-place-eq0-via-else-place-eq0+then-upper-flow w ↦
          sym (rate_at-on c.args.flow c.args.rows.now c.first_not_below-place.result c.in_ok-upper.field-0.now c.requires.rising c.first_not_below-place.ensures.parts at w.if-upper-flow.true)
    ]

pub rate_between-requires-clause-rising : goal.rate_between-requires-clause-rising
rate_between-requires-clause-rising c =
    let found = c.in_ok-upper.ensures.lookup in
    let at = slice_get_read c.args.rows.now (length c.args.rows.now) c.first_not_below-place.result c.in_ok-upper.field-0.now refl found.3.0 found.1 in
    let less : c.first_not_below-place.result - 1 < c.first_not_below-place.result = omega arith in
    let below = slice_get-get_or c.args.rows.now (c.first_not_below-place.result - 1) (record { flow = 0; rate = 0 }) (omega (arith, found.3.0)) in
    (rises_later c.args.rows.now (c.first_not_below-place.result - 1) c.first_not_below-place.result _ c.in_ok-upper.field-0.now c.requires.rising below at less).rate

pub returns-clause-none : goal.returns-clause-none
returns-clause-none c =
    let found = c.in_ok-upper.ensures.lookup in
    let at = slice_get_read c.args.rows.now (length c.args.rows.now) c.first_not_below-place.result c.in_ok-upper.field-0.now refl found.3.0 found.1 in
    ((λ e. cc e), (λ all. absurd (not_above_all c.args.flow c.args.rows.now c.first_not_below-place.result c.in_ok-upper.field-0.now c.first_not_below-place.ensures.parts at all)))

pub returns-clause-value : goal.returns-clause-value
returns-clause-value c =
    let found = c.in_ok-upper.ensures.lookup in
    let at = slice_get_read c.args.rows.now (length c.args.rows.now) c.first_not_below-place.result c.in_ok-upper.field-0.now refl found.3.0 found.1 in
    let below = slice_get-get_or c.args.rows.now (c.first_not_below-place.result - 1) (record { flow = 0; rate = 0 }) (omega (arith, found.3.0)) in
    ap (λ rate. Some rate) c.rate_between.ensures.value
    ∙ sym (rate_at-inside c.args.flow c.args.rows.now c.first_not_below-place.result _ c.in_ok-upper.field-0.now c.requires.rising c.first_not_below-place.ensures.parts c.if-place-eq0.false below at c.if-upper-flow.false)
