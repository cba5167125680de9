-- Values times weights, added, over both widths.
use Rattle.std.proofs.Common.{◌≡◌, ℕ, suc, ◌+◌, ◌*◌, ◌<◌, ◌≤◌, ℤ, pos, negsuc, ◌+ℤ◌, ◌*ℤ◌, ◌≤ℤ◌, Option, Some, None, IfSome, unwrap_or, sym, ap, ◌∙◌, subst, arith}
use Rattle.std.proofs.lemmas.Int.{ints}
use Rattle.std.proofs.lemmas.Nat.{mul-le}
use Rattle.std.proofs.Math.Nat.{le_of_mul-le-mul_left, mul-add, add-mul}
use Rattle.std.specs.Int.{w64, w128}
use mir.Val.{to_z, of_z}
use Rattle.duct_units.specs.Ceiling.{IsCeiling}
use Rattle.fitting_tables.specs.declared.limits.TheConstants.{MIN_VALUE, MAX_VALUE, MAX_RATIO}
use Rattle.fitting_tables.specs.declared.axis.Span.{Span}
use Rattle.fitting_tables.specs.Span.{IsSpan}
use Rattle.fitting_tables.specs.Coefficient.{IsWeighed}

-- a value within its bounds, times a weight
pub times_within : (v : ℤ) (w : ℕ) → (MIN_VALUE ≤ℤ v) × (v ≤ℤ MAX_VALUE) → IsWeighed w (v *ℤ pos w)
times_within (pos n) w bounds =
    let most : n ≤ 1000000 = omega (arith, ints, bounds.1) in
    let product : n * w ≤ 1000000 * w = mul-le n w 1000000 w most (omega arith) in
    (omega (arith, ints, product), omega (arith, ints, product))
times_within (negsuc n) w bounds =
    let most : suc n ≤ 1000000 = omega (arith, ints, bounds.0) in
    let product : suc n * w ≤ 1000000 * w = mul-le (suc n) w 1000000 w most (omega arith) in
    (omega (arith, ints, product), omega (arith, ints, product))

-- where there is no cell the value is 0
pub value_within : (o : Option ℤ) → IfSome o (λ v. (MIN_VALUE ≤ℤ v) × (v ≤ℤ MAX_VALUE)) → (MIN_VALUE ≤ℤ unwrap_or o (pos 0)) × (unwrap_or o (pos 0) ≤ℤ MAX_VALUE)
value_within None bounds = (omega (arith, ints), omega (arith, ints))
value_within (Some v) bounds = bounds

-- two weighed values are weighed together
pub both_within : (a b : ℕ) (n m : ℤ) → IsWeighed a n → IsWeighed b m → IsWeighed (a + b) (n +ℤ m)
both_within a b n m first second = (omega (arith, ints, first.0, second.0), omega (arith, ints, first.1, second.1))

-- the two weights of a span, each times one of the other, are as many as its width times that
pub weights_add : (w : ℕ) (span : Span) → IsSpan span → w * span.lower_weight + w * span.upper_weight ≡ w * span.width
weights_add w span is = sym (mul-add w span.lower_weight span.upper_weight) ∙ ap (λ n. w * n) is.sum

pub weights_times : (span : Span) (w : ℕ) → IsSpan span → span.lower_weight * w + span.upper_weight * w ≡ span.width * w
weights_times span w is = omega (arith, add-mul span.lower_weight span.upper_weight w) ∙ ap (λ n. n * w) is.sum

-- what is rounded up over its weight is a value within its bounds
pub ceiling_within : (n c : ℤ) (w : ℕ) → 0 < w → IsWeighed w n → IsCeiling n (pos w) c → (MIN_VALUE ≤ℤ c) × (c ≤ℤ MAX_VALUE)
ceiling_within n c w some weighed is = (low c is.enough, is.least MAX_VALUE weighed.1)
  where
    low : (q : ℤ) → n ≤ℤ (q *ℤ pos w) → MIN_VALUE ≤ℤ q
    low (pos k) enough = omega (arith, ints)
    low (negsuc k) enough =
        let product : w * suc k ≤ w * 1000000 = omega (arith, ints, weighed.0, enough) in
        let most : suc k ≤ 1000000 = le_of_mul-le-mul_left product some in
        omega (arith, ints, most)

-- ---- as they are held in 128 bits

-- two ratios, one times the other
pub ratio_times : (a b : ℕ) → a ≤ MAX_RATIO → b ≤ MAX_RATIO → a * b ≤ 1000000000000
ratio_times a b first second = mul-le a b 1000000 1000000 first second

pub product_held : (a b v : ℤ) (w : ℕ) → a ≡ v → b ≡ pos w → w ≤ 1000000000000 → (MIN_VALUE ≤ℤ v) × (v ≤ℤ MAX_VALUE)
    → to_z w128 (of_z w128 (to_z w128 (of_z w128 a) *ℤ to_z w128 (of_z w128 b))) ≡ v *ℤ pos w
product_held a b v w is_v is_w small bounds =
    let product = times_within v w bounds in
    let first : to_z w128 (of_z w128 a) ≡ v = omega (arith, ints, is_v, bounds.0, bounds.1) in
    let second : to_z w128 (of_z w128 b) ≡ pos w = omega (arith, ints, is_w, small) in
    rw (first, second) (omega (arith, ints, product.0, product.1, small))

pub sum_held : (a b : ℤ) (m n : ℕ) → IsWeighed m a → IsWeighed n b → m ≤ 1000000000000 → n ≤ 1000000000000
    → to_z w128 (of_z w128 (to_z w128 (of_z w128 a) +ℤ to_z w128 (of_z w128 b))) ≡ a +ℤ b
sum_held a b m n first second few less = omega (arith, ints, first.0, first.1, second.0, second.1, few, less)

-- both rows are weighed by both widths
pub rows_within : (area flow : Span) (lower upper : ℤ) → IsSpan area → IsWeighed (area.lower_weight * flow.width) lower → IsWeighed (area.upper_weight * flow.width) upper
    → IsWeighed (area.width * flow.width) (lower +ℤ upper)
rows_within area flow lower upper is first second =
    subst (λ (w : ℕ). IsWeighed w (lower +ℤ upper)) (weights_times area flow.width is) (both_within (area.lower_weight * flow.width) (area.upper_weight * flow.width) lower upper first second)

pub rows_held : (area flow : Span) (lower upper : ℤ) → IsSpan area → IsSpan flow → IsWeighed (area.lower_weight * flow.width) lower → IsWeighed (area.upper_weight * flow.width) upper
    → to_z w128 (of_z w128 (to_z w128 (of_z w128 lower) +ℤ to_z w128 (of_z w128 upper))) ≡ lower +ℤ upper
rows_held area flow lower upper is_area is_flow first second =
    let few = ratio_times area.lower_weight flow.width (omega (arith, is_area.sum, is_area.width.1)) is_flow.width.1 in
    let less = ratio_times area.upper_weight flow.width (omega (arith, is_area.sum, is_area.width.1)) is_flow.width.1 in
    sum_held lower upper (area.lower_weight * flow.width) (area.upper_weight * flow.width) first second few less

-- both widths together are above 0
pub widths_above : (area flow : Span) → IsSpan area → IsSpan flow → 0 < area.width * flow.width
widths_above area flow is_area is_flow = mul-le 1 1 area.width flow.width is_area.width.0 is_flow.width.0

-- both rows of a table at two spans, and what a call rounded up from them over both widths
pub record IsWorked (area flow : Span) (lower upper from c : ℤ) : Type 0 where
  pub is_area : IsSpan area
  pub is_flow : IsSpan flow
  pub low : IsWeighed (area.lower_weight * flow.width) lower
  pub high : IsWeighed (area.upper_weight * flow.width) upper
  pub widths : from ≡ pos (area.width * flow.width)
  pub ceiling : IsCeiling (to_z w128 (of_z w128 (to_z w128 (of_z w128 lower) +ℤ to_z w128 (of_z w128 upper)))) (to_z w128 (of_z w128 from)) c

-- it is that quotient
pub rounded : (area flow : Span) (lower upper from c : ℤ) → IsWorked area flow lower upper from c → IsCeiling (lower +ℤ upper) (pos (area.width * flow.width)) c
rounded area flow lower upper from c is =
    let few = ratio_times area.width flow.width is.is_area.width.1 is.is_flow.width.1 in
    let num = rows_held area flow lower upper is.is_area is.is_flow is.low is.high in
    let den : to_z w128 (of_z w128 from) ≡ pos (area.width * flow.width) = omega (arith, ints, is.widths, few) in
    rw (num, den) at is.ceiling

-- and lies within the bounds of a value
pub rounded_within : (area flow : Span) (lower upper from c : ℤ) → IsWorked area flow lower upper from c → (MIN_VALUE ≤ℤ c) × (c ≤ℤ MAX_VALUE)
rounded_within area flow lower upper from c is =
    ceiling_within (lower +ℤ upper) c (area.width * flow.width) (widths_above area flow is.is_area is.is_flow) (rows_within area flow lower upper is.is_area is.low is.high)
    (rounded area flow lower upper from c is)

-- and is held whole
pub rounded_held : (area flow : Span) (lower upper from c : ℤ) → IsWorked area flow lower upper from c → to_z w64 (of_z w64 (to_z w128 (of_z w128 c))) ≡ c
rounded_held area flow lower upper from c is =
    let within = rounded_within area flow lower upper from c is in
    omega (arith, ints, within.0, within.1)
