-- The loss of a length at the rate of an airflow.
use Rattle.std.proofs.Common.{◌≡◌, ℕ, ◌*◌, ◌<◌, ◌≤◌, ◌<ℤ◌, ◌≤ℤ◌, ◌↔◌, List, [], length, Option, Some, pos, refl, sym, ap, ◌∙◌, subst, arith}
use Rattle.std.specs.Prelude.{get_or, unwrap_or, IsSomeAnd}
use Rattle.std.specs.Int.{div_ceil}
use Rattle.std.proofs.lemmas.Int.{ints}
use Rattle.std.proofs.lemmas.Nat.{mul-le}
use Rattle.std.proofs.lemmas.Option.{slice_get_read}
use Rattle.duct_units.proofs.CeilingLaws.{is_ceiling, ceiling_alone}
use Rattle.duct_definitions.specs.declared.duct.TheConstants.{MAX_LENGTH}
use Rattle.friction_table.specs.declared.limits.TheConstants.{MAX_RATE, MAX_FRICTION_LOSS, MILLIMETRES_PER_METRE, MILLIPASCALS_PER_DECIPASCAL}
use Rattle.friction_table.specs.declared.row.FlowRate.{FlowRate}
use Rattle.friction_table.specs.declared.table.Fraction.{Fraction}
use Rattle.friction_table.specs.Loss.{rate_at, IsLossOver, IsFrictionLoss, IsRateInBounds, Loses}
use Rattle.friction_table.specs.Reading.{table_of}

-- the table of a size is the one at its number
pub table_at : (tables held : List (List FlowRate)) (size : ℕ) (rows : List FlowRate) → held ≡ tables → size < length tables → rows ≡ get_or held size rows → rows ≡ table_of tables size
table_at tables held size rows same inside at =
    let there : rows ≡ get_or tables size rows = at ∙ ap (λ (ts : List (List FlowRate)). get_or ts size rows) same in
    sym (ap (λ (o : Option (List FlowRate)). unwrap_or o []) (slice_get_read tables (length tables) size rows refl inside there))

-- a length at a rate, over the units, is so much in dPa
abbrev pub units : Fraction → ℕ
units rate = MILLIMETRES_PER_METRE * MILLIPASCALS_PER_DECIPASCAL * rate.den

above_0 : (rate : Fraction) → 1 ≤ rate.den → pos 0 <ℤ pos (units rate)
above_0 rate wide = omega (arith, ints)

-- the quotient that is rounded up is the loss
pub loss_over : (length : ℕ) (rate : Fraction) (loss : ℕ) → 1 ≤ rate.den → loss ≡ div_ceil (length * rate.num) (units rate) → IsLossOver length rate loss
loss_over length rate loss wide is = is_ceiling (pos (length * rate.num)) (pos (units rate)) (pos loss) (above_0 rate wide) (ap (λ (n : ℕ). pos n) is)

-- the greatest length at the greatest rate loses the most
pub most_loss : (length : ℕ) (rate : Fraction) (loss : ℕ) → length ≤ MAX_LENGTH → IsRateInBounds rate → IsLossOver length rate loss → loss ≤ MAX_FRICTION_LOSS
most_loss length rate loss short bounds is =
    let enough : length * rate.num ≤ MAX_LENGTH * (MAX_RATE * rate.den) = mul-le length rate.num MAX_LENGTH (MAX_RATE * rate.den) short bounds.0 in
    let most : pos loss ≤ℤ pos MAX_FRICTION_LOSS = is.least (pos MAX_FRICTION_LOSS) (omega (arith, ints)) in
    omega (arith, ints)

-- the loss at the rate of an airflow
pub loss_at : (rows : List FlowRate) (flow length : ℕ) (rate : Fraction) (loss : ℕ) → Some rate ≡ rate_at flow rows → IsLossOver length rate loss → IsFrictionLoss rows flow length loss
loss_at rows flow length rate loss at is = subst (λ (o : Option Fraction). IsSomeAnd o (λ r. IsLossOver length r loss)) at is

-- at a rate a length has one loss
pub loss_alone : (rows : List FlowRate) (flow length : ℕ) (rate : Fraction) (loss : ℕ) → 1 ≤ rate.den → rate_at flow rows ≡ Some rate
    → (n : ℕ) → n ≡ div_ceil (length * rate.num) (units rate) → IsFrictionLoss rows flow length loss ↔ (loss ≡ n)
loss_alone rows flow length rate loss wide at n is = (
  (λ over.
      let here = subst (λ (o : Option Fraction). IsSomeAnd o (λ r. IsLossOver length r loss)) at over in
      let one = ceiling_alone (pos (length * rate.num)) (pos (units rate)) (pos loss) (above_0 rate wide) here in
      omega (arith, ints, is)),
  (λ same. loss_at rows flow length rate loss (sym at) (loss_over length rate loss wide (subst (λ (k : ℕ). k ≡ div_ceil (length * rate.num) (units rate)) (sym same) is))),
)

-- 400 mPa/m lose 40 dPa over 10,000 mm, and 41 over 10,001 mm
pub worked_loss : Loses 400 10000 40 × Loses 400 10001 41
worked_loss = (
  λ rows flow loss at. loss_alone rows flow 10000 (record { num = 400; den = 1 }) loss (omega arith) at 40 refl,
  λ rows flow loss at. loss_alone rows flow 10001 (record { num = 400; den = 1 }) loss (omega arith) at 41 refl,
)
