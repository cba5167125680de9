-- Rows of rising airflow.
use Rattle.std.proofs.Common.{◌≡◌, ℕ, zero, suc, ◌-◌, ◌<◌, inl, inr, List, [], ◌∷◌, ◌++◌, length, Bool, true, false, Some, slice_get, refl, sym, ap, ◌∙◌, subst, arith}
use Rattle.std.specs.Prelude.{nat_lt, nat_le, ◌&&◌, get_or}
use Rattle.std.specs.List.Sorted.{IsNonDecreasingBy}
use Rattle.std.proofs.Math.Nat.{eq-or-lt_of_le}
use Rattle.std.proofs.lemmas.Bool.{ltb-true, leb-true}
use Rattle.std.proofs.lemmas.Option.{slice_get-get_or}
use Rattle.friction_table.specs.declared.row.FlowRate.{FlowRate}
use Rattle.friction_table.specs.Rates.{AreRising, Rises, RisesThroughout, IsTable, last_of, may_follow}

pub AreRising-tail : (row : FlowRate) (rows : List FlowRate) → AreRising (row ∷ rows) → AreRising rows
AreRising-tail row [] rising = tt
AreRising-tail row (next ∷ rows) rising = rising.2

-- the first row is below every later one
rises_first : (row : FlowRate) (rows : List FlowRate) (k : ℕ) (upper : FlowRate) → AreRising (row ∷ rows) → slice_get rows k ≡ Some upper → Rises row upper
rises_first row [] k upper rising at = cc
rises_first row (next ∷ rows) zero upper rising at =
    let same : next ≡ upper = cc in
    subst (Rises row) same (record { flow = rising.0; rate = rising.1 })
rises_first row (next ∷ rows) (suc k) upper rising at =
    let later = rises_first next rows k upper rising.2 at in
    record { flow = omega (arith, later.flow, rising.0); rate = omega (arith, later.rate, rising.1) }

-- every row is below every later one
pub rises_later : (rows : List FlowRate) (i k : ℕ) (lower upper : FlowRate) → AreRising rows → slice_get rows i ≡ Some lower → slice_get rows k ≡ Some upper → i < k → Rises lower upper
rises_later [] i k lower upper rising at above less = cc
rises_later (row ∷ rows) zero zero lower upper rising at above less = absurd (omega arith)
rises_later (row ∷ rows) zero (suc k) lower upper rising at above less =
    let same : row ≡ lower = cc in
    subst (λ (r : FlowRate). Rises r upper) same (rises_first row rows k upper rising above)
rises_later (row ∷ rows) (suc i) zero lower upper rising at above less = absurd (omega arith)
rises_later (row ∷ rows) (suc i) (suc k) lower upper rising at above less =
    rises_later rows i k lower upper (AreRising-tail row rows rising) at above (omega arith)

-- so any two rows of a table are in order
pub rises_throughout : (rows : List FlowRate) → IsTable rows → RisesThroughout rows
rises_throughout rows is = λ i k lower upper less at above. rises_later rows i k lower upper is.rising at above less

-- and the airflows never fall
pub flows_rise : (rows : List FlowRate) → AreRising rows → IsNonDecreasingBy (λ row. row.flow) rows
flows_rise rows rising i j d order inside =
    elim (eq-or-lt_of_le order) [
      | inl same ↦ let e : (get_or rows i d).flow ≡ (get_or rows j d).flow = ap (λ (k : ℕ). (get_or rows k d).flow) same in omega arith
      | inr less ↦
          let rises = rises_later rows i j (get_or rows i d) (get_or rows j d) rising (slice_get-get_or rows i d (omega arith)) (slice_get-get_or rows j d inside) less in
          omega (arith, rises.flow)
    ]

-- a row that may follow leaves rising rows
pub AreRising-push : (rows : List FlowRate) (row : FlowRate) → AreRising rows → may_follow rows row ≡ true → AreRising (rows ++ row ∷ [])
AreRising-push [] row rising follows = tt
AreRising-push (last ∷ []) row rising follows =
    let (flow, rate) = both (nat_lt last.flow row.flow) (nat_le last.rate row.rate) follows in
    (ltb-true last.flow row.flow flow, leb-true last.rate row.rate rate, tt)
  where
    both : (a b : Bool) → (a && b) ≡ true → (a ≡ true) × (b ≡ true)
    both true b e = (refl, e)
    both false b e = cc e
AreRising-push (first ∷ next ∷ rows) row rising follows = (rising.0, rising.1, AreRising-push (next ∷ rows) row rising.2 follows)

-- the last row is the one at the last place
pub last_of-slice_get : (rows : List FlowRate) → last_of rows ≡ slice_get rows (length rows - 1)
last_of-slice_get [] = refl
last_of-slice_get (row ∷ []) = refl
last_of-slice_get (row ∷ next ∷ rows) =
    let n : length (row ∷ next ∷ rows) - 1 ≡ suc (length (next ∷ rows) - 1) = omega arith in
    last_of-slice_get (next ∷ rows) ∙ ap (slice_get (row ∷ next ∷ rows)) (sym n)
