-- The rate at an airflow, from the place where a search parts the rows.
use Rattle.std.proofs.Common.{◌≡◌, ◌≢◌, inl, inr, ℕ, zero, suc, ◌-◌, ◌<◌, ◌≤◌, List, [], ◌∷◌, length, true, false, cond, Some, None, slice_get, refl, sym, ap, ◌∙◌, subst, arith}
use Rattle.std.specs.Prelude.{nat_le, nat_lt, ◌==◌, get_or}
use Rattle.std.specs.List.{AllWithin}
use Rattle.std.proofs.lemmas.Bool.{le-leb, lt-leb, ltb-true, ltb-false, eq-eqb}
use Rattle.std.proofs.lemmas.Bool.Decides.{eqb_tells}
use Rattle.std.proofs.lemmas.Option.{slice_get-get_or, get_or_from_slice_get, slice_get_within, slice_get_cases}
use Rattle.std.proofs.Math.Nat.{eq-or-lt_of_le}
use Rattle.friction_table.specs.declared.row.FlowRate.{FlowRate}
use Rattle.friction_table.specs.Rates.{AreRising}
use Rattle.friction_table.specs.Loss.{or_later, last_not_above, first_not_below, whole_rate, rate_between, rate_at, IsAboveAll, Parts}
use Rattle.friction_table.proofs.RisingLaws.{rises_later}

-- ---- the last row that is not above

-- above all rows but none
none_above : (flow : ℕ) (rows : List FlowRate) → ((k : ℕ) (row : FlowRate) → slice_get rows k ≡ Some row → flow < row.flow) → last_not_above flow rows ≡ None
none_above flow [] above = refl
none_above flow (row ∷ rows) above =
    let here : nat_le row.flow flow ≡ false = lt-leb row.flow flow (above 0 row refl) in
    let later : last_not_above flow rows ≡ None = none_above flow rows (λ k r at. above (suc k) r at) in
    rw (here, later) refl

last_is : (flow : ℕ) (rows : List FlowRate) (j : ℕ) (row : FlowRate) → slice_get rows j ≡ Some row → row.flow ≤ flow
    → ((k : ℕ) (r : FlowRate) → j < k → slice_get rows k ≡ Some r → flow < r.flow) → last_not_above flow rows ≡ Some row
last_is flow [] j row at below above = cc
last_is flow (first ∷ rows) zero row at below above =
    let same : first ≡ row = cc in
    let later : last_not_above flow rows ≡ None = none_above flow rows (λ k r e. above (suc k) r (omega arith) e) in
    let here : nat_le first.flow flow ≡ true = le-leb first.flow flow (subst (λ (r : FlowRate). r.flow ≤ flow) (sym same) below) in
    rw (later, here) at
last_is flow (first ∷ rows) (suc j) row at below above =
    ap (or_later (cond (nat_le first.flow flow) (Some first) None)) (last_is flow rows j row at below (λ k r less e. above (suc k) r (omega arith) e))

-- ---- the first row that is not below

first_is : (flow : ℕ) (rows : List FlowRate) (i : ℕ) (row : FlowRate) → slice_get rows i ≡ Some row → flow ≤ row.flow
    → ((k : ℕ) (r : FlowRate) → k < i → slice_get rows k ≡ Some r → r.flow < flow) → first_not_below flow rows ≡ Some row
first_is flow [] i row at above below = cc
first_is flow (first ∷ rows) zero row at above below =
    let same : first ≡ row = cc in
    let here : nat_le flow first.flow ≡ true = le-leb flow first.flow (subst (λ (r : FlowRate). flow ≤ r.flow) (sym same) above) in
    rw here at
first_is flow (first ∷ rows) (suc i) row at above below =
    let here : nat_le flow first.flow ≡ false = lt-leb flow first.flow (below 0 first (omega arith) refl) in
    rw here (first_is flow rows i row at above (λ k r less e. below (suc k) r (omega arith) e))

first_none : (flow : ℕ) (rows : List FlowRate) → ((k : ℕ) (r : FlowRate) → slice_get rows k ≡ Some r → r.flow < flow) → first_not_below flow rows ≡ None
first_none flow [] below = refl
first_none flow (first ∷ rows) below =
    let here : nat_le flow first.flow ≡ false = lt-leb flow first.flow (below 0 first refl) in
    rw here (first_none flow rows (λ k r e. below (suc k) r e))

-- ---- the rate

-- a place without a row is past them all
past : (rows : List FlowRate) (place : ℕ) → slice_get rows place ≡ None → length rows ≤ place
past rows place none = elim (slice_get_cases rows place).1 [ inl there ↦ cc (sym none, there.2) | inr beyond ↦ beyond.0 ]

-- past the last row there is no rate
pub rate_at-past : (flow : ℕ) (rows : List FlowRate) (place : ℕ) → Parts flow rows place → slice_get rows place ≡ None → rate_at flow rows ≡ None
rate_at-past flow rows place parts none =
    let end = past rows place none in
    let first : first_not_below flow rows ≡ None = first_none flow rows (λ k r at. let inside = slice_get_within rows k r at in parts.below k r (omega arith) at) in
    rw first refl

-- and then the airflow is above all rows
pub above_all : (flow : ℕ) (rows : List FlowRate) (place : ℕ) → Parts flow rows place → slice_get rows place ≡ None → IsAboveAll flow rows
above_all flow rows place parts none = λ k d inside.
    let end = past rows place none in
    parts.below k (get_or rows k d) (omega arith) (slice_get-get_or rows k d inside)

-- at a row that is not below, it is not
pub not_above_all : (flow : ℕ) (rows : List FlowRate) (place : ℕ) (upper : FlowRate) → Parts flow rows place → slice_get rows place ≡ Some upper → IsAboveAll flow rows → ⊥
not_above_all flow rows place upper parts at all =
    let inside : place < length rows = slice_get_within rows place upper at in
    let here : get_or rows place upper ≡ upper = get_or_from_slice_get rows place upper upper at in
    let less : (get_or rows place upper).flow < flow = all place upper inside in
    let not_less : flow ≤ upper.flow = parts.above place upper (omega arith) at in
    let e : (get_or rows place upper).flow ≡ upper.flow = ap (λ (r : FlowRate). r.flow) here in
    absurd (omega arith)

-- on a row its rate holds
pub rate_at-on : (flow : ℕ) (rows : List FlowRate) (place : ℕ) (upper : FlowRate) → AreRising rows → Parts flow rows place → slice_get rows place ≡ Some upper
    → upper.flow ≡ flow → rate_at flow rows ≡ Some (whole_rate upper)
rate_at-on flow rows place upper rising parts at on =
    let last : last_not_above flow rows ≡ Some upper =
    last_is flow rows place upper at (omega arith) (λ k r less e. omega (arith, (rises_later rows place k upper r rising at e less).flow)) in
    let first : first_not_below flow rows ≡ Some upper = first_is flow rows place upper at (omega arith) (λ k r less e. parts.below k r less e) in
    let same : (upper.flow == upper.flow) ≡ true = eq-eqb upper.flow upper.flow refl in
    rw (last, first, same) refl

-- below the first row its rate holds
pub rate_at-first : (flow : ℕ) (rows : List FlowRate) (upper : FlowRate) → AreRising rows → Parts flow rows 0 → slice_get rows 0 ≡ Some upper
    → upper.flow ≢ flow → rate_at flow rows ≡ Some (whole_rate upper)
rate_at-first flow rows upper rising parts at off =
    let over : flow < upper.flow = let most : flow ≤ upper.flow = parts.above 0 upper (omega arith) at in omega arith in
    let last : last_not_above flow rows ≡ None = none_above flow rows (λ k r e. all_over k r e over) in
    let first : first_not_below flow rows ≡ Some upper = first_is flow rows 0 upper at (omega arith) (λ k r less e. absurd (omega arith)) in
    rw (last, first) refl
  where
    all_over : (k : ℕ) (r : FlowRate) → slice_get rows k ≡ Some r → flow < upper.flow → flow < r.flow
    all_over zero r e over = let same : upper ≡ r = cc in subst (λ (s : FlowRate). flow < s.flow) same over
    all_over (suc k) r e over = let rises = (rises_later rows 0 (suc k) upper r rising at e (omega arith)).flow in omega arith

some_same : (a b : FlowRate) → Some a ≡ Some b → a ≡ b
some_same a b e = cc

-- between two rows it lies on their line
pub rate_at-between : (flow : ℕ) (rows : List FlowRate) (j : ℕ) (lower upper : FlowRate) → AreRising rows → Parts flow rows (suc j)
    → slice_get rows j ≡ Some lower → slice_get rows (suc j) ≡ Some upper → upper.flow ≢ flow → rate_at flow rows ≡ Some (rate_between flow lower upper)
rate_at-between flow rows j lower upper rising parts below at off =
    let over : flow < upper.flow = let most : flow ≤ upper.flow = parts.above (suc j) upper (omega arith) at in omega arith in
    let under : lower.flow < flow = parts.below j lower (omega arith) below in
    let last : last_not_above flow rows ≡ Some lower = last_is flow rows j lower below (omega arith) (λ k r less e. beyond k r less e over) in
    let first : first_not_below flow rows ≡ Some upper = first_is flow rows (suc j) upper at (omega arith) (λ k r less e. parts.below k r less e) in
    rw (last, first) refl
  where
    beyond : (k : ℕ) (r : FlowRate) → j < k → slice_get rows k ≡ Some r → flow < upper.flow → flow < r.flow
    beyond k r less e over =
        let next : suc j ≤ k = omega arith in
        elim (eq-or-lt_of_le next) [
          | inl same ↦ let here : upper ≡ r = some_same upper r (sym at ∙ ap (slice_get rows) same ∙ e) in subst (λ (s : FlowRate). flow < s.flow) here over
          | inr later ↦ let rises = (rises_later rows (suc j) k upper r rising at e later).flow in omega arith
        ]

-- the same at the first place, whichever the row there
pub rate_at-lowest : (flow : ℕ) (rows : List FlowRate) (place : ℕ) (upper : FlowRate) → AreRising rows → Parts flow rows place → place ≡ 0 → slice_get rows place ≡ Some upper
    → rate_at flow rows ≡ Some (whole_rate upper)
rate_at-lowest flow rows place upper rising parts lowest at =
    elim (eqb_tells upper.flow flow) [
      | inl on ↦ rate_at-on flow rows place upper rising parts at on.1
      | inr off ↦ rate_at-first flow rows upper rising (subst (Parts flow rows) lowest parts) (ap (slice_get rows) (sym lowest) ∙ at) off.1
    ]

-- and past the first place
pub rate_at-inside : (flow : ℕ) (rows : List FlowRate) (place : ℕ) (lower upper : FlowRate) → AreRising rows → Parts flow rows place → place ≢ 0
    → slice_get rows (place - 1) ≡ Some lower → slice_get rows place ≡ Some upper → upper.flow ≢ flow → rate_at flow rows ≡ Some (rate_between flow lower upper)
rate_at-inside flow rows zero lower upper rising parts there below at off = absurd (there refl)
rate_at-inside flow rows (suc j) lower upper rising parts there below at off =
    let e : j ≡ suc j - 1 = omega arith in
    rate_at-between flow rows j lower upper rising parts (ap (slice_get rows) e ∙ below) at off

-- ---- the search

-- the place where the test of the airflow turns
pub parted : (flow : ℕ) (rows : List FlowRate) (place : ℕ) → AllWithin (λ row. nat_lt row.flow flow ≡ true) rows 0 place → AllWithin (λ row. nat_lt row.flow flow ≡ false) rows place (length rows)
    → Parts flow rows place
parted flow rows place before behind = record {
  below = λ k row less at.
      let here : get_or rows k row ≡ row = get_or_from_slice_get rows k row row at in
      ltb-true row.flow flow (subst (λ (r : FlowRate). nat_lt r.flow flow ≡ true) here (before k row (omega arith) less));
  above = λ k row more at.
      let here : get_or rows k row ≡ row = get_or_from_slice_get rows k row row at in
      ltb-false row.flow flow (subst (λ (r : FlowRate). nat_lt r.flow flow ≡ false) here (behind k row more (slice_get_within rows k row at)));
}
