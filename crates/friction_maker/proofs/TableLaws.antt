-- The rates of a size are those of a friction file, and each is made.
use Rattle.std.proofs.Common.{◌≡◌, ◌≢◌, ℕ, zero, suc, ◌+◌, ◌*◌, ◌<◌, ◌≤◌, ◌⊎◌, inl, inr, List, [], ◌∷◌, ◌++◌, length, map, get_or, set, Bool, true, false, sum_by, Result, Ok, Err, refl, sym, ap, ◌∙◌, subst, arith}
use Rattle.std.specs.Prelude.{nat_le, ◌==◌, ◌&&◌, unwrap_or, IfOk}
use Rattle.std.specs.List.{range_with_len}
use Rattle.std.proofs.lemmas.Bool.{leb-true, eqb-true}
use Rattle.std.proofs.lemmas.List.FromFn.{length-map-range_with_len, get_or-map-range_with_len, map-range_with_len_more}
use Rattle.std.proofs.lemmas.List.{get_or-set_same, get_or-set_other, length-set}
use Rattle.std.proofs.lemmas.List.Sums.{sum_by-set}
use Rattle.std.proofs.lemmas.Option.{slice_get-get_or}
use Rattle.friction_table.specs.Reading.{table_of}
use Rattle.std.proofs.lemmas.List.Elements.{All-nil}
use Rattle.std.proofs.Math.Nat.{mul-le-mul_left}
use Rattle.size_catalogue.specs.Catalogue.{Catalogue}
use Rattle.duct_definitions.specs.declared.airflow.TheConstants.{MAX_FLOW}
use Rattle.friction_table.specs.declared.limits.TheConstants.{MAX_RATE, MAX_ROWS}
use Rattle.friction_table.specs.declared.row.FlowRate.{FlowRate}
use Rattle.friction_table.specs.Rates.{IsRate, IsTable, AreRising}
use Rattle.friction_maker.specs.declared.air.Duct.{Duct}
use Rattle.friction_maker.specs.declared.air.Air.{Air}
use Rattle.friction_maker.specs.declared.row.DuctRow.{DuctRow}
use Rattle.friction_maker.specs.DuctRow.{IsRowInBounds}
use Rattle.friction_maker.specs.Rate.{IsDuct, IsAir, IsFlow, root_of}
use Rattle.friction_maker.specs.Making.{made_at, made_table, are_low, duct_of, table_for, IsMadeFor, IsMadeTable, AreMade}
use Rattle.friction_maker.proofs.BoundLaws.{is_root_of, made_rate_is}
use Rattle.friction_maker.proofs.RisingLaws.{rate_step}

-- ---- one size

-- one rate more
pub made_table-more : (duct : Duct) (air : Air) (flow j : ℕ) (rows : List FlowRate) (at : FlowRate)
    → rows ≡ made_table duct air flow j → at ≡ made_at duct air (flow * (j + 1))
    → rows ++ at ∷ [] ≡ made_table duct air flow (j + 1)
made_table-more duct air flow j rows at is last =
    ap (λ rs. rs ++ at ∷ []) is
    ∙ ap (λ (row : FlowRate). made_table duct air flow j ++ row ∷ []) last
    ∙ sym (map-range_with_len_more (λ k. made_at duct air (flow * k)) 1 j (j + 1) (omega arith))

-- a multiple of an airflow is one where the last multiple is
pub multiple_flow : (flow j n : ℕ) → IsFlow flow → 1 ≤ j → j ≤ n → flow * n ≤ MAX_FLOW → IsFlow (flow * j)
multiple_flow flow j n is some most last =
    let least : flow * 1 ≤ flow * j = mul-le-mul_left flow some in
    let more : flow * j ≤ flow * n = mul-le-mul_left flow most in
    (omega (arith, least, is.0), omega (arith, more, last))

-- the rates at i, i + 1, .. times an airflow rise
rising_from : (duct : Duct) (air : Air) (flow i n last : ℕ) → IsDuct duct → IsAir air → IsFlow flow → 1 ≤ i → i + n ≤ last + 1 → last ≤ 64 → flow * last ≤ MAX_FLOW
    → AreRising (map (λ j. made_at duct air (flow * j)) (range_with_len i n))
rising_from duct air flow i zero last d a f some most few low = tt
rising_from duct air flow i (suc zero) last d a f some most few low = tt
rising_from duct air flow i (suc (suc n)) last d a f some most few low =
    let here = is_root_of duct air (flow * i) d a (multiple_flow flow i last f some (omega arith) low) in
    let next = is_root_of duct air (flow * (i + 1)) d a (multiple_flow flow (i + 1) last f (omega arith) (omega arith) low) in
    let grows : flow * (i + 1) ≡ flow * i + flow = grind arith in (
      omega (arith, grows, f.0),
      rate_step duct air flow i (root_of duct air (flow * i)) (root_of duct air (flow * (i + 1))) d some (omega arith) here next,
      rising_from duct air flow (i + 1) (suc n) last d a f (omega arith) (omega arith) few low,
    )

both : (a b : Bool) → (a && b) ≡ true → (a ≡ true) × (b ≡ true)
both true b e = (refl, e)
both false b e = cc e

-- a rate of a table in which all are low
low_at : (rows : List FlowRate) (k : ℕ) (other : FlowRate) → are_low rows ≡ true → k < length rows → (get_or rows k other).rate ≤ MAX_RATE
low_at [] k other low inside = absurd (omega arith)
low_at (row ∷ rows) zero other low inside = leb-true row.rate MAX_RATE (both (nat_le row.rate MAX_RATE) (are_low rows) low).0
low_at (row ∷ rows) (suc k) other low inside = low_at rows k other (both (nat_le row.rate MAX_RATE) (are_low rows) low).1 (omega arith)

-- a rate of the table, by its place
at_place : (duct : Duct) (air : Air) (flow n k : ℕ) (other : FlowRate) → k < n → get_or (made_table duct air flow n) k other ≡ made_at duct air (flow * (k + 1))
at_place duct air flow n k other inside = get_or-map-range_with_len (λ j. made_at duct air (flow * j)) 1 n k (k + 1) other inside (omega arith)

-- the rates of a duct are as a friction file has them
made_table-is : (duct : Duct) (air : Air) (flow n : ℕ) → IsDuct duct → IsAir air → IsFlow flow → n ≤ MAX_ROWS → flow * n ≤ MAX_FLOW → are_low (made_table duct air flow n) ≡ true
    → IsTable (made_table duct air flow n)
made_table-is duct air flow n d a f few last low = record {
  few = omega (arith, rows, few);
  bounds = λ k other inside. record {
    flow = subst IsFlow (sym (ap (λ (at : FlowRate). at.flow) (place k other inside))) (multiple_flow flow (k + 1) n f (omega arith) (omega (arith, rows, inside)) last);
    rate = low_at (made_table duct air flow n) k other low inside;
  };
  rising = rising_from duct air flow 1 n n d a f (omega arith) (omega arith) few last;
}
  where
    rows : length (made_table duct air flow n) ≡ n
    rows = length-map-range_with_len (λ j. made_at duct air (flow * j)) 1 n

    place : (k : ℕ) (other : FlowRate) → k < length (made_table duct air flow n) → get_or (made_table duct air flow n) k other ≡ made_at duct air (flow * (k + 1))
    place k other inside = at_place duct air flow n k other (omega (arith, rows, inside))

-- so the rates that a row asks for are made
pub table_made : (sizes : Catalogue) (air : Air) (size : ℕ) (row : DuctRow) → IsDuct (duct_of sizes size row) → IsAir air → IsRowInBounds row → row.flow * row.rows ≤ MAX_FLOW
    → are_low (table_for sizes air size row) ≡ true → IsMadeTable sizes air size (table_for sizes air size row)
table_made sizes air size row d a bounds last low = record {
  table = made_table-is (duct_of sizes size row) air row.flow row.rows d a bounds.flow bounds.rows.1 last low;
  rates = λ k other inside.
      let small : k + 1 ≤ row.rows = omega (arith, rows, inside) in
      let place = at_place (duct_of sizes size row) air row.flow row.rows k other (omega (arith, small)) in
      subst (IsMadeFor sizes air size) (sym place) (record {
        duct = duct_of sizes size row;
        area = refl;
        bounds = d;
        rate = made_rate_is (duct_of sizes size row) air (row.flow * (k + 1)) d a (multiple_flow row.flow (k + 1) row.rows bounds.flow (omega arith) small last);
      });
}
  where
    rows : length (table_for sizes air size row) ≡ row.rows
    rows = length-map-range_with_len (λ j. made_at (duct_of sizes size row) air (row.flow * j)) 1 row.rows

-- the same of an answer that holds the rates
pub answer_made : {E : Type 0} (answer : Result (List FlowRate) E) (sizes : Catalogue) (air : Air) (size : ℕ) (row : DuctRow) (duct : Duct) → duct ≡ duct_of sizes size row → IsDuct duct → IsAir air
    → IsRowInBounds row → row.flow * row.rows ≤ MAX_FLOW → IfOk answer (λ table. table ≡ made_table duct air row.flow row.rows)
    → IfOk answer (λ table. are_low table ≡ true → IsMadeTable sizes air size table) × IfOk answer (λ table. length table ≡ row.rows)
answer_made (Err e) sizes air size row duct same d a bounds last is = (tt, tt)
answer_made (Ok table) sizes air size row duct same d a bounds last is =
    let here : table ≡ table_for sizes air size row = is ∙ ap (λ (k : Duct). made_table k air row.flow row.rows) same in (
      (λ low. subst (IsMadeTable sizes air size) (sym here) (table_made sizes air size row (subst IsDuct same d) a bounds last (ap are_low (sym here) ∙ low))),
      ap length here ∙ length-map-range_with_len (λ j. made_at (duct_of sizes size row) air (row.flow * j)) 1 row.rows,
    )

-- ---- all sizes

-- no row makes no rate
pub none_made : (sizes : Catalogue) (air : Air) (tables : List (List FlowRate)) → length tables ≡ length sizes.sizes
    → ((size : ℕ) (other : List FlowRate) → size < length tables → get_or tables size other ≡ []) → AreMade sizes air tables
none_made sizes air tables all none = record {
  all = all;
  each = λ size other inside. subst (IsMadeTable sizes air size) (sym (none size other inside)) (record {
    table = record { few = omega arith; bounds = All-nil IsRate; rising = tt };
    rates = All-nil (IsMadeFor sizes air size);
  });
}

-- one more table
pub more_made : (sizes : Catalogue) (air : Air) (tables : List (List FlowRate)) (size : ℕ) (table : List FlowRate) → AreMade sizes air tables → size < length tables → IsMadeTable sizes air size table
    → AreMade sizes air (set tables size table)
more_made sizes air tables size table are inside made = record {
  all = length-set tables size table ∙ are.all;
  each = λ k other within. here k other (omega (arith, within, length-set tables size table)) (same_or_not k size);
}
  where
    same_or_not : (a b : ℕ) → (a ≡ b) ⊎ (a ≢ b)
    same_or_not a b = grind arith

    here : (k : ℕ) (other : List FlowRate) → k < length tables → (k ≡ size) ⊎ (k ≢ size) → IsMadeTable sizes air k (get_or (set tables size table) k other)
    here k other within (inl same) =
        subst (λ (n : ℕ). IsMadeTable sizes air n (get_or (set tables size table) n other)) (sym same)
        (subst (IsMadeTable sizes air size) (sym (get_or-set_same tables size table other inside)) made)
    here k other within (inr differs) = subst (IsMadeTable sizes air k) (sym (get_or-set_other tables size k table other differs)) (are.each k other within)

-- a size without a row has an empty table
pub open_is : (tables : List (List FlowRate)) (size : ℕ) → size < length tables → (length (table_of tables size) == 0) ≡ true → length (get_or tables size []) ≡ 0
open_is tables size inside unnamed =
    let there : table_of tables size ≡ get_or tables size [] = ap (λ o. unwrap_or o []) (slice_get-get_or tables size [] inside) in
    let none : length (table_of tables size) ≡ 0 = eqb-true _ _ unnamed in
    ap length (sym there) ∙ none

-- which has more rows than the empty one
pub grows : (tables : List (List FlowRate)) (size : ℕ) (table : List FlowRate) → size < length tables → length (get_or tables size []) ≡ 0 → 1 ≤ length table
    → sum_by length tables < sum_by length (set tables size table)
grows tables size table inside none some = omega (arith, sum_by-set (length {A = FlowRate}) tables size table [] inside, none)
