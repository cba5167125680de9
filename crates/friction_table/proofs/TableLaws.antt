-- Tables with one more row.
use Rattle.std.proofs.Common.{◌≡◌, ℕ, ◌+◌, ◌<◌, ◌≤◌, List, [], ◌∷◌, ◌++◌, length, IsTrue, arith, length-append}
use Rattle.std.proofs.Common.{Bool, true, false, cond, not, refl, sym, ap, ◌∙◌, ◌*◌, Option, Some, None, option_map, All, sum_by, replicate}
use Rattle.std.specs.Prelude.{nat_lt, ◌==◌}
use Rattle.std.specs.List.{position_from}
use Rattle.std.proofs.lemmas.Bool.Decides.{nat_tests}
use Rattle.std.proofs.lemmas.List.Sums.{sum_by-le}
use Rattle.std.proofs.lemmas.List.Folds.{sum_by-replicate}
use Rattle.duct_units.specs.Rules.{first_broken, size_fault}
use Rattle.duct_units.specs.declared.fault.Fault.{Fault}
use Rattle.duct_units.proofs.RuleLaws.{rule_holds}
use Rattle.std.proofs.lemmas.Bool.{ltb-true}
use Rattle.duct_units.specs.declared.fault.Reason.TheVariants.{Missing}
use Rattle.friction_table.specs.Reading.{row_of_each}
use Rattle.std.proofs.lemmas.List.Elements.{All-push, All-nil, All-cons}
use Rattle.friction_table.specs.declared.row.FlowRate.{FlowRate}
use Rattle.friction_table.specs.declared.limits.TheConstants.{MAX_ROWS}
use Rattle.friction_table.specs.Rates.{IsTable, IsRate, may_follow}
use Rattle.friction_table.proofs.RisingLaws.{AreRising-push}

eq_from_true : (b : Bool) → IsTrue b → b ≡ true
eq_from_true true h = refl
eq_from_true false h = cc h

-- ---- one more row

pub IsTable-push : (rows : List FlowRate) (row : FlowRate) → IsTable rows → length rows < MAX_ROWS → IsTrue (may_follow rows row) → IsRate row → IsTable (rows ++ row ∷ [])
IsTable-push rows row is room order bounds = record {
  few = omega (arith, length-append rows (row ∷ []));
  bounds = All-push IsRate rows row is.bounds bounds;
  rising = AreRising-push rows row is.rising (eq_from_true (may_follow rows row) order);
}

-- ---- all tables

-- so many tables of so many rows at most
pub few_rows : (tables : List (List FlowRate)) (n : ℕ) → All (λ rows. length rows ≤ MAX_ROWS) tables → length tables ≤ n → sum_by length tables ≤ MAX_ROWS * n
few_rows tables n few most = omega (arith, sum_by-le length MAX_ROWS tables few)

-- no row at all
pub no_rows : (n : ℕ) → sum_by (length {A = FlowRate}) (replicate n []) ≡ 0
no_rows n = omega (arith, sum_by-replicate (length {A = FlowRate}) n [])

nothing_below : (n : ℕ) → nat_lt 0 n ≡ not (n == 0)
nothing_below n = grind (arith, nat_tests)

-- the first table without a row is the first broken rule
pub row_of_each-position : (i n : ℕ) (tables : List (List FlowRate)) → n ≡ i + 1
    → first_broken (row_of_each n tables) ≡ option_map (λ size. size_fault (size + 1) Missing) (position_from (λ rows. length rows == 0) i tables)
row_of_each-position i n [] e = refl
row_of_each-position i n (rows ∷ tables) e =
    let later = row_of_each-position (i + 1) (n + 1) tables (omega arith) in
    ap (λ (b : Bool). cond b (first_broken (row_of_each (n + 1) tables)) (Some (size_fault n Missing))) (nothing_below (length rows))
    ∙ chosen (length rows == 0) i n (first_broken (row_of_each (n + 1) tables)) (position_from (λ rows. length rows == 0) (i + 1) tables) e later
  where
    chosen : (b : Bool) (i n : ℕ) (broken : Option Fault) (found : Option ℕ) → n ≡ i + 1 → broken ≡ option_map (λ size. size_fault (size + 1) Missing) found
        → cond (not b) broken (Some (size_fault n Missing)) ≡ option_map (λ size. size_fault (size + 1) Missing) (cond b (Some i) found)
    chosen true i n broken found e later = ap (λ (k : ℕ). Some (size_fault k Missing)) e
    chosen false i n broken found e later = later

-- where no rule is broken, each table has a row
pub each_has_a_row : (n : ℕ) (tables : List (List FlowRate)) → first_broken (row_of_each n tables) ≡ None → All (λ rows. 0 < length rows) tables
each_has_a_row n [] none = All-nil (λ (rows : List FlowRate). 0 < length rows)
each_has_a_row n (rows ∷ tables) none =
    let (has, later) = rule_holds (nat_lt 0 (length rows)) (first_broken (row_of_each (n + 1) tables)) (size_fault n Missing) none in
    All-cons (λ (rs : List FlowRate). 0 < length rs) rows tables (ltb-true 0 (length rows) has) (each_has_a_row (n + 1) tables later)

-- the same of the place of a table that was looked for
pub missing_is : (tables held : List (List FlowRate)) (found : Option ℕ) → found ≡ position_from (λ rows. length rows == 0) 0 tables → tables ≡ held
    → first_broken (row_of_each 1 held) ≡ option_map (λ size. size_fault (size + 1) Missing) found
missing_is tables held found at same =
    ap (λ (ts : List (List FlowRate)). first_broken (row_of_each 1 ts)) (sym same)
    ∙ row_of_each-position 0 1 tables refl
    ∙ ap (option_map (λ size. size_fault (size + 1) Missing)) (sym at)
