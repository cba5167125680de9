-- The tables of all fittings with one more cell.
use Rattle.std.proofs.Common.{◌≡◌, ℕ, zero, suc, ◌+◌, ◌*◌, ◌<◌, ◌≤◌, List, [], ◌∷◌, ◌++◌, length, Bool, true, false, cond, not, Option, Some, None, option_map, is_some, IsTrue, IfSome, All, sum_by, slice_get, unwrap_or, refl, sym, ap, ◌∙◌, subst, arith, length-append}
use Rattle.std.specs.Prelude.{get_or, slice_set, ◌&&◌, if◌then◌else◌}
use Rattle.std.specs.List.{position_from}
use Rattle.std.proofs.lemmas.List.{length-set, set-set}
use Rattle.std.proofs.lemmas.List.Sums.{sum_by-set, sum_by-append, sum_by-cons}
use Rattle.std.proofs.lemmas.List.Elements.{All-set, All-push, All-nil, All-cons, All-head, All-tail}
use Rattle.std.proofs.lemmas.Option.{slice_get_read}
use Rattle.duct_units.specs.declared.fault.Fault.{Fault}
use Rattle.duct_units.specs.declared.fault.Reason.TheVariants.{Twice, TooMany, Hole}
use Rattle.duct_units.specs.Rules.{first_broken, row_fault, table_fault}
use Rattle.duct_units.proofs.RuleLaws.{rule_holds}
use Rattle.name_index.specs.Places.{is_among}
use Rattle.name_index.proofs.PlaceLaws.{place_of-within}
use Rattle.fitting_tables.specs.declared.limits.TheConstants.{MAX_TABLES}
use Rattle.fitting_tables.specs.declared.row.Cell.{Cell}
use Rattle.fitting_tables.specs.declared.row.FittingRow.{FittingRow}
use Rattle.fitting_tables.specs.Cells.{value_at, refusal_of, areas_fit, flows_fit, is_full, IsCell, IsGrid}
use Rattle.fitting_tables.specs.Fittings.{Tables, IsFittings, IsStarted, AreFull, cells_of, table_number, with_cell, with_table}
use Rattle.fitting_tables.specs.Reading.{fitting_rules, each_full, AddsCell}
use Rattle.fitting_tables.proofs.CellLaws.{IsGrid-push, few_cells}

-- ---- a table by its number

-- the number of a name is one of theirs
pub table_inside : (tables : Tables) (row : FittingRow) (table : ℕ) → IsFittings tables → table_number tables row ≡ Some table → table < length tables.grids
table_inside tables row table is number =
    let within : table < length tables.names = subst (λ (o : Option ℕ). IfSome o (λ t. t < length tables.names)) number (place_of-within row.table tables.names) in
    omega (arith, is.named)

-- its cells are those at its number
pub cells_at : (tables : Tables) (table : ℕ) (cells : List Cell) → table < length tables.grids → cells ≡ get_or tables.grids table cells → cells ≡ cells_of tables table
cells_at tables table cells inside at = sym (ap (λ (o : Option (List Cell)). unwrap_or o []) (slice_get_read tables.grids (length tables.grids) table cells refl inside at))

-- the same of tables as they are held
pub held_inside : (inside tables : Tables) (row : FittingRow) (table : ℕ) → inside ≡ tables → IsFittings inside → table_number tables row ≡ Some table → table < length inside.grids
held_inside inside tables row table view is number = table_inside inside row table is (subst (λ (t : Tables). table_number t row ≡ Some table) (sym view) number)

pub held_at : (inside tables : Tables) (row : FittingRow) (table : ℕ) (cells : List Cell) → inside ≡ tables → IsFittings inside → table_number tables row ≡ Some table
    → cells ≡ get_or inside.grids table cells → cells ≡ cells_of tables table
held_at inside tables row table cells view is number at =
    cells_at inside table cells (held_inside inside tables row table view is number) at ∙ ap (λ (t : Tables). cells_of t table) view

-- they are a table
pub started_at : (tables : Tables) (table : ℕ) → IsFittings tables → table < length tables.grids → IsStarted (cells_of tables table)
started_at tables table is inside =
    let at : get_or tables.grids table [] ≡ cells_of tables table = ap (λ (o : Option (List Cell)). unwrap_or o []) (sym (slice_get_read tables.grids (length tables.grids) table (get_or tables.grids table []) refl inside (same tables.grids table inside))) in
    subst IsStarted at (is.grids table [] inside)
  where
    same : (gs : List (List Cell)) (k : ℕ) → k < length gs → get_or gs k [] ≡ get_or gs k (get_or gs k [])
    same [] k inside = absurd (omega arith)
    same (g ∷ gs) zero inside = refl
    same (g ∷ gs) (suc k) inside = same gs k (omega arith)

-- ---- the rules of a row

-- the first broken one of a row of a table that is there is the cell's refusal
pub rules_are : (n : ℕ) (tables : Tables) (row : FittingRow) (table : ℕ) (cells : List Cell) → table_number tables row ≡ Some table → cells ≡ cells_of tables table
    → first_broken (fitting_rules n tables row (table_number tables row)) ≡ option_map (row_fault n) (refusal_of row.cell cells)
rules_are n tables row table cells number same =
    let held = cells_of tables table in
    ap (λ (o : Option ℕ). first_broken (fitting_rules n tables row o)) number
    ∙ tests n (is_some (value_at row.cell.area row.cell.flow held)) (areas_fit row.cell held) (flows_fit row.cell held)
    ∙ ap (λ (cs : List Cell). option_map (row_fault n) (refusal_of row.cell cs)) (sym same)
  where
    tests : (n : ℕ) (twice areas flows : Bool) → cond (not twice) (cond areas (cond flows None (Some (row_fault n TooMany))) (Some (row_fault n TooMany))) (Some (row_fault n Twice))
        ≡ option_map (row_fault n) (if twice then Some Twice else if areas && flows then None else Some TooMany)
    tests n true areas flows = refl
    tests n false true true = refl
    tests n false true false = refl
    tests n false false flows = refl

-- ---- one more cell

-- in a table that is there
pub with_cell_is : (inside tables : Tables) (table : ℕ) (cell : Cell) (x y : List Cell) → inside ≡ tables → y ≡ cells_of tables table ++ cell ∷ []
    → record { names = inside.names; grids = slice_set (slice_set inside.grids table x) table y } ≡ with_cell tables table cell
with_cell_is inside tables table cell x y view is =
    ap (λ (gs : List (List Cell)). record { names = inside.names; grids = gs }) (set-set inside.grids table x y ∙ ap (λ (cs : List Cell). slice_set inside.grids table cs) is)
    ∙ ap (λ (t : Tables). record { names = t.names; grids = slice_set t.grids table (cells_of tables table ++ cell ∷ []) }) view

pub AddsCell-with_cell : (tables : Tables) (table : ℕ) (cell : Cell) → IsFittings tables → table < length tables.grids → IsCell cell
    → refusal_of cell (cells_of tables table) ≡ None → AddsCell tables (with_cell tables table cell)
AddsCell-with_cell tables table cell is inside bounds none =
    let cells = cells_of tables table in
    let more = cells ++ cell ∷ [] in
    let started = started_at tables table is inside in
    let at : cells ≡ get_or tables.grids table cells = get_at tables.grids table cells refl inside in
    let sum = sum_by-set length tables.grids table more cells inside in
    record {
      is = record {
        named = is.named ∙ sym (length-set tables.grids table more);
        few = omega (arith, is.few, length-set tables.grids table more);
        grids = All-set IsStarted tables.grids table more (omega (arith, length-append cells (cell ∷ [])), IsGrid-push cells cell started.1 bounds none) is.grids;
      };
      cells = omega (arith, sum, ap length at, length-append cells (cell ∷ []));
    }
  where
    get_at : (gs : List (List Cell)) (k : ℕ) (cs : List Cell) → cs ≡ unwrap_or (slice_get gs k) [] → k < length gs → cs ≡ get_or gs k cs
    get_at [] k cs e inside = absurd (omega arith)
    get_at (g ∷ gs) zero cs e inside = e
    get_at (g ∷ gs) (suc k) cs e inside = get_at gs k cs e (omega arith)

-- in a new table
pub with_table_is : (inside tables : Tables) (row : FittingRow) (added : Bool) (names : List (List ℕ)) (grids : List (List Cell)) (cells : List Cell) → inside ≡ tables
    → table_number tables row ≡ None → added ≡ not (is_among row.table inside.names) → names ≡ cond added (inside.names ++ row.table ∷ []) inside.names
    → cells ≡ row.cell ∷ [] → grids ≡ inside.grids ++ cells ∷ [] → record { names = names; grids = grids } ≡ with_table tables row
with_table_is inside tables row added names grids cells view number is_new is_names is_cells is_grids =
    let absent : is_among row.table inside.names ≡ false = ap (λ (t : Tables). is_some (table_number t row)) view ∙ ap is_some number in
    let yes : added ≡ true = is_new ∙ ap not absent in
    let more : names ≡ inside.names ++ row.table ∷ [] = is_names ∙ ap (λ b. cond b (inside.names ++ row.table ∷ []) inside.names) yes in
    ap (λ (ns : List (List ℕ)). record { names = ns; grids = grids }) more
    ∙ ap (λ (gs : List (List Cell)). record { names = inside.names ++ row.table ∷ []; grids = gs }) (is_grids ∙ ap (λ (cs : List Cell). inside.grids ++ cs ∷ []) is_cells)
    ∙ ap (λ (t : Tables). with_table t row) view

pub AddsCell-with_table : (tables : Tables) (row : FittingRow) → IsFittings tables → length tables.grids < MAX_TABLES → IsGrid (row.cell ∷ []) → AddsCell tables (with_table tables row)
AddsCell-with_table tables row is room grid = record {
  is = record {
    named = omega (arith, is.named, length-append tables.names (row.table ∷ []), length-append tables.grids ((row.cell ∷ []) ∷ []));
    few = omega (arith, length-append tables.grids ((row.cell ∷ []) ∷ []));
    grids = All-push IsStarted tables.grids (row.cell ∷ []) is.grids (omega arith, grid);
  };
  cells = omega (arith, sum_by-append length tables.grids ((row.cell ∷ []) ∷ []));
}

-- ---- holes

-- the first table with a hole is the first broken rule
pub each_full-position : (i n : ℕ) (grids : List (List Cell)) → n ≡ i + 1
    → first_broken (each_full n grids) ≡ option_map (λ table. table_fault (table + 1) Hole) (position_from (λ cells. not (is_full cells)) i grids)
each_full-position i n [] e = refl
each_full-position i n (cells ∷ grids) e =
    chosen (is_full cells) i n (first_broken (each_full (n + 1) grids)) (position_from (λ cs. not (is_full cs)) (i + 1) grids) e (each_full-position (i + 1) (n + 1) grids (omega arith))
  where
    chosen : (b : Bool) (i n : ℕ) (broken : Option Fault) (found : Option ℕ) → n ≡ i + 1 → broken ≡ option_map (λ table. table_fault (table + 1) Hole) found
        → cond b broken (Some (table_fault n Hole)) ≡ option_map (λ table. table_fault (table + 1) Hole) (cond (not b) (Some i) found)
    chosen true i n broken found e later = later
    chosen false i n broken found e later = ap (λ (k : ℕ). Some (table_fault k Hole)) e

-- where no rule is broken no table has a hole
pub each_is_full : (n : ℕ) (grids : List (List Cell)) → first_broken (each_full n grids) ≡ None → AreFull grids
each_is_full n [] none = All-nil (λ (cells : List Cell). IsTrue (is_full cells))
each_is_full n (cells ∷ grids) none =
    let (full, later) = rule_holds (is_full cells) (first_broken (each_full (n + 1) grids)) (table_fault n Hole) none in
    All-cons (λ (cs : List Cell). IsTrue (is_full cs)) cells grids full (each_is_full (n + 1) grids later)

-- the same of the place of a table that was looked for
pub hole_is : (grids held : List (List Cell)) (found : Option ℕ) → found ≡ position_from (λ cells. not (is_full cells)) 0 grids → grids ≡ held
    → first_broken (each_full 1 held) ≡ option_map (λ table. table_fault (table + 1) Hole) found
hole_is grids held found at same =
    ap (λ (gs : List (List Cell)). first_broken (each_full 1 gs)) (sym same)
    ∙ each_full-position 0 1 grids refl
    ∙ ap (option_map (λ table. table_fault (table + 1) Hole)) (sym at)

-- ---- how many cells there are

-- 32 tables of 400 cells are 12,800
pub few_rows : (tables : Tables) → IsFittings tables → sum_by length tables.grids ≤ 12800
few_rows tables is = omega (arith, within tables.grids is.grids, is.few)
  where
    within : (grids : List (List Cell)) → All IsStarted grids → sum_by length grids ≤ 400 * length grids
    within [] all = omega arith
    within (cells ∷ grids) all = omega (arith, sum_by-cons length cells grids, few_cells cells (All-head IsStarted cells grids all).1, within grids (All-tail IsStarted cells grids all))
