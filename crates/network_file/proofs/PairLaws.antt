-- The cells of a section, as its pairs are read.
use Rattle.std.proofs.Common.{◌≡◌, ◌≢◌, ℕ, suc, zero, ◌+◌, ◌*◌, ◌<◌, ◌≤◌, List, [], ◌∷◌, ◌++◌, length, take, map, set, get_or, Bool, true, false, ◌&&◌, ◌||◌, ◌==◌, not, cond, Option, Some, None, is_some, refl, ap, ◌∙◌, sym, subst, arith, replicate}
use Rattle.std.specs.Prelude.{slice_get, if◌then◌else◌, All}
use Rattle.std.specs.List.{list_any, range_with_len, cons_option}
use Rattle.std.proofs.lemmas.List.FromFn.{length-map-range_with_len, get_or-map-range_with_len}
use Rattle.std.proofs.lemmas.List.Elements.{filter_map-append, All-head, All-tail}
use Rattle.std.proofs.lemmas.Bool.{eqb-true, eq-eqb}
use Rattle.toml.specs.Data.{Data}
use Rattle.duct_definitions.specs.declared.design.Pair.{Pair}
use Rattle.duct_units.specs.declared.fault.Reason.TheVariants.{Twice, Pair as PairReason}
use Rattle.duct_units.specs.Rules.{Rule, first_broken, at_section, section_fault}
use Rattle.std.proofs.lemmas.Nat.{mul-add-lt, same_from_place}
use Rattle.std.proofs.lemmas.Bool.Decides.{same_from_decides}
use Rattle.std.specs.Bool.{Decides}
use Rattle.std.proofs.Math.Nat.{mul_comm}
use Rattle.file_definitions.proofs.ElementLaws.{take_at}
use Rattle.network_file.specs.declared.pairs.PairRow.{PairRow}
use Rattle.network_file.specs.Pairs.{row_of, rows_of, same_sizes, is_new, cell_of, pair_in, cells_of}

-- one more pair of the form
pub rows_of-next : (sizes : ℕ) (neighbour_count : Option ℕ) (pairs : List (List Data)) (i : ℕ) (pair : List Data) (row : PairRow) → slice_get pairs i ≡ Some pair → row_of sizes neighbour_count pair ≡ Some row
    → rows_of sizes neighbour_count (take (i + 1) pairs) ≡ rows_of sizes neighbour_count (take i pairs) ++ row ∷ []
rows_of-next sizes neighbour_count pairs i pair row at is =
    ap (rows_of sizes neighbour_count) (take_at pairs i pair at) ∙ filter_map-append (row_of sizes neighbour_count) (take i pairs) (pair ∷ [])
    ∙ ap (λ last. rows_of sizes neighbour_count (take i pairs) ++ cons_option last []) is

-- the first row of a cell, or the last
abbrev or_row : Option Pair → Bool → Pair → Option Pair
or_row (Some pair) here last = Some pair
or_row None here last = cond here (Some last) None

pair_in-push : (columns : ℕ) (rows : List PairRow) (row : PairRow) (cell : ℕ) → pair_in columns (rows ++ row ∷ []) cell ≡ or_row (pair_in columns rows cell) (cell_of columns row == cell) row.pair
pair_in-push columns [] row cell = refl
pair_in-push columns (first ∷ rows) row cell =
    elim (cell_of columns first == cell) as (λ b. cond b (Some first.pair) (pair_in columns (rows ++ row ∷ []) cell) ≡ or_row (cond b (Some first.pair) (pair_in columns rows cell)) (cell_of columns row == cell) row.pair)
    [ true ↦ refl | false ↦ pair_in-push columns rows row cell ]

-- the two functions agree from a on
map_agrees : {B : Type 0} (f g : ℕ → B) (a n : ℕ) → ((k : ℕ) → a ≤ k → g k ≡ f k) → map g (range_with_len a n) ≡ map f (range_with_len a n)
map_agrees f g a zero same = refl
map_agrees f g a (suc n) same = ap (λ y. y ∷ map g (range_with_len (a + 1) n)) (same a (omega arith)) ∙ ap (λ ys. f a ∷ ys) (map_agrees f g (a + 1) n (λ k more. same k (omega arith)))

-- they agree but at one place, so a write there makes one of the other
map_set : {B : Type 0} (f g : ℕ → B) (a n c : ℕ) (v : B) → ((k : ℕ) → k ≢ a + c → g k ≡ f k) → g (a + c) ≡ v → set (map f (range_with_len a n)) c v ≡ map g (range_with_len a n)
map_set f g a zero c v others here = refl
map_set f g a (suc n) zero v others here =
    let at : g a ≡ v = subst (λ k. g k ≡ v) (omega arith) here in
    ap (λ y. y ∷ map f (range_with_len (a + 1) n)) (sym at) ∙ ap (λ ys. g a ∷ ys) (sym (map_agrees f g (a + 1) n (λ k more. others k (omega arith))))
map_set f g a (suc n) (suc c) v others here =
    let further : a + 1 + c ≡ a + suc c = omega arith in
    ap (λ y. y ∷ set (map f (range_with_len (a + 1) n)) c v) (sym (others a (omega arith)))
    ∙ ap (λ ys. g a ∷ ys) (map_set f g (a + 1) n c v (λ k apart. others k (subst (λ p. k ≢ p) further apart)) (subst (λ k. g k ≡ v) (sym further) here))

-- a row in an empty cell, and no other cell changes
pub cells_of-push : (sizes columns : ℕ) (rows : List PairRow) (row : PairRow) → pair_in columns rows (cell_of columns row) ≡ None
    → set (cells_of sizes columns rows) (cell_of columns row) (Some row.pair) ≡ cells_of sizes columns (rows ++ row ∷ [])
cells_of-push sizes columns rows row empty =
    map_set (pair_in columns rows) (pair_in columns (rows ++ row ∷ [])) 0 (sizes * columns) (cell_of columns row) (Some row.pair)
    (λ k apart. pair_in-push columns rows row k ∙ elsewhere (pair_in columns rows k) (cell_of columns row == k) row.pair (apart_false (cell_of columns row) k (λ e. apart (sym e ∙ omega arith))))
    (ap (pair_in columns (rows ++ row ∷ [])) (omega arith) ∙ pair_in-push columns rows row (cell_of columns row)
    ∙ ap (λ o. or_row o (cell_of columns row == cell_of columns row) row.pair) empty ∙ ap (λ b. cond b (Some row.pair) None) (eq-eqb (cell_of columns row) (cell_of columns row) refl))
  where
    elsewhere : (o : Option Pair) (b : Bool) (last : Pair) → b ≡ false → or_row o b last ≡ o
    elsewhere (Some p) b last e = refl
    elsewhere None b last e = ap (λ b. cond b (Some last) None) e

    apart_false : (a b : ℕ) → (a ≡ b → ⊥) → (a == b) ≡ false
    apart_false a b apart = elim (a == b) as (λ t. (a == b) ≡ t → t ≡ false) [ true ↦ λ e. absurd (apart (eqb-true a b e)) | false ↦ λ e. refl ] refl

-- in range, two rows stand in one cell exactly where they name the same sizes
one_cell : (columns : ℕ) (row other : PairRow) → row.neighbour_size < columns → other.neighbour_size < columns → (cell_of columns other == cell_of columns row) ≡ same_sizes row other
one_cell columns row other within too =
    let Same : Type 0 = (row.size ≡ other.size) × (row.neighbour_size ≡ other.neighbour_size) in
    let by_cell : Decides (cell_of columns other == cell_of columns row) Same = (
      λ e. let places = same_from_place other.size other.neighbour_size row.size row.neighbour_size columns too within (eqb-true (cell_of columns other) (cell_of columns row) e) in (sym places.0, sym places.1),
      λ same. eq-eqb (cell_of columns other) (cell_of columns row) (ap (λ size. size * columns + other.neighbour_size) (sym same.0) ∙ ap (λ in_column. row.size * columns + in_column) (sym same.1)),
    ) in
    let by_sizes : Decides (same_sizes row other) Same = (
      λ e. let parts = both_true (row.size == other.size) (row.neighbour_size == other.neighbour_size) e in (eqb-true row.size other.size parts.0, eqb-true row.neighbour_size other.neighbour_size parts.1),
      λ same. ap (λ b. b && (row.neighbour_size == other.neighbour_size)) (eq-eqb row.size other.size same.0) ∙ eq-eqb row.neighbour_size other.neighbour_size same.1,
    ) in
    same_from_decides _ (same_sizes row other) by_cell by_sizes
  where
    both_true : (a b : Bool) → (a && b) ≡ true → (a ≡ true) × (b ≡ true)
    both_true true b e = (refl, e)
    both_true false b e = cc

-- so a cell is taken exactly where the same sizes were given before
pub taken : (columns : ℕ) (rows : List PairRow) (row : PairRow) → row.neighbour_size < columns → All (λ (other : PairRow). other.neighbour_size < columns) rows
    → is_some (pair_in columns rows (cell_of columns row)) ≡ list_any (same_sizes row) rows
taken columns [] row within all = refl
taken columns (other ∷ rows) row within all =
    ap (λ b. is_some (cond b (Some other.pair) (pair_in columns rows (cell_of columns row)))) (one_cell columns row other within (All-head (λ (other : PairRow). other.neighbour_size < columns) other rows all))
    ∙ either (same_sizes row other) other.pair (pair_in columns rows (cell_of columns row))
    ∙ ap (λ b. same_sizes row other || b) (taken columns rows row within (All-tail (λ (other : PairRow). other.neighbour_size < columns) other rows all))
  where
    either : (b : Bool) (pair : Pair) (o : Option Pair) → is_some (cond b (Some pair) o) ≡ (b || is_some o)
    either true pair o = refl
    either false pair o = refl

pub length-cells_of : (sizes columns : ℕ) (rows : List PairRow) → length (cells_of sizes columns rows) ≡ sizes * columns
length-cells_of sizes columns rows = length-map-range_with_len (pair_in columns rows) 0 (sizes * columns)

-- what stands in a cell
pub cells_of-at : (sizes columns : ℕ) (rows : List PairRow) (cell : ℕ) (d : Option Pair) → cell < sizes * columns → get_or (cells_of sizes columns rows) cell d ≡ pair_in columns rows cell
cells_of-at sizes columns rows cell d within = get_or-map-range_with_len (pair_in columns rows) 0 (sizes * columns) cell cell d within (omega arith)

-- at first no cell has a pair
pub no_rows : (sizes columns : ℕ) → replicate (sizes * columns) None ≡ cells_of sizes columns []
no_rows sizes columns = none_of 0 (sizes * columns)
  where
    none_of : (a n : ℕ) → replicate n None ≡ map (pair_in columns []) (range_with_len a n)
    none_of a zero = refl
    none_of a (suc n) = ap (λ os. None ∷ os) (none_of (a + 1) n)

-- the rules of a pair, by what it says
abbrev pub row_rules : ℕ → List PairRow → Option PairRow → List Rule
row_rules n rows row = at_section n (is_some row) PairReason ∷ at_section n (is_new rows row) Twice ∷ []

-- it has another form
pub no_row : (n : ℕ) (rows : List PairRow) (found read : Option PairRow) → read ≡ found → read ≡ None → first_broken (row_rules n rows found) ≡ Some (section_fault n PairReason)
no_row n rows found read value none = ap (λ row. first_broken (row_rules n rows row)) (sym value ∙ none)

-- its sizes were given before, or weren't
pub placed : (n : ℕ) (rows : List PairRow) (found read : Option PairRow) (row : PairRow) (old : Bool) → read ≡ found → read ≡ Some row → list_any (same_sizes row) rows ≡ old
    → first_broken (row_rules n rows found) ≡ (if old then Some (section_fault n Twice) else None)
placed n rows found read row old value some same =
    ap (λ row. first_broken (row_rules n rows row)) (sym value ∙ some) ∙ ap (λ b. first_broken (at_section n (not b) Twice ∷ [])) same ∙ by_cases old
  where
    by_cases : (b : Bool) → first_broken (at_section n (not b) Twice ∷ []) ≡ (if b then Some (section_fault n Twice) else None)
    by_cases true = refl
    by_cases false = refl

-- a row in range stands in a cell
pub in_cells : (sizes columns : ℕ) (row : PairRow) → row.size < sizes → row.neighbour_size < columns → cell_of columns row < sizes * columns
in_cells sizes columns row size in_column = let fits = mul-add-lt row.size columns row.neighbour_size sizes size in_column in omega (arith, mul_comm columns sizes)

-- the cell that was looked at tells it
pub looked : (sizes columns : ℕ) (rows : List PairRow) (row : PairRow) (cells : List (Option Pair)) (seen : Option Pair) → cells ≡ cells_of sizes columns rows → row.size < sizes → row.neighbour_size < columns
    → All (λ (other : PairRow). other.neighbour_size < columns) rows → seen ≡ get_or cells (cell_of columns row) seen → list_any (same_sizes row) rows ≡ is_some seen
looked sizes columns rows row cells seen is size in_column all at =
    sym (ap is_some (at ∙ ap (λ cs. get_or cs (cell_of columns row) seen) is ∙ cells_of-at sizes columns rows (cell_of columns row) seen (in_cells sizes columns row size in_column))
    ∙ taken columns rows row in_column all)

-- where they weren't, the cell is empty, and the row is put there
pub put : (sizes columns : ℕ) (rows more : List PairRow) (row : PairRow) (cells : List (Option Pair)) → cells ≡ cells_of sizes columns rows → more ≡ rows ++ row ∷ [] → row.neighbour_size < columns
    → All (λ (other : PairRow). other.neighbour_size < columns) rows → list_any (same_sizes row) rows ≡ false → set cells (cell_of columns row) (Some row.pair) ≡ cells_of sizes columns more
put sizes columns rows more row cells is next in_column all new =
    ap (λ cs. set cs (cell_of columns row) (Some row.pair)) is
    ∙ cells_of-push sizes columns rows row (none_there (pair_in columns rows (cell_of columns row)) (taken columns rows row in_column all ∙ new))
    ∙ ap (cells_of sizes columns) (sym next)
  where
    none_there : (o : Option Pair) → is_some o ≡ false → o ≡ None
    none_there None e = refl
    none_there (Some p) e = cc
