-- The rows of all tables stand by size number, and within a size they rise.
use Rattle.std.proofs.Common.{◌≡◌, ℕ, suc, ◌+◌, ◌<◌, ◌≤◌, List, [], ◌∷◌, ◌++◌, length, map, drop, get_or, All, refl, sym, ap, ◌∙◌, subst, arith}
use Rattle.std.proofs.lemmas.List.{at_drop_more}
use Rattle.std.proofs.lemmas.List.Elements.{All-nil, All-cons, All-append, All-map, All-weaker, All-head, All-tail}
use Rattle.size_catalogue.specs.Catalogue.{Catalogue}
use Rattle.friction_table.specs.declared.row.FlowRate.{FlowRate}
use Rattle.friction_table.specs.Rates.{AreRising, Rises}
use Rattle.friction_table.proofs.RisingLaws.{AreRising-tail}
use Rattle.friction_maker.specs.declared.air.Air.{Air}
use Rattle.friction_maker.specs.declared.making.MadeRow.{MadeRow}
use Rattle.friction_maker.specs.Making.{IsMadeTable, AreMade}
use Rattle.friction_maker.specs.MadeRows.{made_row, listed_from, listed, Follows, AreInOrder, IsRowOf, AreRowsOf, AreOfSizes}

-- ---- one table

-- without its second row a table rises too
skipped : (row next : FlowRate) (rows : List FlowRate) → AreRising (row ∷ next ∷ rows) → AreRising (row ∷ rows)
skipped row next [] rising = tt
skipped row next (third ∷ rows) rising = (omega (arith, rising.0, rising.2.0), omega (arith, rising.1, rising.2.1), rising.2.2)

-- the first row is below every other
first_below : (row : FlowRate) (rows : List FlowRate) → AreRising (row ∷ rows) → All (Rises row) rows
first_below row [] rising = All-nil (Rises row)
first_below row (next ∷ rows) rising =
    All-cons (Rises row) next rows (record { flow = rising.0; rate = rising.1 }) (first_below row rows (skipped row next rows rising))

follows : (n : ℕ) (row next : FlowRate) → Rises row next → Follows (made_row n row) (made_row n next)
follows n row next rises = record { size = omega arith; flow = λ same. rises.flow; rate = λ same. rises.rate }

table_in_order : (n : ℕ) (rows : List FlowRate) → AreRising rows → AreInOrder (map (λ at. made_row n at) rows)
table_in_order n [] rising = tt
table_in_order n (row ∷ rows) rising = (
  All-map (Follows (made_row n row)) (λ at. made_row n at) rows
      (All-weaker (Rises row) (λ next. Follows (made_row n row) (made_row n next)) (λ next. follows n row next) rows (first_below row rows rising)),
  table_in_order n rows (AreRising-tail row rows rising),
)

-- ---- all tables

-- the rows of later tables have greater size numbers
later_sizes : (n : ℕ) (tables : List (List FlowRate)) → All (λ row. n ≤ row.size) (listed_from n tables)
later_sizes n [] = All-nil (λ (row : MadeRow). n ≤ row.size)
later_sizes n (rows ∷ tables) =
    All-append (λ (row : MadeRow). n ≤ row.size) _ _
    (All-map (λ (row : MadeRow). n ≤ row.size) (λ at. made_row n at) rows (λ k other inside. omega arith))
    (All-weaker (λ (row : MadeRow). n + 1 ≤ row.size) (λ (row : MadeRow). n ≤ row.size) (λ row above. omega (arith, above)) _ (later_sizes (n + 1) tables))

behind : (n : ℕ) (row next : MadeRow) → row.size ≡ n → n + 1 ≤ next.size → Follows row next
behind n row next here above = record {
  size = omega (arith, here, above);
  flow = λ same. absurd (omega (arith, here, above, same));
  rate = λ same. absurd (omega (arith, here, above, same));
}

in_order-append : (n : ℕ) (rows later : List MadeRow) → All (λ row. row.size ≡ n) rows → All (λ row. n + 1 ≤ row.size) later → AreInOrder rows → AreInOrder later → AreInOrder (rows ++ later)
in_order-append n [] later here above order orders = orders
in_order-append n (row ∷ rows) later here above order orders = (
  All-append (Follows row) rows later order.0
      (All-weaker (λ (next : MadeRow). n + 1 ≤ next.size) (Follows row) (λ next. behind n row next (All-head (λ (r : MadeRow). r.size ≡ n) row rows here)) later above),
  in_order-append n rows later (All-tail (λ (r : MadeRow). r.size ≡ n) row rows here) above order.1 orders,
)

-- the rows of a table stand before those of the later ones
pub listed-step : (tables : List (List FlowRate)) (i : ℕ) (rows : List FlowRate) → i < length tables → rows ≡ get_or tables i rows
    → listed_from i (drop i tables) ≡ map (λ at. made_row i at) rows ++ listed_from (i + 1) (drop (i + 1) tables)
listed-step tables i rows inside at =
    at_drop_more (listed_from i) tables i rows inside ∙ ap (λ rs. map (λ at. made_row i at) rs ++ listed_from (i + 1) (drop (i + 1) tables)) (sym at)

-- the table at each place, counted from n, is made
abbrev pub EachMade : Catalogue → Air → ℕ → List (List FlowRate) → Type 0
EachMade sizes air n tables = (k : ℕ) (other : List FlowRate) → k < length tables → IsMadeTable sizes air (n + k) (get_or tables k other)

first_made : (sizes : Catalogue) (air : Air) (n : ℕ) (rows : List FlowRate) (tables : List (List FlowRate)) → EachMade sizes air n (rows ∷ tables) → IsMadeTable sizes air n rows
first_made sizes air n rows tables each =
    let here : n + 0 ≡ n = omega arith in subst (λ (k : ℕ). IsMadeTable sizes air k rows) here (each 0 rows (omega arith))

rest_made : (sizes : Catalogue) (air : Air) (n : ℕ) (rows : List FlowRate) (tables : List (List FlowRate)) → EachMade sizes air n (rows ∷ tables) → EachMade sizes air (n + 1) tables
rest_made sizes air n rows tables each k other inside =
    let there : n + suc k ≡ (n + 1) + k = omega arith in
    subst (λ (i : ℕ). IsMadeTable sizes air i (get_or tables k other)) there (each (suc k) other (omega (arith, inside)))

listed_in_order : (sizes : Catalogue) (air : Air) (n : ℕ) (tables : List (List FlowRate)) → EachMade sizes air n tables → AreInOrder (listed_from n tables)
listed_in_order sizes air n [] each = tt
listed_in_order sizes air n (rows ∷ tables) each =
    in_order-append n _ _
    (All-map (λ (row : MadeRow). row.size ≡ n) (λ at. made_row n at) rows (λ k other inside. refl))
    (later_sizes (n + 1) tables)
    (table_in_order n rows (first_made sizes air n rows tables each).table.rising)
    (listed_in_order sizes air (n + 1) tables (rest_made sizes air n rows tables each))

listed_made : (sizes : Catalogue) (air : Air) (n : ℕ) (tables : List (List FlowRate)) → EachMade sizes air n tables → AreRowsOf sizes air (listed_from n tables)
listed_made sizes air n [] each = All-nil (IsRowOf sizes air)
listed_made sizes air n (rows ∷ tables) each =
    let made = first_made sizes air n rows tables each in
    All-append (IsRowOf sizes air) _ _
    (All-map (IsRowOf sizes air) (λ at. made_row n at) rows (λ k other inside. record { bounds = made.table.bounds k other inside; rate = made.rates k other inside }))
    (listed_made sizes air (n + 1) tables (rest_made sizes air n rows tables each))

-- sizes of the tables are counted
listed_sizes : (n last : ℕ) (tables : List (List FlowRate)) → n + length tables ≤ last → All (λ row. row.size < last) (listed_from n tables)
listed_sizes n last [] few = All-nil (λ (row : MadeRow). row.size < last)
listed_sizes n last (rows ∷ tables) few =
    All-append (λ (row : MadeRow). row.size < last) _ _
    (All-map (λ (row : MadeRow). row.size < last) (λ at. made_row n at) rows (λ k other inside. omega (arith, few)))
    (listed_sizes (n + 1) last tables (omega (arith, few)))

from_zero : (sizes : Catalogue) (air : Air) (tables : List (List FlowRate)) → AreMade sizes air tables → EachMade sizes air 0 tables
from_zero sizes air tables are k other inside =
    let here : k ≡ 0 + k = omega arith in subst (λ (i : ℕ). IsMadeTable sizes air i (get_or tables k other)) here (are.each k other inside)

-- the rows that are listed stand in order
pub in_order : (sizes : Catalogue) (air : Air) (tables : List (List FlowRate)) (rows : List MadeRow) → AreMade sizes air tables → rows ≡ listed tables → AreInOrder rows
in_order sizes air tables rows are is = subst AreInOrder (sym is) (listed_in_order sizes air 0 tables (from_zero sizes air tables are))

-- and each is made
pub rows_made : (sizes : Catalogue) (air : Air) (tables : List (List FlowRate)) (rows : List MadeRow) → AreMade sizes air tables → rows ≡ listed tables → AreRowsOf sizes air rows
rows_made sizes air tables rows are is = subst (AreRowsOf sizes air) (sym is) (listed_made sizes air 0 tables (from_zero sizes air tables are))

-- of a size of the catalogue
pub of_sizes : (sizes : Catalogue) (air : Air) (tables : List (List FlowRate)) (rows : List MadeRow) → AreMade sizes air tables → rows ≡ listed tables → AreOfSizes sizes rows
of_sizes sizes air tables rows are is = subst (AreOfSizes sizes) (sym is) (listed_sizes 0 (length sizes.sizes) tables (omega (arith, are.all)))
