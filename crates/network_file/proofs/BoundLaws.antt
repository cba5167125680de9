-- Numbers that were read, of fans and of pairs: each is within its bounds.
use Rattle.std.proofs.Common.{◌≡◌, ℕ, ◌≤◌, List, [], ◌∷◌, Bool, true, false, ◌&&◌, ◌==◌, cond, Option, Some, None, is_some, refl, ap, subst}
use Rattle.std.specs.Prelude.{unwrap_or, option_and_then, nat_le, ℤ, pos, negsuc}
use Rattle.std.proofs.lemmas.Bool.{leb-true}
use Rattle.toml.specs.Data.{Data, as_integer}
use Rattle.duct_definitions.specs.Network.{IsBounded}
use Rattle.file_definitions.specs.Document.{bounded}
use Rattle.duct_definitions.specs.declared.limits.TheConstants.{MAX_LOSS, MAX_PRICE}
use Rattle.network_file.specs.Pairs.{size_in, neighbour_size_in, row_of, rows_of, cell_of, pair_in}
use Rattle.network_file.specs.declared.pairs.PairRow.{PairRow}
use Rattle.std.specs.List.{cons_option}
use Rattle.section_tables.proofs.NameLaws.{some_is}

-- a number that was read is within its bounds
pub bounded_is : (low high : ℕ) (number : Option ℤ) (n : ℕ) → bounded low high number ≡ Some n → (low ≤ n) × (n ≤ high)
bounded_is low high None n e = cc
bounded_is low high (Some (negsuc m)) n e = cc
bounded_is low high (Some (pos m)) n e = in_bounds (nat_le low m) (nat_le m high) refl refl e
  where
    in_bounds : (a b : Bool) → nat_le low m ≡ a → nat_le m high ≡ b → cond (a && b) (Some m) None ≡ Some n → (low ≤ n) × (n ≤ high)
    in_bounds true true above below e = let same : m ≡ n = cc in subst (λ k. (low ≤ k) × (k ≤ high)) same (leb-true low m above, leb-true m high below)
    in_bounds true false above below e = cc
    in_bounds false b above below e = cc

pub number_within : (low high : ℕ) (number : Option ℤ) → is_some (bounded low high number) ≡ true → (low ≤ unwrap_or (bounded low high number) 0) × (unwrap_or (bounded low high number) 0 ≤ high)
number_within low high number there = bounded_is low high number (unwrap_or (bounded low high number) 0) (some_is (bounded low high number) 0 there)

abbrev row_with : ℕ → ℕ → ℕ → ℕ → PairRow
row_with size other loss price = record { size = size; neighbour_size = other; pair = record { loss = loss; price = price } }

-- what a pair says is within its bounds
pub row_bounded : (sizes : ℕ) (neighbour_count : Option ℕ) (values : List Data) (row : PairRow) → row_of sizes neighbour_count values ≡ Some row → (row.pair.loss ≤ MAX_LOSS) × (row.pair.price ≤ MAX_PRICE)
row_bounded sizes neighbour_count [] row e = cc
row_bounded sizes neighbour_count (a ∷ []) row e = cc
row_bounded sizes neighbour_count (a ∷ b ∷ []) row e = cc
row_bounded sizes neighbour_count (a ∷ b ∷ c ∷ []) row e = cc
row_bounded sizes neighbour_count (a ∷ b ∷ c ∷ d ∷ x ∷ more) row e = cc
row_bounded sizes neighbour_count (a ∷ b ∷ c ∷ d ∷ []) row e =
    let parts = fields (size_in sizes a) (neighbour_size_in neighbour_count b) (bounded 0 MAX_LOSS (as_integer c)) (bounded 0 MAX_PRICE (as_integer d)) e in
    ((bounded_is 0 MAX_LOSS (as_integer c) row.pair.loss parts.0).1, (bounded_is 0 MAX_PRICE (as_integer d) row.pair.price parts.1).1)
  where
    fields : (size other loss price : Option ℕ)
        → option_and_then (λ k. option_and_then (λ g. option_and_then (λ l. option_and_then (λ p. Some (row_with k g l p)) price) loss) other) size ≡ Some row
        → (loss ≡ Some row.pair.loss) × (price ≡ Some row.pair.price)
    fields None other loss price e = cc
    fields (Some k) None loss price e = cc
    fields (Some k) (Some g) None price e = cc
    fields (Some k) (Some g) (Some l) None e = cc
    fields (Some k) (Some g) (Some l) (Some p) e = let same : row_with k g l p ≡ row = cc in (ap (λ (r : PairRow). Some r.pair.loss) same, ap (λ (r : PairRow). Some r.pair.price) same)

pub cell_bounded : (sizes : ℕ) (neighbour_count : Option ℕ) (pairs : List (List Data)) (width cell : ℕ) → IsBounded (pair_in width (rows_of sizes neighbour_count pairs) cell)
cell_bounded sizes neighbour_count [] width cell = tt
cell_bounded sizes neighbour_count (values ∷ pairs) width cell = first_row (row_of sizes neighbour_count values) refl (cell_bounded sizes neighbour_count pairs width cell)
  where
    first_row : (o : Option PairRow) → row_of sizes neighbour_count values ≡ o → IsBounded (pair_in width (rows_of sizes neighbour_count pairs) cell) → IsBounded (pair_in width (cons_option o (rows_of sizes neighbour_count pairs)) cell)
    first_row None is others = others
    first_row (Some row) is others =
        elim (cell_of width row == cell) as (λ b. IsBounded (cond b (Some row.pair) (pair_in width (rows_of sizes neighbour_count pairs) cell)))
        [ true ↦ row_bounded sizes neighbour_count values row is | false ↦ others ]
