-- Cells of a table, and one more.
use Rattle.std.proofs.Common.{◌≡◌, ℕ, ℤ, suc, ◌+◌, ◌-◌, ◌*◌, ◌<◌, ◌≤◌, List, [], ◌∷◌, ◌++◌, length, map, Bool, true, false, cond, Option, Some, None, option_map, slice_get, refl, sym, ap, ◌∙◌, subst, arith, add-zero, length-append}
use Rattle.std.specs.Prelude.{◌==◌, ◌&&◌, ◌||◌, nat_lt, find, is_some, if◌then◌else◌}
use Rattle.std.specs.List.{list_any, flat_map, position_from, IsDistinct}
use Rattle.std.specs.Option.{option_or}
use Rattle.std.specs.Cmp.{IsEquivalence}
use Rattle.std.specs.HashMap.{HashMap, get, Updates}
use Rattle.std.proofs.lemmas.Bool.{eqb-true, leb-true}
use Rattle.std.proofs.lemmas.Cmp.{nat_eq_equiv, and_equiv, on_equiv}
use Rattle.std.proofs.lemmas.List.{map-append, length-map}
use Rattle.std.proofs.lemmas.List.Elements.{All-nil, All-push}
use Rattle.std.proofs.lemmas.List.Folds.{list_any-append}
use Rattle.std.proofs.lemmas.Map.Keys.{IsDistinct-push}
use Rattle.std.proofs.lemmas.Map.Made.{length-le_from_is_member}
use Rattle.std.proofs.lemmas.Nat.{mul-le}
use Rattle.std.proofs.lemmas.Option.{slice_get_within}
use Rattle.duct_units.specs.declared.fault.Reason.{Reason}
use Rattle.duct_units.specs.declared.fault.Reason.TheVariants.{Twice, TooMany}
use Rattle.fitting_tables.specs.declared.limits.TheConstants.{MAX_BREAKPOINTS}
use Rattle.fitting_tables.specs.declared.row.Cell.{Cell}
use Rattle.fitting_tables.specs.Breakpoints.{with_breakpoint, with_breakpoints, breakpoints_of}
use Rattle.fitting_tables.specs.Cells.{refusal_of, areas_of, flows_of, is_at, value_at, pair_of, same_pair, areas_fit, flows_fit, IsCell, IsGrid}

-- ---- the first place that passes a test

position-push : {A : Type 0} (p : A → Bool) (i : ℕ) (xs : List A) (y : A) → position_from p i (xs ++ y ∷ []) ≡ option_or (position_from p i xs) (cond (p y) (Some (i + length xs)) None)
position-push p i [] y = ap (λ k. cond (p y) (Some k) None) (sym (add-zero i))
position-push p i (x ∷ xs) y =
    let more : i + 1 + length xs ≡ i + length (x ∷ xs) = omega arith in
    elim (p x) as (λ t. cond t (Some i) (position_from p (i + 1) (xs ++ y ∷ [])) ≡ option_or (cond t (Some i) (position_from p (i + 1) xs)) (cond (p y) (Some (i + length (x ∷ xs))) None)) [
      | true ↦ refl
      | false ↦ position-push p (i + 1) xs y ∙ ap (λ k. option_or (position_from p (i + 1) xs) (cond (p y) (Some k) None)) more
    ]

position-none : {A : Type 0} (p : A → Bool) (i : ℕ) (xs : List A) → find p xs ≡ None → position_from p i xs ≡ None
position-none p i [] none = refl
position-none p i (x ∷ xs) none =
    elim (p x) as (λ t. cond t (Some x) (find p xs) ≡ None → cond t (Some i) (position_from p (i + 1) xs) ≡ None) [
      | true ↦ λ e. cc e
      | false ↦ λ e. position-none p (i + 1) xs e
    ] none

find-none : {A : Type 0} (p : A → Bool) (i : ℕ) (xs : List A) → position_from p i xs ≡ None → find p xs ≡ None
find-none p i [] none = refl
find-none p i (x ∷ xs) none =
    elim (p x) as (λ t. cond t (Some i) (position_from p (i + 1) xs) ≡ None → cond t (Some x) (find p xs) ≡ None) [
      | true ↦ λ e. cc e
      | false ↦ λ e. find-none p (i + 1) xs e
    ] none

-- the one that was found stands at the place
record StandsAt {A : Type 0} (p : A → Bool) (i k : ℕ) (xs : List A) : Type 0 where
  one : A
  least : i ≤ k
  found : find p xs ≡ Some one
  at : slice_get xs (k - i) ≡ Some one

position-find : {A : Type 0} (p : A → Bool) (i k : ℕ) (xs : List A) → position_from p i xs ≡ Some k → StandsAt p i k xs
position-find p i k [] e = cc e
position-find {A} p i k (x ∷ xs) e =
    elim (p x) as (λ t. p x ≡ t → cond t (Some i) (position_from p (i + 1) xs) ≡ Some k → StandsAt p i k (x ∷ xs)) [
      | true ↦ λ passes here.
          let same : i ≡ k = cc in
          let none : k - i ≡ 0 = omega arith in
          record { one = x; least = omega arith; found = ap (λ (t : Bool). cond t (Some x) (find p xs)) passes; at = ap (slice_get (x ∷ xs)) none }
      | false ↦ λ fails later.
          let s = position-find p (i + 1) k xs later in
          let least : i ≤ k = omega (arith, s.least) in
          let more : k - i ≡ suc (k - (i + 1)) = omega (arith, s.least) in
          record { one = s.one; least = least; found = ap (λ (t : Bool). cond t (Some x) (find p xs)) fails ∙ s.found; at = ap (slice_get (x ∷ xs)) more ∙ s.at }
    ] refl e

-- ---- the value of a cell

-- no place, no value
pub value-none : (area flow : ℕ) (cells : List Cell) → None ≡ position_from (is_at area flow) 0 cells → None ≡ value_at area flow cells
value-none area flow cells none = ap (option_map (λ cell. cell.value)) (sym (find-none (is_at area flow) 0 cells (sym none)))

-- a place is one of theirs
pub place-within : (area flow k : ℕ) (cells : List Cell) → Some k ≡ position_from (is_at area flow) 0 cells → k < length cells
place-within area flow k cells e =
    let s = position-find (is_at area flow) 0 k cells (sym e) in
    let inside = slice_get_within cells (k - 0) s.one s.at in
    omega arith

-- the value of the cell at the place
pub value-at : (area flow k : ℕ) (cells : List Cell) (cell : Cell) → Some k ≡ position_from (is_at area flow) 0 cells → slice_get cells k ≡ Some cell → Some cell.value ≡ value_at area flow cells
value-at area flow k cells cell e at =
    let s = position-find (is_at area flow) 0 k cells (sym e) in
    let first : k ≡ k - 0 = omega arith in
    let same : Some cell ≡ find (is_at area flow) cells = sym at ∙ ap (slice_get cells) first ∙ s.at ∙ sym s.found in
    ap (option_map (λ c. c.value)) same

-- ---- one more cell

with_breakpoints-append : (bs xs : List ℕ) (y : ℕ) → with_breakpoints bs (xs ++ y ∷ []) ≡ with_breakpoint y (with_breakpoints bs xs)
with_breakpoints-append bs [] y = refl
with_breakpoints-append bs (x ∷ xs) y = with_breakpoints-append (with_breakpoint x bs) xs y

pub areas_of-push : (cells : List Cell) (cell : Cell) → areas_of (cells ++ cell ∷ []) ≡ with_breakpoint cell.area (areas_of cells)
areas_of-push cells cell = ap breakpoints_of (map-append (λ (c : Cell). c.area) cells (cell ∷ [])) ∙ with_breakpoints-append [] (map (λ (c : Cell). c.area) cells) cell.area

pub flows_of-push : (cells : List Cell) (cell : Cell) → flows_of (cells ++ cell ∷ []) ≡ with_breakpoint cell.flow (flows_of cells)
flows_of-push cells cell = ap breakpoints_of (map-append (λ (c : Cell). c.flow) cells (cell ∷ [])) ∙ with_breakpoints-append [] (map (λ (c : Cell). c.flow) cells) cell.flow

pub same_pair-laws : IsEquivalence same_pair
same_pair-laws = and_equiv (on_equiv (λ (p : ℕ × ℕ). p.0) nat_eq_equiv) (on_equiv (λ (p : ℕ × ℕ). p.1) nat_eq_equiv)

both_same : (a b : Bool) → (a && b) ≡ true → (a ≡ true) × (b ≡ true)
both_same true b e = (refl, e)
both_same false b e = cc e

no_value : {A B : Type 0} (f : A → B) (o : Option A) → option_map f o ≡ None → o ≡ None
no_value f None e = refl
no_value f (Some x) e = cc e

-- the map where it has one more cell
pub places-push : {S : Type 0} (cells : List Cell) (cell : Cell) (places grown : HashMap (ℕ × ℕ) ℕ S) (n area flow : ℕ)
    → get same_pair places (area, flow) ≡ position_from (is_at area flow) 0 cells → value_at cell.area cell.flow cells ≡ None
    → Updates same_pair places grown (pair_of cell) (Some n) → n ≡ length cells → get same_pair grown (area, flow) ≡ position_from (is_at area flow) 0 (cells ++ cell ∷ [])
places-push cells cell places grown n area flow held none updates count =
    updates.0 (area, flow)
    ∙ ap (λ t. cond t (Some n) (get same_pair places (area, flow))) (same_pair-laws.symm (pair_of cell) (area, flow))
    ∙ ap (λ o. cond (is_at area flow cell) (Some n) o) held
    ∙ here
    ∙ ap (λ k. option_or (position_from (is_at area flow) 0 cells) (cond (is_at area flow cell) (Some k) None)) (first (length cells))
    ∙ sym (position-push (is_at area flow) 0 cells cell)
  where
    first : (n : ℕ) → n ≡ 0 + n
    first n = omega arith

    other : (o : Option ℕ) → o ≡ option_or o None
    other None = refl
    other (Some k) = refl

    here : cond (is_at area flow cell) (Some n) (position_from (is_at area flow) 0 cells) ≡ option_or (position_from (is_at area flow) 0 cells) (cond (is_at area flow cell) (Some (length cells)) None)
    here =
        elim (is_at area flow cell) as (λ t. is_at area flow cell ≡ t → cond t (Some n) (position_from (is_at area flow) 0 cells) ≡ option_or (position_from (is_at area flow) 0 cells) (cond t (Some (length cells)) None)) [
          | true ↦ λ same.
              let (a, f) = both_same (area == cell.area) (flow == cell.flow) same in
              let at_area : area ≡ cell.area = eqb-true area cell.area a in
              let at_flow : flow ≡ cell.flow = eqb-true flow cell.flow f in
              let gone : position_from (is_at area flow) 0 cells ≡ None =
              position-none (is_at area flow) 0 cells (ap (λ x. find (is_at x flow) cells) at_area ∙ ap (λ x. find (is_at cell.area x) cells) at_flow ∙ no_value (λ (c : Cell). c.value) (find (is_at cell.area cell.flow) cells) none) in
              ap (λ k. Some k) count ∙ sym (ap (λ o. option_or o (Some (length cells))) gone)
          | false ↦ λ apart. other (position_from (is_at area flow) 0 cells)
        ] refl

-- no pair of theirs is the cell's
not_member : (area flow : ℕ) (cells : List Cell) → find (is_at area flow) cells ≡ None → list_any (same_pair (area, flow)) (map pair_of cells) ≡ false
not_member area flow [] none = refl
not_member area flow (cell ∷ cells) none =
    elim (is_at area flow cell) as (λ t. cond t (Some cell) (find (is_at area flow) cells) ≡ None → (t || list_any (same_pair (area, flow)) (map pair_of cells)) ≡ false) [
      | true ↦ λ e. cc e
      | false ↦ λ e. not_member area flow cells e
    ] none

-- what holds of a cell that is allowed
pub record IsAllowed (cell : Cell) (cells : List Cell) : Type 0 where
  pub absent : value_at cell.area cell.flow cells ≡ None
  pub areas : areas_fit cell cells ≡ true
  pub flows : flows_fit cell cells ≡ true

pub allowed : (cell : Cell) (cells : List Cell) → refusal_of cell cells ≡ None → IsAllowed cell cells
allowed cell cells e =
    let (absent, areas, flows) = parts (value_at cell.area cell.flow cells) (areas_fit cell cells) (flows_fit cell cells) e in
    record { absent = absent; areas = areas; flows = flows }
  where
    parts : (o : Option ℤ) (a f : Bool) → ◌≡◌ {A = Option Reason} (if is_some o then Some Twice else if a && f then None else Some TooMany) None → (o ≡ None) × (a ≡ true) × (f ≡ true)
    parts (Some v) a f e = cc e
    parts None true true e = (refl, refl, refl)
    parts None true false e = cc e
    parts None false f e = cc e

-- a cell that is allowed leaves a table
pub IsGrid-push : (cells : List Cell) (cell : Cell) → IsGrid cells → IsCell cell → refusal_of cell cells ≡ None → IsGrid (cells ++ cell ∷ [])
IsGrid-push cells cell is bounds none =
    let holds = allowed cell cells none in
    record {
      areas_fit = subst (λ (bs : List ℕ). length bs ≤ MAX_BREAKPOINTS) (sym (areas_of-push cells cell)) (leb-true (length (with_breakpoint cell.area (areas_of cells))) MAX_BREAKPOINTS holds.areas);
      flows_fit = subst (λ (bs : List ℕ). length bs ≤ MAX_BREAKPOINTS) (sym (flows_of-push cells cell)) (leb-true (length (with_breakpoint cell.flow (flows_of cells))) MAX_BREAKPOINTS holds.flows);
      bounds = All-push IsCell cells cell is.bounds bounds;
      once = subst (IsDistinct same_pair) (sym (map-append pair_of cells (cell ∷ [])))
          (IsDistinct-push same_pair-laws (map pair_of cells) (pair_of cell) is.once (not_member cell.area cell.flow cells (no_value (λ (c : Cell). c.value) (find (is_at cell.area cell.flow) cells) holds.absent)));
    }

-- no cell is a table, and the first one leaves one
no_cells : IsGrid []
unfolding IsDistinct
no_cells = record { areas_fit = omega arith; flows_fit = omega arith; bounds = All-nil IsCell; once = tt }

pub IsGrid-first : (cell : Cell) → IsCell cell → IsGrid (cell ∷ [])
IsGrid-first cell bounds = IsGrid-push [] cell no_cells bounds refl

-- ---- how many cells there are

-- the numbers with one more
with_breakpoint-any : (x y : ℕ) (bs : List ℕ) → list_any (λ b. x == b) (with_breakpoint y bs) ≡ ((x == y) || list_any (λ b. x == b) bs)
with_breakpoint-any x y [] = refl
with_breakpoint-any x y (b ∷ bs) =
    elim (y == b) as (λ t. (y == b) ≡ t → list_any (λ b. x == b) (cond t (b ∷ bs) (cond (nat_lt y b) (y ∷ b ∷ bs) (b ∷ with_breakpoint y bs))) ≡ ((x == y) || list_any (λ b. x == b) (b ∷ bs))) [
      | true ↦ λ same. let e : y ≡ b = eqb-true y b same in subst (λ z. ((x == b) || list_any (λ c. x == c) bs) ≡ ((x == z) || ((x == b) || list_any (λ c. x == c) bs))) (sym e) (twice (x == b) (list_any (λ c. x == c) bs))
      | false ↦ λ other.
          elim (nat_lt y b) as (λ t. list_any (λ b. x == b) (cond t (y ∷ b ∷ bs) (b ∷ with_breakpoint y bs)) ≡ ((x == y) || list_any (λ b. x == b) (b ∷ bs))) [
            | true ↦ refl
            | false ↦ ap (λ t. (x == b) || t) (with_breakpoint-any x y bs) ∙ swap (x == b) (x == y) (list_any (λ c. x == c) bs)
          ]
    ] refl
  where
    twice : (a b : Bool) → (a || b) ≡ (a || (a || b))
    twice true b = refl
    twice false b = refl

    swap : (a b c : Bool) → (a || (b || c)) ≡ (b || (a || c))
    swap true true c = refl
    swap true false c = refl
    swap false true c = refl
    swap false false c = refl

-- each number of a list is among its breakpoints
breakpoints-any : (x : ℕ) (bs xs : List ℕ) → list_any (λ b. x == b) (with_breakpoints bs xs) ≡ (list_any (λ b. x == b) bs || list_any (λ b. x == b) xs)
breakpoints-any x bs [] = or_false (list_any (λ b. x == b) bs)
  where
    or_false : (a : Bool) → a ≡ (a || false)
    or_false true = refl
    or_false false = refl
breakpoints-any x bs (y ∷ ys) =
    breakpoints-any x (with_breakpoint y bs) ys
    ∙ ap (λ t. t || list_any (λ b. x == b) ys) (with_breakpoint-any x y bs)
    ∙ around (x == y) (list_any (λ b. x == b) bs) (list_any (λ b. x == b) ys)
  where
    around : (a b c : Bool) → ((a || b) || c) ≡ (b || (a || c))
    around true true c = refl
    around true false c = refl
    around false true c = refl
    around false false c = refl

-- all pairs of two lists
abbrev pub pairs : List ℕ → List ℕ → List (ℕ × ℕ)
pairs areas flows = flat_map (λ a. map (λ f. (a, f)) flows) areas

length-pairs : (areas flows : List ℕ) → length (pairs areas flows) ≡ length areas * length flows
length-pairs [] flows = omega arith
length-pairs (a ∷ areas) flows =
    length-append (map (λ f. (a, f)) flows) (pairs areas flows) ∙ omega (arith, length-map {B = ℕ × ℕ} flows (λ (f : ℕ). (a, f)), length-pairs areas flows)

row-any : (x y a : ℕ) (flows : List ℕ) → list_any (same_pair (x, y)) (map (λ f. (a, f)) flows) ≡ ((x == a) && list_any (λ f. y == f) flows)
row-any x y a [] = and_false (x == a)
  where
    and_false : (t : Bool) → false ≡ (t && false)
    and_false true = refl
    and_false false = refl
row-any x y a (f ∷ flows) = ap (λ t. same_pair (x, y) (a, f) || t) (row-any x y a flows) ∙ apart (x == a) (y == f) (list_any (λ g. y == g) flows)
  where
    apart : (a b c : Bool) → ((a && b) || (a && c)) ≡ (a && (b || c))
    apart true b c = refl
    apart false b c = refl

pairs-any : (x y : ℕ) (areas flows : List ℕ) → list_any (λ f. y == f) flows ≡ true → list_any (same_pair (x, y)) (pairs areas flows) ≡ list_any (λ a. x == a) areas
pairs-any x y [] flows there = refl
pairs-any x y (a ∷ areas) flows there =
    list_any-append (same_pair (x, y)) (map (λ f. (a, f)) flows) (pairs areas flows)
    ∙ ap (λ t. t || list_any (same_pair (x, y)) (pairs areas flows)) (row-any x y a flows ∙ ap (λ t. (x == a) && t) there ∙ and_true (x == a))
    ∙ ap (λ t. (x == a) || t) (pairs-any x y areas flows there)
  where
    and_true : (t : Bool) → (t && true) ≡ t
    and_true true = refl
    and_true false = refl

-- a pair of theirs has one of their ratios of each kind
member-parts : (x y : ℕ) (cells : List Cell) → list_any (same_pair (x, y)) (map pair_of cells) ≡ true
    → (list_any (λ b. x == b) (map (λ (c : Cell). c.area) cells) ≡ true) × (list_any (λ b. y == b) (map (λ (c : Cell). c.flow) cells) ≡ true)
member-parts x y [] e = cc e
member-parts x y (cell ∷ cells) e =
    either (x == cell.area) (y == cell.flow) (list_any (same_pair (x, y)) (map pair_of cells)) (list_any (λ b. x == b) (map (λ (c : Cell). c.area) cells)) (list_any (λ b. y == b) (map (λ (c : Cell). c.flow) cells))
    (member-parts x y cells) e
  where
    either : (a f t ta tf : Bool) → (t ≡ true → (ta ≡ true) × (tf ≡ true)) → ((a && f) || t) ≡ true → ((a || ta) ≡ true) × ((f || tf) ≡ true)
    either true true t ta tf later e = (refl, refl)
    either true false t ta tf later e = (refl, (later e).1)
    either false true t ta tf later e = ((later e).0, refl)
    either false false t ta tf later e = later e

-- 20 area ratios by 20 flow ratios are 400 cells
pub few_cells : (cells : List Cell) → IsGrid cells → length cells ≤ 400
few_cells cells is =
    let most : length (map pair_of cells) ≤ length (pairs (areas_of cells) (flows_of cells)) =
    length-le_from_is_member same_pair-laws (map pair_of cells) (pairs (areas_of cells) (flows_of cells)) is.once (λ q e.
    let (area, flow) = member-parts q.0 q.1 cells e in
    pairs-any q.0 q.1 (areas_of cells) (flows_of cells) (breakpoints-any q.1 [] (map (λ (c : Cell). c.flow) cells) ∙ flow)
    ∙ breakpoints-any q.0 [] (map (λ (c : Cell). c.area) cells) ∙ area) in
    let product : length (areas_of cells) * length (flows_of cells) ≤ 20 * 20 = mul-le (length (areas_of cells)) (length (flows_of cells)) 20 20 is.areas_fit is.flows_fit in
    omega (arith, most, product, length-map cells pair_of, length-pairs (areas_of cells) (flows_of cells))

-- ---- a table with a cell

with_breakpoint-some : (x : ℕ) (bs : List ℕ) → 0 < length (with_breakpoint x bs)
with_breakpoint-some x [] = omega arith
with_breakpoint-some x (b ∷ bs) =
    elim (x == b) as (λ t. 0 < length (cond t (b ∷ bs) (cond (nat_lt x b) (x ∷ b ∷ bs) (b ∷ with_breakpoint x bs)))) [
      | true ↦ omega arith
      | false ↦ elim (nat_lt x b) as (λ t. 0 < length (cond t (x ∷ b ∷ bs) (b ∷ with_breakpoint x bs))) [ true ↦ omega arith | false ↦ omega arith ]
    ]

with_breakpoints-some : (bs xs : List ℕ) → 0 < length bs → 0 < length (with_breakpoints bs xs)
with_breakpoints-some bs [] some = some
with_breakpoints-some bs (x ∷ xs) some = with_breakpoints-some (with_breakpoint x bs) xs (with_breakpoint-some x bs)

-- has a ratio of each kind
pub some_area : (cells : List Cell) → 0 < length cells → 0 < length (areas_of cells)
some_area [] some = absurd (omega arith)
some_area (cell ∷ cells) some = with_breakpoints-some (cell.area ∷ []) (map (λ (c : Cell). c.area) cells) (omega arith)

pub some_flow : (cells : List Cell) → 0 < length cells → 0 < length (flows_of cells)
some_flow [] some = absurd (omega arith)
some_flow (cell ∷ cells) some = with_breakpoints-some (cell.flow ∷ []) (map (λ (c : Cell). c.flow) cells) (omega arith)
