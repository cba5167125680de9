-- A tree of sections, as what stands next to each section: ways are routes, and sums over the sections of a way or
-- beyond a section are sums along a route or beyond a place.
use Rattle.std.proofs.Common.{◌≡◌, ℕ, zero, suc, ◌+◌, ◌<◌, Bool, true, false, refl, arith, ap, sym, ◌∙◌, cond, inl, inr, subst, Option, Some, None, List, [], ◌∷◌, ◌||◌}
use Rattle.std.proofs.lemmas.Bool.{false_from_ne_true}
use Rattle.std.proofs.lemmas.Bool.Decides.{leb_tells}
use Rattle.std.proofs.lemmas.List.Sums.{sum_by-cons, sum_by-append}
use Rattle.std.proofs.lemmas.Option.{slice_get_past}
use Rattle.std.specs.Prelude.{◌==◌, filter, sum_by, unwrap_or}
use Rattle.std.specs.List.{range_with_len, list_any}
use Rattle.duct_units.specs.declared.side.Side.{Side}
use Rattle.duct_definitions.specs.Tree.{Tree, IsTree, section_count, neighbour, side, way, passes}
use Rattle.duct_definitions.proofs.TreeLaws.{earlier}
use Rattle.duct_definitions.proofs.SectionLists.{chosen-suc}
use Rattle.duct_definitions.proofs.WayLaws.{way-at_fan, way-beside}
use Rattle.tree_sums.specs.Route.{Place, Fan, At, same, Falls, goes_by}
use Rattle.tree_sums.specs.Sums.{along, total, gated}
use Rattle.tree_sums.proofs.Climb.{climb}
use Rattle.tree_sums.proofs.Places.{same-true, same-sym, at-number}
use Rattle.tree_sums.proofs.Split.{goes_by-fan, goes_by-at, goes_by-le}
use Rattle.tree_sums.proofs.Along.{along-fan, along-self, along-on}
use Rattle.tree_sums.proofs.Beyond.{first-step}

-- the fan's side where there is no neighbour
abbrev pub place_of : Side → Option ℕ → Place
place_of x None = Fan x
place_of x (Some n) = At n

-- what stands next to a section
abbrev pub next_in : Tree → ℕ → Place
next_in t s = place_of (side t s) (neighbour t s)

fan-side : (x y : Side) → Fan x ≡ Fan y → x ≡ y
fan-side x y is = cc

place_of-at : (x : Side) (o : Option ℕ) (n : ℕ) → place_of x o ≡ At n → o ≡ Some n
place_of-at x None n is = absurd (cc is)
place_of-at x (Some m) n is = ap Some (at-number m n is)

place_of-fan : (x y : Side) (o : Option ℕ) → place_of x o ≡ Fan y → (o ≡ None) × (x ≡ y)
place_of-fan x y None is = (refl, fan-side x y is)
place_of-fan x y (Some n) is = absurd (cc is)

pub neighbour-at : (t : Tree) (s n : ℕ) → next_in t s ≡ At n → neighbour t s ≡ Some n
neighbour-at t s n is = place_of-at (side t s) (neighbour t s) n is

pub neighbour-fan : (t : Tree) (s : ℕ) (x : Side) → next_in t s ≡ Fan x → (neighbour t s ≡ None) × (side t s ≡ x)
neighbour-fan t s x is = place_of-fan (side t s) x (neighbour t s) is

-- a section with a neighbour is one of the tree
pub neighbour-within : (t : Tree) (s n : ℕ) → neighbour t s ≡ Some n → s < section_count t
neighbour-within t s n is =
    elim (leb_tells (section_count t) s) [
      | inl past ↦
          let none : neighbour t s ≡ None = ap (λ o. unwrap_or o None) (slice_get_past t.neighbours s past.1) in
          let both = sym is ∙ none in
          absurd (cc both)
      | inr within ↦ let less = within.1 in omega arith
    ]

pub next_in-falls : (t : Tree) → IsTree t → Falls (next_in t)
next_in-falls t tree s n is =
    let next = neighbour-at t s n is in
    earlier t s n tree (neighbour-within t s n next) next

module _ (t : Tree) (tree : IsTree t) where
  -- the way of x passes s where its route goes by s
  pub passes-goes_by : (s x : ℕ) → passes t s x ≡ goes_by (next_in t) (At s) x
  passes-goes_by s =
      climb (next_in t) (next_in-falls t tree) (λ x. passes t s x ≡ goes_by (next_in t) (At s) x)
      (λ x y is.
      let none = (neighbour-fan t x y is).0 in
      ap (list_any (λ z. z == s)) (way-at_fan t x none)
      ∙ ap (λ b. b || false) (same-sym (At x) (At s))
      ∙ sym (goes_by-fan (next_in t) (next_in-falls t tree) x y is (At s)))
      (λ x n is rest.
      let next = neighbour-at t x n is in
      ap (list_any (λ z. z == s)) (way-beside t x n tree (neighbour-within t x n next) next)
      ∙ ap (λ b. b || passes t s n) (same-sym (At x) (At s))
      ∙ ap (λ b. same (At s) (At x) || b) rest
      ∙ sym (goes_by-at (next_in t) (next_in-falls t tree) x n is (At s)))

  not_passed : (s x : ℕ) → x < s → passes t s x ≡ false
  not_passed s x less =
      false_from_ne_true (passes t s x) (λ by.
      let most = goes_by-le (next_in t) (next_in-falls t tree) s x (sym (passes-goes_by s x) ∙ by) in
      omega arith)

  -- no section of a way passes a section with a greater number
  filter-passes_none : (s x : ℕ) → x < s → filter (passes t s) (way t x) ≡ []
  filter-passes_none s =
      climb (next_in t) (next_in-falls t tree) (λ x. x < s → filter (passes t s) (way t x) ≡ [])
      (λ x y is less.
      ap (filter (passes t s)) (way-at_fan t x (neighbour-fan t x y is).0)
      ∙ ap (λ b. cond b (x ∷ []) []) (not_passed s x less))
      (λ x n is rest less.
      let next = neighbour-at t x n is in
      let before = next_in-falls t tree x n is in
      ap (filter (passes t s)) (way-beside t x n tree (neighbour-within t x n next) next)
      ∙ ap (λ b. cond b (x ∷ filter (passes t s) (way t n)) (filter (passes t s) (way t n))) (not_passed s x less)
      ∙ rest (omega arith))

  -- the sum over the sections of a way that pass s is the sum along the route as far as s
  pub sum_by-way : (w : ℕ → ℕ) (s x : ℕ) → goes_by (next_in t) (At s) x ≡ true
      → sum_by w (filter (passes t s) (way t x)) ≡ along (next_in t) w (At s) x
  sum_by-way w s =
      climb (next_in t) (next_in-falls t tree)
      (λ x. goes_by (next_in t) (At s) x ≡ true
      → sum_by w (filter (passes t s) (way t x)) ≡ along (next_in t) w (At s) x)
      (λ x y is by.
      ap (λ xs. sum_by w (filter (passes t s) xs)) (way-at_fan t x (neighbour-fan t x y is).0)
      ∙ ap (λ b. sum_by w (cond b (x ∷ []) [])) (passes-goes_by s x ∙ by)
      ∙ sum_by-cons w x [] ∙ (let alone : w x + 0 ≡ w x = omega arith in alone)
      ∙ sym (along-fan (next_in t) (next_in-falls t tree) w (At s) x y is))
      (λ x n is rest by.
      let next = neighbour-at t x n is in
      let others : List ℕ = filter (passes t s) (way t n) in
      let first : sum_by w (filter (passes t s) (way t x)) ≡ w x + sum_by w others =
      ap (λ xs. sum_by w (filter (passes t s) xs)) (way-beside t x n tree (neighbour-within t x n next) next)
      ∙ ap (λ b. sum_by w (cond b (x ∷ others) others)) (passes-goes_by s x ∙ by)
      ∙ sum_by-cons w x others in
      elim (first-step (next_in t) (next_in-falls t tree) s x by) [
        | inl here ↦
            let less = next_in-falls t tree x n is in
            let nothing : sum_by w others ≡ 0 = ap (sum_by w) (filter-passes_none s n (omega arith)) in
            let whole : along (next_in t) w (At s) x ≡ w x =
            ap (λ u. along (next_in t) w (At u) x) here ∙ along-self (next_in t) (next_in-falls t tree) w x in
            omega arith
        | inr later ↦
            let same_next = at-number later.0 n (sym later.1 ∙ is) in
            let by_next : goes_by (next_in t) (At s) n ≡ true =
            subst (λ u. goes_by (next_in t) (At s) u ≡ true) same_next later.2 in
            let most = goes_by-le (next_in t) (next_in-falls t tree) s n by_next in
            let less = next_in-falls t tree x n is in
            let whole = along-on (next_in t) (next_in-falls t tree) w (At s) x n is
            (λ here. let equal = at-number s x (same-true (At s) (At x) here) in omega arith) in
            let more = rest by_next in
            omega arith
      ])

-- a sum over the numbers that pass a test
pub sum_by-filter : (w : ℕ → ℕ) (test : ℕ → Bool) (n : ℕ)
    → sum_by w (filter test (range_with_len 0 n)) ≡ total (λ k. gated (test k) (w k)) n
sum_by-filter w test zero = refl
sum_by-filter w test (suc n) =
    let last : sum_by w (cond (test n) (n ∷ []) []) ≡ gated (test n) (w n) =
    elim (test n) as (λ b. sum_by w (cond b (n ∷ []) []) ≡ gated b (w n)) [
      | true ↦ sum_by-cons w n [] ∙ (let alone : w n + 0 ≡ w n = omega arith in alone)
      | false ↦ refl
    ] in
    let before = sum_by-filter w test n in
    ap (sum_by w) (chosen-suc test n)
    ∙ sum_by-append w (filter test (range_with_len 0 n)) (cond (test n) (n ∷ []) [])
    ∙ ap (λ z. sum_by w (filter test (range_with_len 0 n)) + z) last
    ∙ ap (λ z. z + gated (test n) (w n)) before
