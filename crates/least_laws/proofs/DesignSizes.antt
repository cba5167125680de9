-- A design that meets the rules, as sizes of a whole side: path losses are sums along routes, and the cost is the
-- fans' and the sums of prices of both sides.
use Rattle.std.proofs.Common.{◌≡◌, ℕ, zero, suc, ◌+◌, ◌≤◌, max, true, refl, arith, ap, sym, ◌∙◌, inl, inr, Option, Some, None, List, [], ◌∷◌, map}
use Rattle.std.proofs.Math.Path.{fun_ext}
use Rattle.std.proofs.lemmas.List.Sums.{sum_by-cons, sum_by-append}
use Rattle.std.specs.Prelude.{◌&&◌, fold, sum_by, slice_index}
use Rattle.std.specs.List.{range_with_len}
use Rattle.duct_units.specs.declared.side.Side.{Side}
use Rattle.duct_units.specs.declared.side.Side.TheVariants.{Supply, Return}
use Rattle.duct_definitions.specs.declared.design.Design.{Design}
use Rattle.duct_definitions.specs.Tree.{Tree, IsTree, section_count, sections, neighbour, side, leaves, is_leaf, way}
use Rattle.duct_units.specs.Side.{same_side}
use Rattle.duct_definitions.specs.Network.{Network, pair_at}
use Rattle.duct_definitions.specs.Designs.{Meets, size_beside, pair_of, loss_of, price_of, path_loss, worst, fans_cost, cost}
use Rattle.design_laws.proofs.Among.{Among, Among-filtered, le-max}
use Rattle.duct_definitions.proofs.WayLaws.{way-at_fan, way-beside}
use Rattle.design_laws.proofs.Ways.{neighbour_side}
use Rattle.duct_units.proofs.SideLaws.{same_side-true}
use Rattle.design_laws.proofs.Beyond.{Among-leaves, is_within}
use Rattle.std.proofs.lemmas.Bool.{and_parts}
use Rattle.tree_sums.specs.Route.{Fan, goes_by}
use Rattle.tree_sums.specs.Sums.{along, total, gated}
use Rattle.tree_sums.proofs.Climb.{climb}
use Rattle.tree_sums.proofs.Places.{same-refl}
use Rattle.tree_sums.proofs.Split.{goes_by-fan, goes_by-at}
use Rattle.tree_sums.proofs.Along.{along-fan, along-on}
use Rattle.tree_sums.proofs.Totals.{total-cong, total-add}
use Rattle.least_laws.proofs.Ducts.{size_at, chosen, loss, price, IsSizing, price_sum}
use Rattle.least_laws.proofs.TreePlaces.{place_of, next_in, next_in-falls, neighbour-at, neighbour-fan, neighbour-within}
use Rattle.duct_definitions.proofs.SectionLists.{range-push}
use Rattle.least_laws.proofs.TreeLists.{leaf-end, end-leaf}
use Rattle.least_laws.proofs.DuctsOf.{ducts_of}
use Rattle.least_laws.proofs.PriceLaws.{some-there}

-- the design's sizes
abbrev pub sizes_in : Design → ℕ → ℕ
sizes_in d s = slice_index d.sizes s

pub size_at-beside : (d : Design) (x : Side) (o : Option ℕ) → size_at (sizes_in d) (place_of x o) ≡ size_beside d o
size_at-beside d x None = refl
size_at-beside d x (Some n) = refl

pub chosen-pair_of : (net : Network) (d : Design) (s : ℕ) → chosen (ducts_of net) (sizes_in d) s ≡ pair_of net d s
chosen-pair_of net d s =
    ap (pair_at net s (slice_index d.sizes s)) (size_at-beside d (side net.tree s) (neighbour net.tree s))

loss-pair_of : (net : Network) (d : Design) → loss (ducts_of net) (sizes_in d) ≡ (λ s. loss_of (pair_of net d s))
loss-pair_of net d = fun_ext (λ s. ap loss_of (chosen-pair_of net d s))

price-pair_of : (net : Network) (d : Design) → price (ducts_of net) (sizes_in d) ≡ (λ s. price_of (pair_of net d s))
price-pair_of net d = fun_ext (λ s. ap price_of (chosen-pair_of net d s))

module _ (t : Tree) (tree : IsTree t) where
  -- a section's route goes by the section's side of the fan
  pub goes_by-side : (x : Side) (s : ℕ) → goes_by (next_in t) (Fan x) s ≡ same_side x (side t s)
  goes_by-side x =
      climb (next_in t) (next_in-falls t tree) (λ s. goes_by (next_in t) (Fan x) s ≡ same_side x (side t s))
      (λ s y is.
      goes_by-fan (next_in t) (next_in-falls t tree) s y is (Fan x)
      ∙ ap (same_side x) (sym (neighbour-fan t s y is).1))
      (λ s n is rest.
      let next = neighbour-at t s n is in
      goes_by-at (next_in t) (next_in-falls t tree) s n is (Fan x)
      ∙ rest
      ∙ ap (same_side x) (neighbour_side t s n tree (neighbour-within t s n next) next))

  -- the sum over the whole way of a section
  pub sum_by-whole_way : (w : ℕ → ℕ) (x : Side) (s : ℕ) → sum_by w (way t s) ≡ along (next_in t) w (Fan x) s
  sum_by-whole_way w x =
      climb (next_in t) (next_in-falls t tree) (λ s. sum_by w (way t s) ≡ along (next_in t) w (Fan x) s)
      (λ s y is.
      ap (sum_by w) (way-at_fan t s (neighbour-fan t s y is).0)
      ∙ sum_by-cons w s [] ∙ (let alone : w s + 0 ≡ w s = omega arith in alone)
      ∙ sym (along-fan (next_in t) (next_in-falls t tree) w (Fan x) s y is))
      (λ s n is rest.
      let next = neighbour-at t s n is in
      ap (sum_by w) (way-beside t s n tree (neighbour-within t s n next) next)
      ∙ sum_by-cons w s (way t n)
      ∙ ap (λ z. w s + z) rest
      ∙ sym (along-on (next_in t) (next_in-falls t tree) w (Fan x) s n is (λ apart. cc apart)))

gated-sides : (x : Side) (n : ℕ) → gated (same_side Supply x) n + gated (same_side Return x) n ≡ n
gated-sides Supply n = omega arith
gated-sides Return n = omega arith

sum_by-range : (w : ℕ → ℕ) (n : ℕ) → sum_by w (range_with_len 0 n) ≡ total w n
sum_by-range w zero = refl
sum_by-range w (suc n) =
    let before = sum_by-range w n in
    ap (sum_by w) (range-push 0 n)
    ∙ sum_by-append w (range_with_len 0 n) ((0 + n) ∷ [])
    ∙ ap (λ k. sum_by w (range_with_len 0 n) + sum_by w (k ∷ [])) (let same : 0 + n ≡ n = omega arith in same)
    ∙ ap (λ z. sum_by w (range_with_len 0 n) + z)
    (sum_by-cons w n [] ∙ (let alone : w n + 0 ≡ w n = omega arith in alone))
    ∙ ap (λ z. z + w n) before

-- a greatest value is at most what bounds each
max-le : (f : ℕ → ℕ) (a b : ℕ) (xs : List ℕ) → a ≤ b → ((x : ℕ) → Among x xs → f x ≤ b) → fold max a (map f xs) ≤ b
max-le f a b [] start each = start
max-le f a b (x ∷ xs) start each =
    let first = each x (inl refl) in
    max-le f (max a (f x)) b xs (omega arith) (λ y later. each y (inr later))

module _ (net : Network) (tree : IsTree net.tree) (d : Design) where
  -- the cost is the fans' and the sums of the prices of both sides
  pub cost-sides : cost net d
      ≡ price_sum (ducts_of net) (sizes_in d) (Fan Supply) + price_sum (ducts_of net) (sizes_in d) (Fan Return)
      + fans_cost net d.fan d.back
  cost-sides =
      let n : ℕ = section_count net.tree in
      let w : ℕ → ℕ = price (ducts_of net) (sizes_in d) in
      let part : Side → ℕ → ℕ = λ x s. gated (goes_by (next_in net.tree) (Fan x) s) (w s) in
      let whole : sum_by (λ s. price_of (pair_of net d s)) (sections net.tree) ≡ total w n =
      ap (λ v. sum_by v (sections net.tree)) (sym (price-pair_of net d)) ∙ sum_by-range w n in
      let split : total w n ≡ total (λ s. part Supply s + part Return s) n =
      total-cong w (λ s. part Supply s + part Return s) n (λ s less.
      sym (ap (λ b. gated b (w s) + part Return s) (goes_by-side net.tree tree Supply s)
      ∙ ap (λ b. gated (same_side Supply (side net.tree s)) (w s) + gated b (w s)) (goes_by-side net.tree tree Return s)
      ∙ gated-sides (side net.tree s) (w s))) in
      ap (λ z. z + fans_cost net d.fan d.back) (whole ∙ split ∙ total-add (part Supply) (part Return) n)

  path_loss-along : (x : Side) (leaf : ℕ)
      → path_loss net d leaf ≡ along (next_in net.tree) (loss (ducts_of net) (sizes_in d)) (Fan x) leaf
  path_loss-along x leaf =
      sum_by-whole_way net.tree tree (λ s. loss_of (pair_of net d s)) x leaf
      ∙ ap (λ w. along (next_in net.tree) w (Fan x) leaf) (sym (loss-pair_of net d))

  -- a side of a design that meets the rules, within any budget that its worst loss keeps
  pub sizing-from_meets : Meets net d → (x : Side) (b : ℕ) → worst net d x ≤ b
      → IsSizing (ducts_of net) (Fan x) b (sizes_in d)
  sizing-from_meets meets x b enough = record {
    in_range = λ s less by. meets.fits.each s less;
    there = λ s less by.
        let pair = some-there (pair_of net d s) (meets.pairs s less) in
        (pair.0, chosen-pair_of net d s ∙ pair.1);
    within = λ leaf less end by.
        let on_side : x ≡ side net.tree leaf =
        same_side-true x (side net.tree leaf) (sym (goes_by-side net.tree tree x leaf) ∙ by) in
        let among = Among-leaves net.tree x leaf (end-leaf net.tree leaf less end) (sym on_side) in
        let most : path_loss net d leaf ≤ worst net d x = le-max (path_loss net d) 0 leaf (leaves net.tree x) among in
        let same = path_loss-along x leaf in
        omega arith;
  }

  -- and a side's worst loss is within the budget of its sizing
  pub worst-le : (x : Side) (b : ℕ) → IsSizing (ducts_of net) (Fan x) b (sizes_in d) → worst net d x ≤ b
  worst-le x b sizing =
      max-le (path_loss net d) 0 b (leaves net.tree x) (omega arith) (λ leaf among.
      let found =
      Among-filtered (λ s. same_side (side net.tree s) x && is_leaf net.tree s) leaf (sections net.tree) among in
      let (on_side, is) = and_parts (same_side (side net.tree leaf) x) (is_leaf net.tree leaf) found.1 in
      let within = is_within net.tree leaf is in
      let by : goes_by (next_in net.tree) (Fan x) leaf ≡ true =
      goes_by-side net.tree tree x leaf
      ∙ ap (same_side x) (same_side-true (side net.tree leaf) x on_side)
      ∙ same-refl (Fan x) in
      let most = sizing.within leaf within (leaf-end net.tree leaf is) by in
      let same = path_loss-along x leaf in
      omega arith)
