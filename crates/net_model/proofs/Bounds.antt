-- Losses and prices of a network are bounded, and so are their sums.
use Rattle.std.proofs.Common.{◌≡◌, ℕ, ◌+◌, ◌*◌, ◌<◌, ◌≤◌, List, [], length, Option, Some, None, ap, ◌∙◌, sym, subst, inl, inr, get_or, arith}
use Rattle.std.proofs.lemmas.Bool.{cases_lt}
use Rattle.std.proofs.lemmas.List.{get_or_past}
use Rattle.std.proofs.lemmas.List.FromFn.{length-range_with_len}
use Rattle.std.proofs.lemmas.List.Sums.{sum_by-le, sum_by-cons}
use Rattle.std.proofs.lemmas.Option.{unwrap_or-slice_get}
use Rattle.std.specs.Prelude.{All, slice_get, unwrap_or, sum_by}
use Rattle.duct_definitions.specs.declared.design.Pair.{Pair}
use Rattle.duct_definitions.specs.declared.design.Design.{Design}
use Rattle.duct_definitions.specs.declared.limits.TheConstants.{MAX_SECTIONS, MAX_LOSS, MAX_PRICE}
use Rattle.duct_definitions.specs.Tree.{section_count, sections, neighbour, from_neighbour, way}
use Rattle.duct_definitions.specs.Network.{Network, IsNetwork, IsBounded, pairs_of}
use Rattle.duct_definitions.specs.Designs.{pair_of, loss_of, price_of, path_loss}
use Rattle.duct_definitions.proofs.TreeLaws.{few_sections}
use Rattle.duct_definitions.proofs.WayLaws.{way-first, way-short}

-- what stands at a place, or nothing past the end
bounded_at : (pairs : List (Option Pair)) (i : ℕ) → All IsBounded pairs
    → IsBounded (unwrap_or (slice_get pairs i) None)
bounded_at pairs i all =
    subst (λ (o : Option Pair). IsBounded o) (sym (unwrap_or-slice_get pairs i None))
    (elim (cases_lt i (length pairs)) [
      | inl within ↦ all i None within
      | inr past ↦ subst (λ (o : Option Pair). IsBounded o) (sym (get_or_past pairs i None past)) tt
    ])

all_bounded : (net : Network) (s : ℕ) → IsNetwork net → All IsBounded (pairs_of net s)
all_bounded net s valid =
    elim (cases_lt s (section_count net.tree)) [
      | inl within ↦ (valid.sections s within).bounds
      | inr past ↦
          let none : List (Option Pair) = [] in
          let is : pairs_of net s ≡ none = unwrap_or-slice_get net.pairs s none ∙ get_or_past net.pairs s none
          (omega (arith, valid.pair_lists)) in
          subst (λ (pairs : List (Option Pair)). All IsBounded pairs) (sym is) (λ k d within. absurd (omega arith))
    ]

pair-bounded : (net : Network) (d : Design) (s : ℕ) → IsNetwork net → IsBounded (pair_of net d s)
pair-bounded net d s valid = bounded_at (pairs_of net s) _ (all_bounded net s valid)

loss-le : (o : Option Pair) → IsBounded o → loss_of o ≤ MAX_LOSS
loss-le None bounded = omega arith
loss-le (Some pair) bounded = bounded.0

price-le : (o : Option Pair) → IsBounded o → price_of o ≤ MAX_PRICE
price-le None bounded = omega arith
price-le (Some pair) bounded = bounded.1

-- a path has at most 500 losses
pub path_loss-le : (net : Network) (d : Design) (s : ℕ) → IsNetwork net → s < section_count net.tree
    → path_loss net d s ≤ MAX_SECTIONS * MAX_LOSS
path_loss-le net d s valid within =
    let loss : ℕ → ℕ = λ x. loss_of (pair_of net d x) in
    let each : All (λ x. loss x ≤ MAX_LOSS) (way net.tree s) =
    λ k e below. loss-le (pair_of net d (get_or (way net.tree s) k e))
    (pair-bounded net d (get_or (way net.tree s) k e) valid) in
    let sum = sum_by-le loss MAX_LOSS (way net.tree s) each in
    let short = way-short net.tree s within in
    let few = few_sections net.tree valid.tree in
    omega arith

pub prices-le : (net : Network) (d : Design) → IsNetwork net
    → sum_by (λ s. price_of (pair_of net d s)) (sections net.tree) ≤ MAX_SECTIONS * MAX_PRICE
prices-le net d valid =
    let price : ℕ → ℕ = λ x. price_of (pair_of net d x) in
    let each : All (λ x. price x ≤ MAX_PRICE) (sections net.tree) =
    λ k e below. price-le (pair_of net d (get_or (sections net.tree) k e))
    (pair-bounded net d (get_or (sections net.tree) k e) valid) in
    let sum = sum_by-le price MAX_PRICE (sections net.tree) each in
    let long = length-range_with_len 0 (section_count net.tree) in
    let few = few_sections net.tree valid.tree in
    omega arith

-- the loss of the first section, and of those from its neighbour on
pub path_loss-first : (net : Network) (d : Design) (s : ℕ) → IsNetwork net → s < section_count net.tree
    → path_loss net d s ≡ loss_of (pair_of net d s) + sum_by (λ x. loss_of (pair_of net d x))
    (from_neighbour (way net.tree) (neighbour net.tree s))
path_loss-first net d s valid within =
    let loss : ℕ → ℕ = λ x. loss_of (pair_of net d x) in
    ap (sum_by loss) (way-first net.tree s valid.tree within)
    ∙ sum_by-cons loss s (from_neighbour (way net.tree) (neighbour net.tree s))
