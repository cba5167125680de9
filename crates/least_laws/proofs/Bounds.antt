-- The least doesn't rise with the budget, and is at most the greatest price for each section.
use Rattle.std.proofs.Common.{◌≡◌, ℕ, ◌+◌, ◌*◌, ◌<◌, ◌≤◌, refl, arith, subst, Option, Some, None, List, length}
use Rattle.std.proofs.lemmas.List.FromFn.{length-range_with_len}
use Rattle.std.proofs.lemmas.List.Sums.{sum_by-le, length-filter, count_by-le-length}
use Rattle.std.proofs.lemmas.Option.{slice_get_within, get_or_from_slice_get}
use Rattle.std.proofs.Math.Nat.{mul-le-mul_right}
use Rattle.std.specs.Prelude.{All, IfSome, IsSomeAnd, slice_get, unwrap_or}
use Rattle.duct_definitions.specs.declared.design.Pair.{Pair}
use Rattle.duct_definitions.specs.declared.limits.TheConstants.{MAX_PRICE}
use Rattle.duct_definitions.specs.Tree.{section_count, sections, passes}
use Rattle.duct_definitions.specs.Network.{Network, IsNetwork, IsBounded, columns, pairs_of, pair_at}
use Rattle.duct_definitions.specs.Designs.{price_of}
use Rattle.duct_definitions.specs.Dampers.{leaves_beyond}
use Rattle.least_laws.specs.Least.{sections_beyond, pair_in, loss_to, price_beyond, IsChoice, IsLeast}
use Rattle.least_laws.proofs.TreeLists.{All-among, All-from_among, All-from_beyond}

-- a choice within a budget is one within a greater budget
choice-more : (net : Network) (s g few many : ℕ) (sizes : ℕ → ℕ) → few ≤ many → IsChoice net s g few sizes
    → IsChoice net s g many sizes
choice-more net s g few many sizes less choice = record {
  beside = choice.beside;
  each = choice.each;
  pairs = choice.pairs;
  losses = All-from_among (λ leaf. loss_to net sizes s leaf ≤ many) (leaves_beyond net.tree s) (λ leaf among.
      let within =
      All-among (λ leaf. loss_to net sizes s leaf ≤ few) leaf (leaves_beyond net.tree s) choice.losses among in
      omega arith);
}

pub least_never_rises : (net : Network) (s g few many : ℕ) (costly cheap : Option ℕ) → few ≤ many
    → IsLeast net s g few costly → IsLeast net s g many cheap
    → IfSome costly (λ more. IsSomeAnd cheap (λ less. less ≤ more))
least_never_rises net s g few many None cheap within one other = tt
least_never_rises net s g few many (Some more) None within one other =
    absurd (other one.reached.0 (choice-more net s g few many one.reached.0 within one.reached.1.0))
least_never_rises net s g few many (Some more) (Some less) within one other =
    let most = other.least one.reached.0 (choice-more net s g few many one.reached.0 within one.reached.1.0) in
    let same = one.reached.1.1 in
    omega arith

unwrap-bounded : (pairs : List (Option Pair)) (i : ℕ) → All IsBounded pairs
    → IsBounded (unwrap_or (slice_get pairs i) None)
unwrap-bounded pairs i all =
    elim (slice_get pairs i) as (λ o. slice_get pairs i ≡ o → IsBounded (unwrap_or o None)) [
      | None ↦ λ _. tt
      | Some pair ↦ λ is.
          subst IsBounded (get_or_from_slice_get pairs i pair None is) (all i None (slice_get_within pairs i pair is))
    ] refl

price_of-le : (pair : Option Pair) → IsBounded pair → price_of pair ≤ MAX_PRICE
price_of-le None bounded = omega arith
price_of-le (Some pair) bounded = bounded.1

pub pair_at-price : (net : Network) → IsNetwork net → (s k g : ℕ) → s < section_count net.tree
    → price_of (pair_at net s k g) ≤ MAX_PRICE
pair_at-price net valid s k g within =
    price_of-le (pair_at net s k g)
    (unwrap-bounded (pairs_of net s) (k * columns net s + g) (valid.sections s within).bounds)

pub least_bounded : (net : Network) → IsNetwork net → (s g budget price : ℕ) → IsLeast net s g budget (Some price)
    → price ≤ section_count net.tree * MAX_PRICE
least_bounded net valid s g budget price least =
    let sizes = least.reached.0 in
    let w : ℕ → ℕ = λ t. price_of (pair_in net sizes t) in
    let most : price_beyond net sizes s ≤ length (sections_beyond net.tree s) * MAX_PRICE =
    sum_by-le w MAX_PRICE (sections_beyond net.tree s)
    (All-from_beyond net.tree valid.tree s (λ t. w t ≤ MAX_PRICE) (λ t less by. pair_at-price net valid t _ _ less)) in
    let few : length (sections_beyond net.tree s) ≤ section_count net.tree =
    (let kept = length-filter (passes net.tree s) (sections net.tree) in
    let most = count_by-le-length (passes net.tree s) (sections net.tree) in
    let count = length-range_with_len 0 (section_count net.tree) in
    omega arith) in
    let same = least.reached.1.1 in
    let scaled : length (sections_beyond net.tree s) * MAX_PRICE ≤ section_count net.tree * MAX_PRICE =
    mul-le-mul_right MAX_PRICE few in
    omega arith
