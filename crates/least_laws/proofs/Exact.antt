-- Exact prices of sections: they move between networks that agree, and those of a side's roots add to the side's least.
use Rattle.std.proofs.Common.{◌≡◌, ℕ, ◌*◌, ◌<◌, ◌≤◌, refl, arith, ap, ◌∙◌, subst, inl, inr, Option, Some, None, List, [], ◌∷◌, length}
use Rattle.std.proofs.lemmas.Bool.{and_parts, ltb-true}
use Rattle.std.specs.Prelude.{IfSome, is_none, nat_lt, ◌&&◌}
use Rattle.duct_units.specs.declared.side.Side.{Side}
use Rattle.duct_definitions.specs.declared.limits.TheConstants.{MAX_PRICE}
use Rattle.duct_definitions.specs.Tree.{Tree, IsTree, section_count, sections, neighbour, side, is_root, roots}
use Rattle.duct_units.specs.Side.{same_side}
use Rattle.duct_definitions.specs.Network.{Network, IsNetwork, columns, columns_beside, cap}
use Rattle.duct_definitions.proofs.Valid.{none_tested}
use Rattle.least_laws.specs.Least.{IsLeast}
use Rattle.design_laws.proofs.Among.{Among, Among-filtered}
use Rattle.duct_units.specs.Prices.{both_of}
use Rattle.least_laws.specs.Prices.{sum_of}
use Rattle.least_laws.specs.LeastFromChildren.{least_in, IsExact}
use Rattle.least_laws.specs.SamePairs.{AgreeBeyond}
use Rattle.least_laws.specs.Choosing.{side_least}
use Rattle.least_laws.proofs.AgreeingNetworks.{least_agrees, columns-agree}
use Rattle.least_laws.proofs.Leasts.{least_in-is, least_in-unique}
use Rattle.least_laws.proofs.Bounds.{least_bounded}
use Rattle.least_laws.proofs.SumOf.{sum_of-le}

pub exact_agrees : (net other : Network) (s : ℕ) → AgreeBeyond net other s → IsTree net.tree → cap other ≡ cap net
    → (cheapest : ℕ → ℕ → Option ℕ) → IsExact net s cheapest → IsExact other s cheapest
exact_agrees net other s agree tree same_cap cheapest exact g budget beside within =
    let same = columns-agree net other s agree s in
    least_agrees net other s agree tree g budget (cheapest g budget) (exact g budget (omega arith) (omega arith))

-- a root is a section without a neighbour
root-is : (t : Tree) (x : Side) (r : ℕ) → Among r (roots t x) → (r < section_count t) × (neighbour t r ≡ None)
root-is t x r among =
    let found = Among-filtered (λ s. same_side (side t s) x && is_root t s) r (sections t) among in
    let is = (and_parts (same_side (side t r) x) (is_root t r) found.1).1 in
    let (less, none) = and_parts (nat_lt r (section_count t)) (is_none (neighbour t r)) is in
    (ltb-true r (section_count t) less, none_tested (neighbour t r) none)

sum_of-same : (one other : ℕ → Option ℕ) (xs : List ℕ) → ((x : ℕ) → Among x xs → one x ≡ other x)
    → sum_of one xs ≡ sum_of other xs
sum_of-same one other [] equal = refl
sum_of-same one other (x ∷ xs) equal =
    ap (λ o. both_of o (sum_of one xs)) (equal x (inl refl))
    ∙ ap (both_of (other x)) (sum_of-same one other xs (λ y later. equal y (inr later)))

module _ (net : Network) (tree : IsTree net.tree) (x : Side) (budget : ℕ) where
  root-beside : (r : ℕ) → Among r (roots net.tree x) → 0 < columns net r
  root-beside r among =
      let one : columns net r ≡ 1 = ap (columns_beside net) (root-is net.tree x r among).1 in
      omega arith

  -- the exact prices of the roots add to the least of the side
  pub side_least-exact : (cheapest : ℕ → ℕ → ℕ → Option ℕ)
      → ((s : ℕ) → s < section_count net.tree → IsExact net s (cheapest s))
      → budget ≤ cap net → sum_of (λ r. cheapest r 0 budget) (roots net.tree x) ≡ side_least net x budget
  side_least-exact cheapest exact within =
      sum_of-same (λ r. cheapest r 0 budget) (λ r. least_in net r 0 budget) (roots net.tree x) (λ r among.
      let is = root-is net.tree x r among in
      least_in-unique net tree r 0 budget (cheapest r 0 budget) is.0 (root-beside r among)
      (exact r is.0 0 budget (root-beside r among) within))

  bounded : IsNetwork net → (r : ℕ) → r < section_count net.tree → 0 < columns net r → (o : Option ℕ)
      → least_in net r 0 budget ≡ o → IfSome o (λ price. price ≤ section_count net.tree * MAX_PRICE)
  bounded valid r less beside None is = tt
  bounded valid r less beside (Some price) is =
      least_bounded net valid r 0 budget price
      (subst (IsLeast net r 0 budget) is (least_in-is net tree r 0 budget less beside))

  -- the least of a side is at most the greatest price for each section beyond each root
  pub side_least-le : IsNetwork net
      → IfSome (side_least net x budget)
      (λ price. price ≤ length (roots net.tree x) * (section_count net.tree * MAX_PRICE))
  side_least-le valid =
      sum_of-le (λ r. least_in net r 0 budget) (section_count net.tree * MAX_PRICE) (roots net.tree x) (λ r among.
      bounded valid r (root-is net.tree x r among).0 (root-beside r among) (least_in net r 0 budget) refl)
