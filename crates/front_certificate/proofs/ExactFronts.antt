-- Fronts that are the least prices are sound, and so is the least cost as their total.
use Rattle.std.proofs.Common.{◌≡◌, ℕ, ◌+◌, ◌-◌, ◌<◌, ◌≤◌, arith, refl, ap, sym, ◌∙◌, subst, Option, Some, None, List}
use Rattle.duct_units.specs.declared.side.Side.{Side}
use Rattle.duct_units.specs.declared.side.Side.TheVariants.{Supply, Return}
use Rattle.duct_units.specs.Prices.{both_of}
use Rattle.duct_definitions.specs.Tree.{IsTree, section_count, children}
use Rattle.duct_definitions.specs.Network.{Network, size_count, columns, pair_at, cap}
use Rattle.pareto_front.specs.declared.point.Point.{Point}
use Rattle.least_laws.specs.Prices.{sum_of, least_below}
use Rattle.least_laws.specs.LeastFromChildren.{least_with, least_in}
use Rattle.least_laws.specs.Choosing.{side_least, cost_at, IsOffered, IsChosen}
use Rattle.least_laws.proofs.ChosenAgrees.{cost_at-agrees}
use Rattle.least_laws.proofs.DuctsOf.{columns-child}
use Rattle.least_laws.proofs.Exact.{side_least-exact}
use Rattle.least_laws.proofs.LeastBelow.{least_below-none, least_below-some}
use Rattle.least_laws.proofs.Leasts.{least_in-unique, least_in-step}
use Rattle.least_laws.proofs.WithPair.{with_pair-is}
use Rattle.front_certificate.specs.Certificates.{bound, bound_sum}
use Rattle.front_certificate.specs.Sound.{AreSoundBefore, IsSoundTotal, IsNoLess, AreExactFronts, split_sum, side_bound}
use Rattle.front_certificate.proofs.AtMost.{AtMost, sum_of-at_most}
use Rattle.front_certificate.proofs.Rising.{and-some}
use Rattle.front_certificate.proofs.TreeParts.{child_is}

-- each price is at least the least of them
least_below-le : (price : ℕ → Option ℕ) (n k v : ℕ) → k < n → price k ≡ Some v → AtMost (least_below price n) (Some v)
least_below-le price n k v less is w same =
    go (least_below price n) refl where
      go : (o : Option ℕ) → least_below price n ≡ o → (u : ℕ) × (least_below price n ≡ Some u) × (u ≤ w)
      go None none = let no : None ≡ Some v = sym (least_below-none price n none k less) ∙ is in absurd (cc no)
      go (Some u) some = (u, some, (let low = (least_below-some price n u some).least k w less (is ∙ same) in low))

module _ (net : Network) (tree : IsTree net.tree) (fronts : List (List Point)) (exact : AreExactFronts net fronts) where
  bound-least : (s g budget : ℕ) → s < section_count net.tree → g < columns net s → budget ≤ cap net
      → bound net fronts s g budget ≡ least_in net s g budget
  bound-least s g budget section beside in_cap =
      least_in-unique net tree s g budget (bound net fronts s g budget) section beside
      (exact s section g budget beside in_cap)

  -- the children's bounds add to no less than their leasts
  children-least : (s k rest : ℕ) → k < size_count net s → rest ≤ cap net
      → AtMost (sum_of (λ c. least_in net c k rest) (children net.tree s)) (bound_sum net fronts (children net.tree s) k rest)
  unfolding bound_sum
  children-least s k rest size in_cap =
      sum_of-at_most (λ c. least_in net c k rest) (λ c. bound net fronts c k rest) (children net.tree s) (λ c among v is.
      let child = child_is net.tree s c among in
      let same = columns-child net c s child.1 in
      (v, sym (bound-least c k rest child.0 (omega arith) in_cap) ∙ is, omega arith))

  pub exact-sections : AreSoundBefore net fronts (section_count net.tree)
  exact-sections s section k rest size sum g is beside pair there in_cap =
      let budget : ℕ = pair.loss + rest in
      let low = children-least s k rest size (omega arith) sum is in
      let left : budget - pair.loss ≡ rest = omega arith in
      let leasts : ℕ → Option ℕ = λ r. sum_of (λ c. least_in net c k r) (children net.tree s) in
      let with : least_with net (least_in net) s g budget k ≡ Some (pair.price + low.0) =
      with_pair-is (pair_at net s k g) pair budget leasts there (omega arith)
      ∙ ap (λ r. both_of (Some pair.price) (leasts r)) left
      ∙ ap (both_of (Some pair.price)) low.1 in
      let least = least_below-le (least_with net (least_in net) s g budget) (size_count net s) k (pair.price + low.0) size with
      (pair.price + low.0) refl in
      let one = low.2 in
      let two = least.2 in
      and-some (bound net fronts s g budget) (λ cost. cost ≤ pair.price + sum) least.0
      (bound-least s g budget section beside in_cap ∙ least_in-step net tree s g budget section beside ∙ least.1)
      (omega arith)

  side-same : (x : Side) (budget : ℕ) → budget ≤ cap net → side_bound net fronts x budget ≡ side_least net x budget
  unfolding bound_sum
  side-same x budget in_cap = side_least-exact net tree x budget (λ s g b. bound net fronts s g b) exact in_cap

  sum-same : (fan : ℕ) (own : Option ℕ) (budget : ℕ) → IsOffered net fan own budget
      → split_sum net fronts fan own budget
      ≡ cost_at net (side_least net Supply) (side_least net Return) fan own budget
  sum-same fan own budget offered =
      cost_at-agrees net (side_bound net fronts Supply) (side_least net Supply) (side_bound net fronts Return)
      (side_least net Return) (side-same Supply) (side-same Return) fan own budget offered

  no_less : (total : ℕ) (o : Option ℕ) → ((c : ℕ) → o ≡ Some c → total ≤ c) → IsNoLess (Some total) o
  no_less total None each = tt
  no_less total (Some c) each = each c refl

  pub exact-total : (fan : ℕ) (own : Option ℕ) (budget price : ℕ)
      → IsChosen net (side_least net Supply) (side_least net Return) fan own budget price
      → IsSoundTotal net fronts (Some price)
  exact-total fan own budget price chosen i o b split =
      no_less price (split_sum net fronts i o b) (λ c is.
      chosen.least i o b c split.offered (sym (sum-same i o b split.offered) ∙ is))

  pub exact-none : ((fan : ℕ) (own : Option ℕ) (budget : ℕ) → IsOffered net fan own budget
      → cost_at net (side_least net Supply) (side_least net Return) fan own budget ≡ None)
      → IsSoundTotal net fronts None
  exact-none none i o b split =
      subst (IsNoLess None) (sym (sum-same i o b split.offered ∙ none i o b split.offered)) tt
