-- The bounds of a certificate whose sections are sound are at most the least prices.
use Rattle.std.proofs.Common.{◌≡◌, ℕ, zero, suc, ◌+◌, ◌-◌, ◌<◌, ◌≤◌, arith, subst, List}
use Rattle.std.specs.Prelude.{IsSomeAnd}
use Rattle.duct_units.specs.declared.side.Side.{Side}
use Rattle.duct_definitions.specs.Tree.{section_count, children, roots}
use Rattle.duct_definitions.specs.Network.{Network, size_count, columns, pair_at, cap}
use Rattle.pareto_front.specs.declared.point.Point.{Point}
use Rattle.least_laws.specs.Prices.{sum_of}
use Rattle.least_laws.specs.LeastFromChildren.{least_with, least_within, least_in}
use Rattle.least_laws.specs.Choosing.{side_least}
use Rattle.least_laws.proofs.LeastBelow.{least_below-some}
use Rattle.least_laws.proofs.WithPair.{made}
use Rattle.least_laws.proofs.DuctsOf.{columns-child}
use Rattle.front_certificate.specs.Certificates.{bound, bound_sum}
use Rattle.front_certificate.specs.Sound.{AreSoundBefore, side_bound}
use Rattle.front_certificate.proofs.AtMost.{AtMost, some_and, sum_of-at_most}
use Rattle.front_certificate.proofs.TreeParts.{child_is, root_is, root_beside}

module _ (net : Network) (fronts : List (List Point)) (sound : AreSoundBefore net fronts (section_count net.tree)) where
  bound-within : (n s g budget : ℕ) → s < section_count net.tree → g < columns net s → budget ≤ cap net
      → AtMost (bound net fronts s g budget) (least_within n net s g budget)
  unfolding bound_sum
  bound-within zero s g budget section beside in_cap v is = absurd (cc is)
  bound-within (suc n) s g budget section beside in_cap v is =
      let least = least_below-some (least_with net (least_within n net) s g budget) (size_count net s) v is in
      let k : ℕ = least.at in
      let m = made (pair_at net s k g) budget v (λ rest. sum_of (λ c. least_within n net c k rest) (children net.tree s)) least.is in
      let rest : ℕ = budget - m.p.loss in
      let fits = m.fits in
      let below = least.below in
      let low = sum_of-at_most (λ c. bound net fronts c k rest) (λ c. least_within n net c k rest) (children net.tree s)
      (λ c among.
      let child = child_is net.tree s c among in
      let same = columns-child net c s child.1 in
      bound-within n c k rest child.0 (omega arith) (omega arith)) m.u m.rest_is in
      let holds = sound s section k rest below low.0 g low.1 beside m.p m.pair (omega arith) in
      let same : m.p.loss + rest ≡ budget = omega arith in
      let got = some_and (bound net fronts s g budget) (λ cost. cost ≤ m.p.price + low.0)
      (subst (λ b. IsSomeAnd (bound net fronts s g b) (λ cost. cost ≤ m.p.price + low.0)) same holds) in
      let sum = m.sum in
      let less = low.2 in
      let more = got.2 in
      (got.0, got.1, omega arith)

  pub side-bounded : (x : Side) (budget : ℕ) → budget ≤ cap net
      → AtMost (side_bound net fronts x budget) (side_least net x budget)
  unfolding bound_sum least_in
  side-bounded x budget in_cap =
      sum_of-at_most (λ r. bound net fronts r 0 budget) (λ r. least_within (section_count net.tree) net r 0 budget)
      (roots net.tree x)
      (λ r among.
      bound-within (section_count net.tree) r 0 budget (root_is net.tree x r among).0 (root_beside net x r among) in_cap)
