-- When a certificate is sound: each front bounds its section from below by the fronts of the children, and the total
-- bounds the fans and the fronts at the fan. A sound certificate proves that no design costs less than its total.
--   IsSoundSection net fronts s        section s keeps its children's bounds
--   IsSplit net fan own budget         fans, and the pressure of each side
--   split_sum net fronts fan own b     what the fans and the bounds at the fan add to
--   IsSound net c                      every section and the total are sound
--   NoneCostsLess net total            no design that meets the rules costs less than the total, or none meets them
use Rattle.std.specs.Prelude.{◌≡◌, ℕ, ◌+◌, ◌<◌, ◌≤◌, List, Option, Some, None, IsSomeAnd, IfSome}
use Rattle.duct_units.specs.declared.side.Side.{Side}
use Rattle.duct_units.specs.declared.side.Side.TheVariants.{Supply, Return}
use Rattle.duct_definitions.specs.declared.design.Pair.{Pair}
use Rattle.duct_definitions.specs.declared.design.Design.{Design}
use Rattle.duct_definitions.specs.Tree.{section_count, children, roots}
use Rattle.duct_definitions.specs.Network.{Network, size_count, columns, pair_at, fan_at, cap}
use Rattle.duct_definitions.specs.Designs.{Meets, cost}
use Rattle.duct_definitions.specs.Order.{NoneMeets}
use Rattle.pareto_front.specs.declared.point.Point.{Point}
use Rattle.least_laws.specs.LeastFromChildren.{IsExact}
use Rattle.least_laws.specs.Choosing.{IsOffered, cost_at}
use Rattle.front_certificate.specs.Certificates.{Certificate, bound, bound_sum}
use Rattle.front_certificate.specs.declared.judgement.Judgement.{Judgement}
use Rattle.front_certificate.specs.declared.judgement.Judgement.TheVariants.{Yes, Section, Total}

-- with the pair of sizes k and g, the budget of its loss and the rest is at most the greatest fan pressure, and where
-- within the rest the children's bounds beside size k are all there, the bound of section s beside size g is there
-- within the budget, and at most the pair's price and their sum
abbrev pub HoldsBeside : Network → List (List Point) → ℕ → ℕ → ℕ → ℕ → ℕ → Type 0
HoldsBeside net fronts s k rest sum g =
    (pair : Pair) → pair_at net s k g ≡ Some pair → pair.loss + rest ≤ cap net
    → IsSomeAnd (bound net fronts s g (pair.loss + rest)) (λ cost. cost ≤ pair.price + sum)

-- the same beside each size of the neighbour, where the children's bounds within the rest are there; a leaf's sum is 0
abbrev pub HoldsAt : Network → List (List Point) → ℕ → ℕ → ℕ → Type 0
HoldsAt net fronts s k rest =
    (sum g : ℕ) → bound_sum net fronts (children net.tree s) k rest ≡ Some sum → g < columns net s
    → HoldsBeside net fronts s k rest sum g

-- section s is sound: this holds in each of its sizes, within each budget from the pair's loss to the greatest fan
-- pressure, which is the loss and some rest
abbrev pub IsSoundSection : Network → List (List Point) → ℕ → Type 0
IsSoundSection net fronts s = (k rest : ℕ) → k < size_count net s → HoldsAt net fronts s k rest

-- a fan and a supply budget within its pressure, which leaves the rest to the return side; or a fan and a return fan,
-- with the whole pressure of each for its own side
pub record IsSplit (net : Network) (fan : ℕ) (own : Option ℕ) (budget : ℕ) : Type 0 where
  pub offered : IsOffered net fan own budget
  pub whole : IfSome own (λ _. budget ≡ (fan_at net fan).pressure)

-- the bounds of the sections of a side at the fan
abbrev pub side_bound : Network → List (List Point) → Side → ℕ → Option ℕ
side_bound net fronts x budget = bound_sum net fronts (roots net.tree x) 0 budget

-- the costs of the split's fans and the bounds at the fan, where all are there
abbrev pub split_sum : Network → List (List Point) → ℕ → Option ℕ → ℕ → Option ℕ
split_sum net fronts fan own budget =
    cost_at net (side_bound net fronts Supply) (side_bound net fronts Return) fan own budget

-- the sum is no less than the total; without a total there is no sum
abbrev pub IsNoLess : Option ℕ → Option ℕ → Type 0
IsNoLess total None = Unit {0}
IsNoLess None (Some sum) = ⊥
IsNoLess (Some total) (Some sum) = total ≤ sum

-- the total is sound: no split's sum is less; where none is stated, no split has a sum
abbrev pub IsSoundTotal : Network → List (List Point) → Option ℕ → Type 0
IsSoundTotal net fronts total =
    (fan : ℕ) (own : Option ℕ) (budget : ℕ) → IsSplit net fan own budget
    → IsNoLess total (split_sum net fronts fan own budget)

-- every section before section n is sound
abbrev pub AreSoundBefore : Network → List (List Point) → ℕ → Type 0
AreSoundBefore net fronts n = (s : ℕ) → s < n → IsSoundSection net fronts s

-- every section and the total are sound
pub record IsSound (net : Network) (c : Certificate) : Type 0 where
  pub sections : AreSoundBefore net c.fronts (section_count net.tree)
  pub total : IsSoundTotal net c.fronts c.total

-- section s is the first that is not sound
pub record IsFirstUnsound (net : Network) (fronts : List (List Point)) (s : ℕ) : Type 0 where
  pub section : s < section_count net.tree
  pub before : AreSoundBefore net fronts s
  pub unsound : IsSoundSection net fronts s → ⊥

-- every section is sound, and the total is not
pub record IsUnsoundTotal (net : Network) (c : Certificate) : Type 0 where
  pub sections : AreSoundBefore net c.fronts (section_count net.tree)
  pub unsound : IsSoundTotal net c.fronts c.total → ⊥

-- the first section that is not sound, else the total where it is not, else yes
abbrev pub IsJudgement : Network → Certificate → Judgement → Type 0
IsJudgement net c Yes = IsSound net c
IsJudgement net c (Section s) = IsFirstUnsound net c.fronts s
IsJudgement net c Total = IsUnsoundTotal net c

-- no design that meets the rules costs less than the total; where none is stated, none meets them
abbrev pub NoneCostsLess : Network → Option ℕ → Type 0
NoneCostsLess net None = NoneMeets net
NoneCostsLess net (Some total) = (d : Design) → Meets net d → total ≤ cost net d

-- what a judgement proves of all designs: a yes, that none costs less
abbrev pub Proves : Network → Option ℕ → Judgement → Type 0
Proves net total Yes = NoneCostsLess net total
Proves net total (Section s) = Unit {0}
Proves net total Total = Unit {0}

-- each front gives the least price of its section and of all beyond it, within each budget up to the greatest fan
-- pressure
abbrev pub AreExactFronts : Network → List (List Point) → Type 0
AreExactFronts net fronts =
    (s : ℕ) → s < section_count net.tree → IsExact net s (λ g budget. bound net fronts s g budget)
