-- What the test of a certificate finds on its way.
use Rattle.std.specs.Prelude.{◌≡◌, ℕ, ◌<◌, ◌≤◌, List, length, slice_index, Option, Some, None, IfSome, All}
use Rattle.duct_definitions.specs.Tree.{section_count}
use Rattle.duct_definitions.specs.Network.{Network, IsNetwork, columns, fan_at}
use Rattle.pareto_front.specs.declared.point.Point.{Point}
use Rattle.pareto_front.specs.Front.{IsFront}
use Rattle.front_certificate.specs.Certificates.{fronts_before, front_count, bound_sum}
use Rattle.front_certificate.specs.Sound.{IsNoLess, split_sum}

-- a network, and the fronts that a certificate states of it
pub record Stated : Type 0 where
  pub net : Network
  pub fronts : List (List Point)

-- the places of the first fronts of all sections
abbrev pub AreFirsts : Network → List ℕ → Type 0
AreFirsts net firsts = (s : ℕ) → s < section_count net.tree → slice_index firsts s ≡ fronts_before net s

-- the fronts are those of a network, and each section's stand from its first place on
pub record IsIndexed (net : Network) (fronts : List (List Point)) (firsts : List ℕ) : Type 0 where
  pub count : length fronts ≡ front_count net
  pub rising : All IsFront fronts
  pub network : IsNetwork net
  pub places : AreFirsts net firsts

-- sections of the network, each with size k beside it
pub record AreBeside (net : Network) (k : ℕ) (sections : List ℕ) : Type 0 where
  pub in_range : All (λ s. s < section_count net.tree) sections
  pub sizes : All (λ s. k < columns net s) sections

-- between the budget and the next need of one of the sections their bounds stay
abbrev pub StayTo : Network → List (List Point) → List ℕ → ℕ → ℕ → Option ℕ → Type 0
StayTo net fronts sections k from next =
    (budget : ℕ) → from ≤ budget → IfSome next (λ need. budget < need)
    → bound_sum net fronts sections k budget ≡ bound_sum net fronts sections k from

-- the splits of a fan that serves both sides hold at the supply budget
abbrev pub SharedHold : Network → List (List Point) → Option ℕ → ℕ → Type 0
SharedHold net fronts total budget =
    (fan : ℕ) → fan < length net.fans → budget ≤ (fan_at net fan).pressure
    → IsNoLess total (split_sum net fronts fan None budget)

-- the splits of fan and a return fan hold, each with its whole pressure
abbrev pub OwnHold : Network → List (List Point) → Option ℕ → ℕ → ℕ → Type 0
OwnHold net fronts total fan own =
    IsNoLess total (split_sum net fronts fan (Some own) (fan_at net fan).pressure)
