-- Designs of a network: which fit, what they lose and cost, and which meet the rules.
use Rattle.std.specs.Prelude.{◌≡◌, ℕ, ◌+◌, ◌<◌, ◌≤◌, max, length, map, fold, sum_by, Option, Some, None, slice_index, IsSome, IfSome}
use Rattle.duct_units.specs.declared.side.Side.{Side}
use Rattle.duct_units.specs.declared.side.Side.TheVariants.{Supply, Return}
use Rattle.duct_definitions.specs.declared.design.Pair.{Pair}
use Rattle.duct_definitions.specs.declared.design.Design.{Design}
use Rattle.duct_definitions.specs.Tree.{section_count, sections, neighbour, at_neighbour, leaves, way}
use Rattle.duct_definitions.specs.Network.{Network, size_count, pair_at, fan_at, return_fan_at}

-- one size for each section; the fans and every size in range
pub record Fits (net : Network) (d : Design) : Type 0 where
  pub fan : d.fan < length net.fans
  pub back : IfSome d.back (λ i. i < length net.return_fans)
  pub sizes : length d.sizes ≡ section_count net.tree
  pub each : (s : ℕ) → s < section_count net.tree → slice_index d.sizes s < size_count net s

-- the size of the neighbour, 0 at the fan
abbrev pub size_beside : Design → Option ℕ → ℕ
size_beside d n = at_neighbour (slice_index d.sizes) n

-- the pair of a section in the design's sizes, or none
abbrev pub pair_of : Network → Design → ℕ → Option Pair
pair_of net d s = pair_at net s (slice_index d.sizes s) (size_beside d (neighbour net.tree s))

-- what a pair loses, 0 where there is none
abbrev pub loss_of : Option Pair → ℕ
loss_of None = 0
loss_of (Some pair) = pair.loss

-- what a pair costs, 0 where there is none
abbrev pub price_of : Option Pair → ℕ
price_of None = 0
price_of (Some pair) = pair.price

-- the plain sum of the losses of the sections from the leaf to the fan
abbrev pub path_loss : Network → Design → ℕ → ℕ
path_loss net d leaf = sum_by (λ s. loss_of (pair_of net d s)) (way net.tree leaf)

-- the greatest path loss of a side, 0 for a side without sections
abbrev pub worst : Network → Design → Side → ℕ
worst net d x = fold max 0 (map (path_loss net d) (leaves net.tree x))

-- the fan's pressure covers both sides; or with a return fan the supply side, and the return fan's the return side
abbrev pub Covers : Network → Design → Option ℕ → Type 0
Covers net d None = worst net d Supply + worst net d Return ≤ (fan_at net d.fan).pressure
Covers net d (Some i) =
    (worst net d Supply ≤ (fan_at net d.fan).pressure) × (worst net d Return ≤ (return_fan_at net i).pressure)

-- every section's pair is there, and the fans cover both sides
pub record Meets (net : Network) (d : Design) : Type 0 where
  pub fits : Fits net d
  pub pairs : (s : ℕ) → s < section_count net.tree → IsSome (pair_of net d s)
  pub pressure : Covers net d d.back

-- what the return fan costs, 0 where there is none
abbrev pub return_fan_cost : Network → Option ℕ → ℕ
return_fan_cost net None = 0
return_fan_cost net (Some i) = (return_fan_at net i).cost

-- what the fan costs, with the return fan where there is one
abbrev pub fans_cost : Network → ℕ → Option ℕ → ℕ
fans_cost net fan back = (fan_at net fan).cost + return_fan_cost net back

-- the prices of all sections, and the fans' costs
abbrev pub cost : Network → Design → ℕ
cost net d = sum_by (λ s. price_of (pair_of net d s)) (sections net.tree) + fans_cost net d.fan d.back
