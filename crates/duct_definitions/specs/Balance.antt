-- Balance: what a path takes with its dampers, and what it has to take.
--   throttled_loss net d leaf   the losses and the dampers of the sections from the leaf to the fan
--   PathsTakeHeads net d        every path takes the head of its side
--   IsBalanced net d            every path takes its fan's pressure: with one fan a supply and a return path together,
--                               with a return fan each path that of its own side's fan
use Rattle.std.specs.Prelude.{◌≡◌, ℕ, ◌+◌, [], sum_by, Option, Some, None, IsTrue}
use Rattle.duct_units.specs.declared.side.Side.{Side}
use Rattle.duct_units.specs.declared.side.Side.TheVariants.{Supply, Return}
use Rattle.duct_definitions.specs.declared.design.Design.{Design}
use Rattle.duct_definitions.specs.Tree.{Tree, side, is_leaf, leaves, way}
use Rattle.duct_definitions.specs.Network.{Network, fan_at, return_fan_at}
use Rattle.duct_definitions.specs.Designs.{pair_of, loss_of}
use Rattle.duct_definitions.specs.Dampers.{head, damper}

-- the section is a leaf of the side
pub record IsLeafOf (t : Tree) (x : Side) (s : ℕ) : Type 0 where
  pub leaf : IsTrue (is_leaf t s)
  pub at_side : side t s ≡ x

-- the losses and the dampers of the sections from the leaf to the fan
abbrev pub throttled_loss : Network → Design → ℕ → ℕ
throttled_loss net d leaf = sum_by (λ s. loss_of (pair_of net d s) + damper net d s) (way net.tree leaf)

-- every path of a side takes the side's head
abbrev pub PathsTakeHeads : Network → Design → Type 0
PathsTakeHeads net d =
    (x : Side) (leaf : ℕ) → IsLeafOf net.tree x leaf → throttled_loss net d leaf ≡ head net d x

-- every path of a side takes this pressure
abbrev pub PathsTake : Network → Design → Side → ℕ → Type 0
PathsTake net d x pressure = (leaf : ℕ) → IsLeafOf net.tree x leaf → throttled_loss net d leaf ≡ pressure

-- one fan: a supply path and a return path together take its pressure, and without a return side a supply path alone
pub record SharesFan (net : Network) (d : Design) : Type 0 where
  pub both : (supply back : ℕ) → IsLeafOf net.tree Supply supply → IsLeafOf net.tree Return back
      → throttled_loss net d supply + throttled_loss net d back ≡ (fan_at net d.fan).pressure
  pub alone : leaves net.tree Return ≡ [] → PathsTake net d Supply (fan_at net d.fan).pressure

-- a fan on each side: each path takes the pressure of its own side's fan
pub record TakesOwnFans (net : Network) (d : Design) (i : ℕ) : Type 0 where
  pub supply : PathsTake net d Supply (fan_at net d.fan).pressure
  pub back : PathsTake net d Return (return_fan_at net i).pressure

-- every path takes its fan's pressure, without or with a return fan
abbrev pub IsBalancedWith : Network → Design → Option ℕ → Type 0
IsBalancedWith net d None = SharesFan net d
IsBalancedWith net d (Some i) = TakesOwnFans net d i

-- the design's dampers make every path take its fan's pressure
abbrev pub IsBalanced : Network → Design → Type 0
IsBalanced net d = IsBalancedWith net d d.back
