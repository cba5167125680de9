-- What is left to the dampers of a path, and what a path takes with the dampers that are found.
use Rattle.std.specs.Prelude.{◌≡◌, ℕ, ◌+◌, ◌<◌, ◌≤◌, [], sum_by, slice_index, Option, Some, None}
use Rattle.duct_units.specs.declared.side.Side.{Side}
use Rattle.duct_units.specs.declared.side.Side.TheVariants.{Supply, Return}
use Rattle.duct_definitions.specs.declared.design.Design.{Design}
use Rattle.duct_definitions.specs.Tree.{section_count, neighbour, side, leaves, way}
use Rattle.duct_definitions.specs.Network.{Network, fan_at, return_fan_at}
use Rattle.duct_definitions.specs.Designs.{pair_of, loss_of, path_loss, worst}
use Rattle.duct_definitions.specs.Dampers.{head, slack, slack_beside, damper}
use Rattle.duct_definitions.specs.Balance.{IsLeafOf}
use Rattle.damper_balance.specs.declared.dampers.Dampers.{Dampers}

-- what a path does not lose of its side's head is the slack of its leaf
abbrev pub PathsLeaveSlack : Network → Design → Type 0
PathsLeaveSlack net d =
    (x : Side) (leaf : ℕ) → IsLeafOf net.tree x leaf → path_loss net d leaf + slack net d leaf ≡ head net d x

-- what the neighbour has of a section's slack, and the section's damper, are all of it
abbrev pub DampersTakeSlack : Network → Design → Type 0
DampersTakeSlack net d =
    (s : ℕ) → s < section_count net.tree → slack_beside net d (neighbour net.tree s) + damper net d s ≡ slack net d s

-- the pressure of the fan that serves the return side
abbrev pub return_pressure : Network → ℕ → Option ℕ → ℕ
return_pressure net fan None = (fan_at net fan).pressure
return_pressure net fan (Some i) = (return_fan_at net i).pressure

-- the pressure of the fan that serves the side
abbrev pub pressure_on : Network → Design → Side → ℕ
pressure_on net d Supply = (fan_at net d.fan).pressure
pressure_on net d Return = return_pressure net d.fan d.back

-- no side loses more than its head, and no head and no damper is above the pressure of the fan that serves the side
pub record AreWithinPressure (net : Network) (d : Design) : Type 0 where
  pub worst : (x : Side) → worst net d x ≤ head net d x
  pub head : (x : Side) → head net d x ≤ pressure_on net d x
  pub damper : (s : ℕ) → damper net d s ≤ pressure_on net d (side net.tree s)

-- the head of a side, as it is found
abbrev pub head_found : Dampers → Side → ℕ
head_found found Supply = found.supply_head
head_found found Return = found.return_head

-- the losses and the dampers that are found of the sections from the leaf to the fan
abbrev pub loss_with : Network → Design → Dampers → ℕ → ℕ
loss_with net d found leaf = sum_by (λ s. loss_of (pair_of net d s) + slice_index found.damper s) (way net.tree leaf)

-- every path of a side takes this pressure with the dampers that are found
abbrev pub FoundTake : Network → Design → Dampers → Side → ℕ → Type 0
FoundTake net d found x pressure = (leaf : ℕ) → IsLeafOf net.tree x leaf → loss_with net d found leaf ≡ pressure

-- every path of a side takes the head that is found
abbrev pub FoundTakeHeads : Network → Design → Dampers → Type 0
FoundTakeHeads net d found = (x : Side) → FoundTake net d found x (head_found found x)

-- one fan: a supply path and a return path together take its pressure, and without a return side a supply path alone
pub record FoundShareFan (net : Network) (d : Design) (found : Dampers) : Type 0 where
  pub both : (supply back : ℕ) → IsLeafOf net.tree Supply supply → IsLeafOf net.tree Return back
      → loss_with net d found supply + loss_with net d found back ≡ (fan_at net d.fan).pressure
  pub alone : leaves net.tree Return ≡ [] → FoundTake net d found Supply (fan_at net d.fan).pressure

-- a fan on each side: each path takes the pressure of its own side's fan
pub record FoundTakeOwnFans (net : Network) (d : Design) (found : Dampers) (i : ℕ) : Type 0 where
  pub supply : FoundTake net d found Supply (fan_at net d.fan).pressure
  pub back : FoundTake net d found Return (return_fan_at net i).pressure

-- with the dampers that are found every path takes its fan's pressure, without or with a return fan
abbrev pub FoundBalancedWith : Network → Design → Dampers → Option ℕ → Type 0
FoundBalancedWith net d found None = FoundShareFan net d found
FoundBalancedWith net d found (Some i) = FoundTakeOwnFans net d found i

-- the dampers that are found make every path take its fan's pressure
abbrev pub IsFoundBalanced : Network → Design → Dampers → Type 0
IsFoundBalanced net d found = FoundBalancedWith net d found d.back
