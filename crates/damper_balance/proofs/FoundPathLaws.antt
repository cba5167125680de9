-- What slacks, heads and the dampers that are found make of each path.
use Rattle.std.proofs.Common.{◌≡◌, ℕ, ◌+◌, ◌-◌, ◌<◌, ◌≤◌, List, [], ◌∷◌, map, Option, Some, None, refl, ap, ◌∙◌, sym, subst, arith}
use Rattle.std.specs.Prelude.{slice_index}
use Rattle.duct_units.specs.declared.side.Side.{Side}
use Rattle.duct_units.specs.declared.side.Side.TheVariants.{Supply, Return}
use Rattle.duct_definitions.specs.declared.design.Design.{Design}
use Rattle.duct_definitions.specs.Tree.{IsTree, section_count, neighbour, side, way}
use Rattle.duct_definitions.specs.Network.{Network, IsNetwork, fan_at, return_fan_at}
use Rattle.duct_definitions.specs.Designs.{Covers, Meets, pair_of, loss_of, path_loss}
use Rattle.duct_definitions.specs.Dampers.{head, head_with, least_of, leaves_beyond, slack, slack_beside, damper}
use Rattle.duct_definitions.specs.Balance.{throttled_loss, PathsTake, IsBalancedWith}
use Rattle.design_laws.proofs.Beyond.{is_within}
use Rattle.design_laws.proofs.Throttled.{paths_take_heads, paths_balanced}
use Rattle.damper_balance.specs.declared.dampers.Dampers.{Dampers}
use Rattle.damper_balance.specs.Balance.{AreDampers}
use Rattle.damper_balance.specs.FoundPaths.{PathsLeaveSlack, DampersTakeSlack, return_pressure, pressure_on, AreWithinPressure, head_found, loss_with, FoundTake, FoundTakeHeads, FoundBalancedWith, IsFoundBalanced}
use Rattle.damper_balance.proofs.LeafBeyond.{on_way_within}
use Rattle.damper_balance.proofs.NumberLists.{sum_by-each}
use Rattle.damper_balance.proofs.Slacks.{slack-leaf, slack_beside-le, worst-le-head, path-le-head}

-- a part and what it leaves
whole_again : (whole part rest : ℕ) → part ≤ whole → rest ≡ whole - part → part + rest ≡ whole
whole_again whole part rest within is = omega arith

pub paths_leave_slack : (net : Network) (d : Design) → IsNetwork net → Meets net d → PathsLeaveSlack net d
paths_leave_slack net d valid meets x leaf of_side =
    whole_again (head net d (side net.tree leaf)) (path_loss net d leaf) (slack net d leaf)
    (path-le-head net d leaf meets of_side.leaf) (slack-leaf net d leaf valid.tree of_side.leaf)
    ∙ ap (head net d) of_side.at_side

pub dampers_take_slack : (net : Network) (d : Design) → IsNetwork net → Meets net d → DampersTakeSlack net d
dampers_take_slack net d valid meets s within =
    whole_again (slack net d s) (slack_beside net d (neighbour net.tree s)) (damper net d s)
    (slack_beside-le net d s valid.tree within) refl

least_of-bound : (f : ℕ → ℕ) (most : ℕ) (xs : List ℕ) → ((x : ℕ) → f x ≤ most) → least_of (map f xs) ≤ most
least_of-bound f most [] each = omega arith
least_of-bound f most (x ∷ []) each = each x
least_of-bound f most (x ∷ y ∷ ys) each = let low = each x in let others : ℕ = least_of (map f (y ∷ ys)) in omega
    arith

head_with-le : (net : Network) (d : Design) (o : Option ℕ) → Covers net d o
    → head_with net d o Return ≤ return_pressure net d.fan o
head_with-le net d None covered = omega arith
head_with-le net d (Some i) covered = omega arith

supply_head-le : (net : Network) (d : Design) (o : Option ℕ) → head_with net d o Supply ≤ (fan_at net d.fan).pressure
supply_head-le net d None = omega arith
supply_head-le net d (Some i) = omega arith

head-le : (net : Network) (d : Design) (x : Side) → Meets net d → head net d x ≤ pressure_on net d x
head-le net d Supply meets = supply_head-le net d d.back
head-le net d Return meets = head_with-le net d d.back meets.pressure

less_is_less : (a b most : ℕ) → a ≤ most → a - b ≤ most
less_is_less a b most within = omega arith

pub within_pressure : (net : Network) (d : Design) → Meets net d → AreWithinPressure net d
within_pressure net d meets = record {
  worst = λ x. worst-le-head net d x meets;
  head = λ x. head-le net d x meets;
  damper = λ s.
      let pressure : ℕ = pressure_on net d (side net.tree s) in
      less_is_less (slack net d s) (slack_beside net d (neighbour net.tree s)) pressure
      (least_of-bound (λ leaf. head net d (side net.tree s) - path_loss net d leaf) pressure
      (leaves_beyond net.tree s)
      (λ leaf. less_is_less (head net d (side net.tree s)) (path_loss net d leaf) pressure
      (head-le net d (side net.tree s) meets)));
}

-- a path takes with the dampers that are found what it takes with the dampers
loss_with-is : (net : Network) (d : Design) (found : Dampers) (leaf : ℕ) → IsTree net.tree
    → leaf < section_count net.tree
    → AreDampers net d found → loss_with net d found leaf ≡ throttled_loss net d leaf
loss_with-is net d found leaf tree within are =
    sum_by-each (λ s. loss_of (pair_of net d s) + slice_index found.damper s)
    (λ s. loss_of (pair_of net d s) + damper net d s)
    (way net.tree leaf)
    (λ s among. ap (λ (n : ℕ). loss_of (pair_of net d s) + n)
    (are.damper.each s (on_way_within net.tree leaf s tree within among)))

head_is : (net : Network) (d : Design) (found : Dampers) (x : Side) → AreDampers net d found
    → head_found found x ≡ head net d x
head_is net d found Supply are = are.supply_head
head_is net d found Return are = are.return_head

-- where paths take a pressure with the dampers they do so with those that are found
found_take : (net : Network) (d : Design) (found : Dampers) (x : Side) (pressure : ℕ) → IsTree net.tree
    → AreDampers net d found
    → PathsTake net d x pressure → FoundTake net d found x pressure
found_take net d found x pressure tree are take leaf of_side =
    loss_with-is net d found leaf tree (is_within net.tree leaf of_side.leaf) are ∙ take leaf of_side

pub found_take_heads : (net : Network) (d : Design) (found : Dampers) → IsNetwork net → Meets net d
    → AreDampers net d found
    → FoundTakeHeads net d found
found_take_heads net d found valid meets are x =
    subst (FoundTake net d found x) (sym (head_is net d found x are))
    (found_take net d found x (head net d x) valid.tree are (paths_take_heads net d valid meets x))

balanced_with : (net : Network) (d : Design) (found : Dampers) (o : Option ℕ) → IsTree net.tree
    → AreDampers net d found
    → IsBalancedWith net d o → FoundBalancedWith net d found o
balanced_with net d found None tree are balanced = record {
  both = λ supply back of_supply of_return.
      let one = loss_with-is net d found supply tree (is_within net.tree supply of_supply.leaf) are in
      let other = loss_with-is net d found back tree (is_within net.tree back of_return.leaf) are in
      ap (λ (n : ℕ). n + loss_with net d found back) one
      ∙ ap (λ (n : ℕ). throttled_loss net d supply + n) other
      ∙ balanced.both supply back of_supply of_return;
  alone = λ none. found_take net d found Supply (fan_at net d.fan).pressure tree are (balanced.alone none);
}
balanced_with net d found (Some i) tree are balanced = record {
  supply = found_take net d found Supply (fan_at net d.fan).pressure tree are balanced.supply;
  back = found_take net d found Return (return_fan_at net i).pressure tree are balanced.back;
}

pub found_balanced : (net : Network) (d : Design) (found : Dampers) → IsNetwork net → Meets net d
    → AreDampers net d found
    → IsFoundBalanced net d found
found_balanced net d found valid meets are = balanced_with net d found d.back valid.tree are
    (paths_balanced net d valid meets)

pub ruleset of_slacks = (paths_leave_slack, dampers_take_slack)

pub ruleset of_found = (found_take_heads, found_balanced)
