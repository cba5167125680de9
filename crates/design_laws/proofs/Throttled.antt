-- On each leaf's way losses and dampers add to the head of its side.
-- The slack of a section is at least its neighbour's, since every leaf beyond the section is beyond the neighbour too.
-- So dampers are differences of slacks, which add up to the slack of the leaf: what its path loss leaves of the head.
use Rattle.std.proofs.Common.{◌≡◌, ℕ, zero, suc, ◌+◌, ◌-◌, ◌<◌, ◌≤◌, inl, List, [], ◌∷◌, true, Option, Some, None, refl, ap, ◌∙◌, sym, subst, arith}
use Rattle.std.proofs.lemmas.List.Sums.{sum_by-cons}
use Rattle.std.specs.Prelude.{sum_by}
use Rattle.duct_units.specs.declared.side.Side.{Side}
use Rattle.duct_units.specs.declared.side.Side.TheVariants.{Supply, Return}
use Rattle.duct_definitions.specs.declared.design.Design.{Design}
use Rattle.duct_definitions.specs.Tree.{IsTree, section_count, neighbour, side, is_leaf, leaves, way}
use Rattle.duct_definitions.specs.Network.{Network, IsNetwork}
use Rattle.duct_definitions.specs.Designs.{Meets, Covers, pair_of, loss_of, path_loss, worst}
use Rattle.duct_definitions.specs.Dampers.{head, head_with, leaves_beyond, slack, slack_beside, damper}
use Rattle.duct_definitions.proofs.TreeLaws.{earlier}
use Rattle.duct_definitions.specs.Balance.{IsLeafOf, PathsTakeHeads, PathsTake, IsBalancedWith, IsBalanced}
use Rattle.design_laws.proofs.Among.{Among, le-max, least_of-le, least_of-reached}
use Rattle.duct_definitions.proofs.WayLaws.{way-at_fan, way-beside}
use Rattle.design_laws.proofs.Ways.{neighbour_side}
use Rattle.design_laws.proofs.ReturnSide.{no_return_loss}
use Rattle.design_laws.proofs.Beyond.{IsBeyond, goes_on, alone_on_way, is_within, Among-leaves, Among-leaves_beyond, IsBeyond-from, IsBeyond-way}

slack-le : (net : Network) (d : Design) (s leaf : ℕ) → IsBeyond net.tree s leaf
    → slack net d s ≤ head net d (side net.tree s) - path_loss net d leaf
slack-le net d s leaf beyond =
    least_of-le (λ y. head net d (side net.tree s) - path_loss net d y) leaf (leaves_beyond net.tree s)
    (Among-leaves_beyond net.tree s leaf beyond)

-- the slack of a section with a leaf beyond it is what one of these leaves
slack_reached : (net : Network) (d : Design) (s leaf : ℕ) → IsBeyond net.tree s leaf
    → (y : ℕ) × (IsBeyond net.tree s y × (slack net d s ≡ head net d (side net.tree s) - path_loss net d y))
slack_reached net d s leaf beyond =
    let (y, (among, is)) =
    least_of-reached (λ y. head net d (side net.tree s) - path_loss net d y) leaf (leaves_beyond net.tree s)
    (Among-leaves_beyond net.tree s leaf beyond) in
    (y, (IsBeyond-from net.tree s y among, is))

slack_falls : (net : Network) (d : Design) (leaf s n : ℕ) → IsTree net.tree → is_leaf net.tree leaf ≡ true
    → Among s (way net.tree leaf) → s < section_count net.tree → neighbour net.tree s ≡ Some n
    → slack net d n ≤ slack net d s
slack_falls net d leaf s n tree is among within next =
    let (y, (beyond, reached)) = slack_reached net d s leaf (IsBeyond-way net.tree s leaf tree is among) in
    let same = neighbour_side net.tree s n tree within next in
    let beyond_both : IsBeyond net.tree n y = record {
      is = beyond.is;
      same = beyond.same ∙ sym same;
      passed = goes_on net.tree y s n tree (is_within net.tree y beyond.is) beyond.passed next;
    } in
    let below : slack net d n ≤ head net d (side net.tree s) - path_loss net d y =
    subst (λ x. slack net d n ≤ head net d x - path_loss net d y) same (slack-le net d n y beyond_both) in
    subst (λ most. slack net d n ≤ most) (sym reached) below

-- a part and what it leaves
both_parts : (whole part damped rest : ℕ) → part ≤ whole → damped ≡ whole - part → rest ≡ part → damped + rest ≡ whole
both_parts whole part damped rest within first second = omega arith

-- the dampers from a section on a leaf's way to the fan add up to its slack
sum_by-damper : (net : Network) (d : Design) (leaf : ℕ) → IsTree net.tree → is_leaf net.tree leaf ≡ true
    → (k s : ℕ) → s < k → s < section_count net.tree → Among s (way net.tree leaf)
    → sum_by (damper net d) (way net.tree s) ≡ slack net d s
sum_by-damper net d leaf tree is zero s small within among = absurd (omega arith)
sum_by-damper net d leaf tree is (suc k) s small within among =
    elim (neighbour net.tree s) as
    (λ o. neighbour net.tree s ≡ o → sum_by (damper net d) (way net.tree s) ≡ slack net d s) [
      | None ↦ λ next.
          let whole : damper net d s ≡ slack net d s - 0 = ap (λ o. slack net d s - slack_beside net d o) next in
          ap (sum_by (damper net d)) (way-at_fan net.tree s next) ∙ sum_by-cons (damper net d) s []
          ∙ both_parts (slack net d s) 0 (damper net d s) 0 (omega arith) whole refl
      | Some n ↦ λ next.
          let before = earlier net.tree s n tree within next in
          let part : damper net d s ≡ slack net d s - slack net d n =
          ap (λ o. slack net d s - slack_beside net d o) next in
          let rest = sum_by-damper net d leaf tree is k n (omega arith) (omega arith)
          (goes_on net.tree leaf s n tree (is_within net.tree leaf is) among next) in
          ap (sum_by (damper net d)) (way-beside net.tree s n tree within next)
          ∙ sum_by-cons (damper net d) s (way net.tree n)
          ∙ both_parts (slack net d s) (slack net d n) (damper net d s) (sum_by (damper net d) (way net.tree n))
          (slack_falls net d leaf s n tree is among within next) part rest
    ] refl

slack-leaf : (net : Network) (d : Design) (leaf : ℕ) → IsTree net.tree → is_leaf net.tree leaf ≡ true
    → slack net d leaf ≡ head net d (side net.tree leaf) - path_loss net d leaf
slack-leaf net d leaf tree is =
    let (y, (beyond, reached)) = slack_reached net d leaf leaf (IsBeyond-way net.tree leaf leaf tree is (inl refl)) in
    let same = alone_on_way net.tree leaf y tree is (is_within net.tree y beyond.is) beyond.passed in
    reached ∙ ap (λ x. head net d (side net.tree leaf) - path_loss net d x) (sym same)

sum_by-plus : (f g : ℕ → ℕ) (xs : List ℕ) → sum_by (λ x. f x + g x) xs ≡ sum_by f xs + sum_by g xs
sum_by-plus f g [] = refl
sum_by-plus f g (x ∷ xs) =
    let both = sum_by-cons (λ y. f y + g y) x xs in
    let left = sum_by-cons f x xs in
    let right = sum_by-cons g x xs in
    let rest = sum_by-plus f g xs in
    omega arith

-- each side's worst loss is within its head
worst-le_with : (net : Network) (d : Design) (back : Option ℕ) (x : Side) → Covers net d back
    → worst net d x ≤ head_with net d back x
worst-le_with net d None Supply covered = omega arith
worst-le_with net d None Return covered = omega arith
worst-le_with net d (Some i) Supply covered = covered.0
worst-le_with net d (Some i) Return covered = covered.1

path_loss-le : (net : Network) (d : Design) (x : Side) (leaf : ℕ) → Meets net d → IsLeafOf net.tree x leaf
    → path_loss net d leaf ≤ head net d x
path_loss-le net d x leaf meets of_side =
    let most : path_loss net d leaf ≤ worst net d x = le-max (path_loss net d) 0 leaf (leaves net.tree x)
    (Among-leaves net.tree x leaf of_side.leaf of_side.at_side) in
    let covered = worst-le_with net d d.back x meets.pressure in
    omega arith

-- a part and what it leaves of the whole
whole_again : (whole part rest : ℕ) → part ≤ whole → rest ≡ whole - part → part + rest ≡ whole
whole_again whole part rest within is = omega arith

pub paths_take_heads : (net : Network) (d : Design) → IsNetwork net → Meets net d → PathsTakeHeads net d
paths_take_heads net d valid meets x leaf of_side =
    let loss : ℕ → ℕ = λ s. loss_of (pair_of net d s) in
    let within = is_within net.tree leaf of_side.leaf in
    let dampers = sum_by-damper net d leaf valid.tree of_side.leaf (suc leaf) leaf (omega arith) within (inl refl) in
    let slack_is : slack net d leaf ≡ head net d x - path_loss net d leaf =
    slack-leaf net d leaf valid.tree of_side.leaf ∙ ap (λ y. head net d y - path_loss net d leaf) of_side.at_side in
    sum_by-plus loss (damper net d) (way net.tree leaf)
    ∙ whole_again (head net d x) (path_loss net d leaf) (sum_by (damper net d) (way net.tree leaf))
    (path_loss-le net d x leaf meets of_side) (dampers ∙ slack_is)

-- paths that take the heads of their sides take their fans' pressures
balanced_with : (net : Network) (d : Design) (back : Option ℕ) → Covers net d back
    → ((x : Side) → PathsTake net d x (head_with net d back x)) → IsBalancedWith net d back
balanced_with net d None covered take = record {
  both = λ supply back of_supply of_return.
      let one = take Supply supply of_supply in
      let other = take Return back of_return in
      omega arith;
  alone = λ none leaf of_supply.
      let none_lost = no_return_loss net d none in
      let whole = take Supply leaf of_supply in
      omega arith;
}
balanced_with net d (Some i) covered take = record { supply = take Supply; back = take Return }

pub paths_balanced : (net : Network) (d : Design) → IsNetwork net → Meets net d → IsBalanced net d
paths_balanced net d valid meets = balanced_with net d d.back meets.pressure (paths_take_heads net d valid meets)

pub ruleset balance = (paths_take_heads, paths_balanced)
