-- What the walks together find: the path losses, the worst losses, and the dampers.
use Rattle.std.proofs.Common.{◌≡◌, ℕ, ◌-◌, ◌^◌, ◌<◌, ◌≤◌, List, ◌++◌, take, fold, max, true, ap, ◌∙◌, sym, subst, arith}
use Rattle.std.proofs.Math.Seq.{take-append_seam}
use Rattle.std.specs.Prelude.{◌&&◌, slice_index}
use Rattle.duct_units.specs.declared.side.Side.{Side}
use Rattle.duct_units.specs.declared.side.Side.TheVariants.{Supply, Return}
use Rattle.duct_units.specs.Side.{same_side}
use Rattle.duct_definitions.specs.declared.design.Design.{Design}
use Rattle.duct_definitions.specs.Tree.{Tree, IsTree, section_count, sections, neighbour, at_neighbour, side, is_leaf, leaves, way}
use Rattle.duct_definitions.specs.Network.{Network, IsNetwork}
use Rattle.duct_definitions.specs.Designs.{Meets, pair_of, loss_of, path_loss, worst}
use Rattle.duct_definitions.specs.Dampers.{head, least_of, leaves_beyond, slack, damper}
use Rattle.net_model.proofs.Bounds.{path_loss-le}
use Rattle.design_laws.proofs.Among.{Among, Among-filtered, below-range}
use Rattle.design_laws.proofs.Beyond.{IsBeyond-from, is_within}
use Rattle.damper_balance.specs.declared.passes.Heads.{Heads}
use Rattle.damper_balance.specs.SectionNumbers.{ListsEach, sum_on_way, greatest_at, head_on, slack_by, damper_by}
use Rattle.damper_balance.specs.Balance.{AreHeads}
use Rattle.damper_balance.proofs.LeafBeyond.{on_way_within}
use Rattle.damper_balance.proofs.NumberLists.{same_beside, map_each, sum_by-each}
use Rattle.damper_balance.proofs.Slacks.{path-le-head}

-- room for as many numbers as the tree has sections
pub room_is : (room count : ℕ) (t u : Tree) → room ≡ count → count ≡ section_count t → t ≡ u → room ≡ section_count u
room_is room count t u first second same = first ∙ second ∙ ap (λ (v : Tree). section_count v) same

-- numbers that were written stand in the whole list, where they fill it
pub ListsEach-written : (t : Tree) (f : ℕ → ℕ) (room : ℕ) (written rest whole : List ℕ) → room ≡ section_count t
    → ListsEach t f written → whole ≡ take room (written ++ rest) → ListsEach t f whole
ListsEach-written t f room written rest whole fills each is =
    let full : whole ≡ written =
    is ∙ ap (λ (n : ℕ). take n (written ++ rest)) (fills ∙ sym each.count) ∙ take-append_seam written rest in
    subst (λ (numbers : List ℕ). ListsEach t f numbers) (sym full) each

-- ---- path losses

-- what each section loses, as the design has it
abbrev pub ListsLosses : Network → Design → List ℕ → Type 0
ListsLosses net d losses = ListsEach net.tree (λ s. loss_of (pair_of net d s)) losses

path_loss_is : (net : Network) (d : Design) (losses : List ℕ) (s : ℕ) → IsTree net.tree → ListsLosses net d losses
    → s < section_count net.tree → sum_on_way net.tree losses s ≡ path_loss net d s
path_loss_is net d losses s tree each within =
    sum_by-each (λ x. slice_index losses x) (λ x. loss_of (pair_of net d x)) (way net.tree s)
    (λ x among. each.each x (on_way_within net.tree s x tree within among))

pub path_losses_fit : (net : Network) (d : Design) (t : Tree) (losses : List ℕ) (s : ℕ) → IsNetwork net
    → t ≡ net.tree → ListsLosses net d losses → s < section_count t → sum_on_way t losses s < 2 ^ 64
path_losses_fit net d t losses s valid same each =
    subst (λ (u : Tree). s < section_count u → sum_on_way u losses s < 2 ^ 64) (sym same)
    (λ (within : s < section_count net.tree).
    let is = path_loss_is net d losses s valid.tree each within in
    let most = path_loss-le net d s valid within in
    omega arith)

-- losses added along the ways are path losses
pub path_losses_found : (net : Network) (d : Design) (t : Tree) (losses found : List ℕ) → IsNetwork net → t ≡ net.tree
    → ListsLosses net d losses → ListsEach t (sum_on_way t losses) found
    → ListsEach net.tree (path_loss net d) found
path_losses_found net d t losses found valid same each added =
    let here = subst (λ (u : Tree). ListsEach u (sum_on_way u losses) found) same added in
    record {
      count = here.count;
      each = λ s within. here.each s within ∙ path_loss_is net d losses s valid.tree each within;
    }

-- ---- worst losses

leaf_within : (t : Tree) (x : Side) (s : ℕ) → Among s (leaves t x) → s < section_count t
leaf_within t x s among =
    let found = Among-filtered (λ y. same_side (side t y) x && is_leaf t y) s (sections t) among in
    let below = below-range 0 (section_count t) s found.0 in
    omega arith

-- the greatest path loss of the side's leaves is its worst loss
pub worst_found : (net : Network) (d : Design) (x : Side) (t : Tree) (losses : List ℕ) (found : ℕ) → t ≡ net.tree
    → ListsEach net.tree (path_loss net d) losses → found ≡ greatest_at losses (leaves t x) → found ≡ worst net d x
worst_found net d x t losses found same each is =
    is
    ∙ ap (λ (u : Tree). greatest_at losses (leaves u x)) same
    ∙ ap (λ (ns : List ℕ). fold max 0 ns) (map_each (λ s. slice_index losses s) (path_loss net d) (leaves net.tree x)
    (λ s among. each.each s (leaf_within net.tree x s among)))

-- ---- dampers of a design

head_is : (net : Network) (d : Design) (heads : Heads) (x : Side) → AreHeads net d heads
    → head_on heads x ≡ head net d x
head_is net d heads Supply are = are.supply
head_is net d heads Return are = are.back

-- a leaf's path loss is within the head
pub losses_fit : (net : Network) (d : Design) (t : Tree) (heads : Heads) (losses : List ℕ) (s : ℕ) → t ≡ net.tree
    → Meets net d → AreHeads net d heads → ListsEach net.tree (path_loss net d) losses → is_leaf t s ≡ true
    → slice_index losses s ≤ head_on heads (side t s)
losses_fit net d t heads losses s same meets are each =
    subst (λ (u : Tree). is_leaf u s ≡ true → slice_index losses s ≤ head_on heads (side u s)) (sym same)
    (λ (is : is_leaf net.tree s ≡ true).
    let loss = each.each s (is_within net.tree s is) in
    let fits = path-le-head net d s meets is in
    let whole = head_is net d heads (side net.tree s) are in
    omega arith)

slack_is : (net : Network) (d : Design) (heads : Heads) (losses : List ℕ) (s : ℕ) → AreHeads net d heads
    → ListsEach net.tree (path_loss net d) losses → slack_by net.tree heads losses s ≡ slack net d s
slack_is net d heads losses s are each =
    ap least_of (map_each (λ leaf. head_on heads (side net.tree s) - slice_index losses leaf)
    (λ leaf. head net d (side net.tree s) - path_loss net d leaf) (leaves_beyond net.tree s)
    (λ leaf among.
    ap (λ (n : ℕ). n - slice_index losses leaf) (head_is net d heads (side net.tree s) are)
    ∙ ap (λ (n : ℕ). head net d (side net.tree s) - n)
    (each.each leaf (is_within net.tree leaf (IsBeyond-from net.tree s leaf among).is))))

-- dampers by the design's heads and path losses are the design's
pub dampers_found : (net : Network) (d : Design) (t : Tree) (heads : Heads) (losses found : List ℕ) → t ≡ net.tree
    → AreHeads net d heads → ListsEach net.tree (path_loss net d) losses → ListsEach t (damper_by t heads losses) found
    → ListsEach net.tree (damper net d) found
dampers_found net d t heads losses found same are each taken =
    let here = subst (λ (u : Tree). ListsEach u (damper_by u heads losses) found) same taken in
    let slack_of : (s : ℕ) → slack_by net.tree heads losses s ≡ slack net d s =
    λ s. slack_is net d heads losses s are each in
    record {
      count = here.count;
      each = λ s within.
          here.each s within
          ∙ ap (λ (n : ℕ). n - at_neighbour (slack_by net.tree heads losses) (neighbour net.tree s)) (slack_of s)
          ∙ ap (λ (n : ℕ). slack net d s - n)
          (same_beside (slack_by net.tree heads losses) (slack net d) (neighbour net.tree s) (λ n _. slack_of n));
    }
