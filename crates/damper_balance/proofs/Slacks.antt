-- Slacks: that of a leaf is what its path leaves of its side's head, that of an inner section the least of its
-- children's. So a neighbour's slack is at most the section's.
use Rattle.std.proofs.Common.{◌≡◌, ℕ, ◌-◌, ◌<◌, ◌≤◌, inl, List, map, true, Option, Some, None, refl, ap, ◌∙◌, sym, subst, arith}
use Rattle.duct_units.specs.declared.side.Side.{Side}
use Rattle.duct_units.specs.declared.side.Side.TheVariants.{Supply, Return}
use Rattle.duct_definitions.specs.declared.design.Design.{Design}
use Rattle.duct_definitions.specs.Tree.{Tree, IsTree, section_count, neighbour, at_neighbour, side, children, is_leaf, leaves}
use Rattle.duct_definitions.specs.Network.{Network}
use Rattle.duct_definitions.specs.Designs.{Covers, Meets, path_loss, worst}
use Rattle.duct_definitions.specs.Dampers.{head, head_with, least_of, leaves_beyond, slack, slack_beside}
use Rattle.design_laws.proofs.Among.{Among, le-max, least_of-le, least_of-reached}
use Rattle.design_laws.proofs.Beyond.{IsBeyond, IsBeyond-from, IsBeyond-way, Among-leaves, Among-leaves_beyond, alone_on_way, is_within}
use Rattle.damper_balance.proofs.LeafBeyond.{child_is, is_child, leaf_beyond, child_before, IsBeyond-neighbour}

-- the least that is left of the side at a leaf beyond the section, where left x leaf is what the leaf leaves of side x
abbrev pub least_left : Tree → (Side → ℕ → ℕ) → ℕ → ℕ
least_left t left s = least_of (map (left (side t s)) (leaves_beyond t s))

-- what the leaf leaves of its own side
abbrev pub left_by : Tree → (Side → ℕ → ℕ) → ℕ → ℕ
left_by t left leaf = left (side t leaf) leaf

-- at most what each leaf beyond the section leaves, and what one of them leaves
pub record IsLeastLeft (t : Tree) (left : Side → ℕ → ℕ) (s least : ℕ) : Type 0 where
  pub at_most : (leaf : ℕ) → IsBeyond t s leaf → least ≤ left_by t left leaf
  pub reached : (leaf : ℕ) × (IsBeyond t s leaf × (least ≡ left_by t left leaf))

least_left-is : (t : Tree) (left : Side → ℕ → ℕ) (s leaf : ℕ) → IsBeyond t s leaf
    → IsLeastLeft t left s (least_left t left s)
least_left-is t left s leaf beyond =
    let (y, (among, is)) = least_of-reached (left (side t s)) leaf (leaves_beyond t s)
    (Among-leaves_beyond t s leaf beyond) in
    let there = IsBeyond-from t s y among in
    record {
      at_most = λ z other.
          subst (λ (x : Side). least_left t left s ≤ left x z) (sym other.same)
          (least_of-le (left (side t s)) z (leaves_beyond t s) (Among-leaves_beyond t s z other));
      reached = (y, (there, is ∙ ap (λ (x : Side). left x y) (sym there.same)));
    }

-- two numbers that are each at most the other
meet : (a b x y : ℕ) → a ≤ x → b ≡ x → b ≤ y → a ≡ y → a ≡ b
meet a b x y below first above second = omega arith

least_is : (t : Tree) (left : Side → ℕ → ℕ) (s least : ℕ) → IsLeastLeft t left s least → least_left t left s ≡ least
least_is t left s least is =
    let (y, (beyond, reached)) = is.reached in
    let all = least_left-is t left s y beyond in
    let (z, (also, least_one)) = all.reached in
    meet (least_left t left s) least (left_by t left y) (left_by t left z) (all.at_most y beyond) reached
    (is.at_most z also) least_one

same_le : (a : ℕ) → a ≤ a
same_le a = omega arith

le_trans : (a b c : ℕ) → a ≤ b → b ≤ c → a ≤ c
le_trans a b c first second = omega arith

pub least_left-leaf : (t : Tree) (left : Side → ℕ → ℕ) (leaf : ℕ) → IsTree t → is_leaf t leaf ≡ true
    → least_left t left leaf ≡ left_by t left leaf
least_left-leaf t left leaf tree is =
    least_is t left leaf (left_by t left leaf) (record {
      at_most = λ y beyond.
          let same = alone_on_way t leaf y tree is (is_within t y beyond.is) beyond.passed in
          subst (λ (z : ℕ). left_by t left leaf ≤ left_by t left z) same (same_le (left_by t left leaf));
      reached = (leaf, (IsBeyond-way t leaf leaf tree is (inl refl), refl));
    })

pub least_left-inner : (t : Tree) (left : Side → ℕ → ℕ) (s c : ℕ) → IsTree t → Among c (children t s)
    → least_left t left s ≡ least_of (map (least_left t left) (children t s))
least_left-inner t left s c tree child =
    let all : List ℕ = children t s in
    let (g, (among, is)) = least_of-reached (least_left t left) c all child in
    let (y, beyond) = leaf_beyond t g tree (child_is t s g among).0 in
    let (z, (there, reached)) = (least_left-is t left g y beyond).reached in
    least_is t left s (least_of (map (least_left t left) all)) (record {
      at_most = λ leaf below.
          let (h, (of_section, beyond_child)) = child_before t s c leaf tree child below in
          le_trans (least_of (map (least_left t left) all)) (least_left t left h) (left_by t left leaf)
          (least_of-le (least_left t left) h all of_section)
          ((least_left-is t left h leaf beyond_child).at_most leaf beyond_child);
      reached = (z, (IsBeyond-neighbour t s g z tree among there, is ∙ reached));
    })

-- what is left at the neighbour is no more than at the section
pub least_left-beside : (t : Tree) (left : Side → ℕ → ℕ) (s : ℕ) → IsTree t → s < section_count t
    → at_neighbour (least_left t left) (neighbour t s) ≤ least_left t left s
least_left-beside t left s tree within =
    elim (neighbour t s) as (λ (o : Option ℕ). neighbour t s ≡ o
    → at_neighbour (least_left t left) o ≤ least_left t left s) [
      | None ↦ λ next. omega arith
      | Some n ↦ λ next.
          let child = is_child t n s within next in
          subst (λ (least : ℕ). least ≤ least_left t left s) (sym (least_left-inner t left n s tree child))
          (least_of-le (least_left t left) s (children t n) child)
    ] refl

-- what a path leaves of the side's head
abbrev left_in : Network → Design → Side → ℕ → ℕ
left_in net d x leaf = head net d x - path_loss net d leaf

pub slack-leaf : (net : Network) (d : Design) (leaf : ℕ) → IsTree net.tree → is_leaf net.tree leaf ≡ true
    → slack net d leaf ≡ head net d (side net.tree leaf) - path_loss net d leaf
slack-leaf net d leaf tree is = least_left-leaf net.tree (left_in net d) leaf tree is

pub slack_beside-le : (net : Network) (d : Design) (s : ℕ) → IsTree net.tree → s < section_count net.tree
    → slack_beside net d (neighbour net.tree s) ≤ slack net d s
slack_beside-le net d s tree within = least_left-beside net.tree (left_in net d) s tree within

covered-le : (net : Network) (d : Design) (o : Option ℕ) (x : Side) → Covers net d o
    → worst net d x ≤ head_with net d o x
covered-le net d None Supply covered = omega arith
covered-le net d None Return covered = same_le (worst net d Return)
covered-le net d (Some i) Supply covered = covered.0
covered-le net d (Some i) Return covered = covered.1

-- a side loses at most its head
pub worst-le-head : (net : Network) (d : Design) (x : Side) → Meets net d → worst net d x ≤ head net d x
worst-le-head net d x meets = covered-le net d d.back x meets.pressure

pub path-le-head : (net : Network) (d : Design) (leaf : ℕ) → Meets net d → is_leaf net.tree leaf ≡ true
    → path_loss net d leaf ≤ head net d (side net.tree leaf)
path-le-head net d leaf meets is =
    le_trans (path_loss net d leaf) (worst net d (side net.tree leaf)) (head net d (side net.tree leaf))
    (le-max (path_loss net d) 0 leaf (leaves net.tree (side net.tree leaf))
    (Among-leaves net.tree (side net.tree leaf) leaf is refl))
    (worst-le-head net d (side net.tree leaf) meets)
