-- Sums of a design, and the greatest of them, as far as a walk over the sections has come.
use Rattle.std.proofs.Common.{◌≡◌, ℕ, suc, ◌+◌, ◌*◌, ◌-◌, ◌<◌, ◌≤◌, List, ◌∷◌, length, map, drop, max, Bool, true, false, cond, Option, Some, None, IfSome, refl, ap, ◌∙◌, sym, subst, get_or, arith}
use Rattle.std.proofs.lemmas.Bool.{and_parts, ltb-true}
use Rattle.std.proofs.lemmas.List.{drop_all}
use Rattle.std.proofs.lemmas.List.Sums.{sum_by-cons}
use Rattle.std.proofs.Math.Seq.{drop-cons}
use Rattle.std.specs.Prelude.{IsTrue, filter, fold, sum_by}
use Rattle.std.specs.List.{range_with_len}
use Rattle.duct_units.specs.declared.side.Side.{Side}
use Rattle.duct_definitions.specs.declared.design.Design.{Design}
use Rattle.duct_definitions.specs.declared.limits.TheConstants.{MAX_SECTIONS, MAX_LOSS, MAX_PRICE, MAX_FAN_COST}
use Rattle.duct_definitions.specs.Tree.{Tree, section_count, sections, neighbour, side, is_leaf, all_leaves, from_neighbour, way}
use Rattle.duct_units.specs.Side.{same_side}
use Rattle.duct_definitions.specs.Network.{Network, IsNetwork}
use Rattle.duct_definitions.specs.Designs.{pair_of, loss_of, price_of, path_loss, worst, fans_cost, cost}
use Rattle.duct_definitions.proofs.SectionLists.{leaves_of_side}
use Rattle.duct_definitions.proofs.TreeLaws.{neighbour_earlier}
use Rattle.net_model.proofs.Bounds.{path_loss-le, path_loss-first, prices-le}

pub leaf_within : (t : Tree) (s : ℕ) → IsTrue (is_leaf t s) → s < section_count t
leaf_within t s is = ltb-true s (section_count t) (and_parts _ _ is).0

-- the walk from the leaf stands before a section, or at the fan, and has lost so much
pub record IsWalked (net : Network) (d : Design) (leaf : ℕ) (at : Option ℕ) (lost : ℕ) : Type 0 where
  pub section : IfSome at (λ s. s < section_count net.tree)
  pub rest : lost + sum_by (λ s. loss_of (pair_of net d s)) (from_neighbour (way net.tree) at) ≡ path_loss net d leaf

pub walked-none : (net : Network) (d : Design) (leaf : ℕ) → IsTrue (is_leaf net.tree leaf)
    → IsWalked net d leaf (Some leaf) 0
walked-none net d leaf is = record { section = leaf_within net.tree leaf is; rest = omega arith }

walked-sum : (net : Network) (d : Design) (leaf s lost : ℕ) → IsNetwork net → IsWalked net d leaf (Some s) lost
    → (lost + loss_of (pair_of net d s)) + sum_by (λ x. loss_of (pair_of net d x))
    (from_neighbour (way net.tree) (neighbour net.tree s))
    ≡ path_loss net d leaf
walked-sum net d leaf s lost valid walked =
    let first = path_loss-first net d s valid walked.section in
    let whole = walked.rest in
    omega arith

pub walked-more : (net : Network) (d : Design) (leaf s lost : ℕ) → IsNetwork net → IsWalked net d leaf (Some s) lost
    → IsWalked net d leaf (neighbour net.tree s) (lost + loss_of (pair_of net d s))
walked-more net d leaf s lost valid walked =
    let before = neighbour_earlier net.tree s valid.tree walked.section in
    let within : IfSome (neighbour net.tree s) (λ n. n < section_count net.tree) =
    elim (neighbour net.tree s) as (λ o. IfSome o (λ n. n < s) → IfSome o (λ n. n < section_count net.tree)) [
      | None ↦ λ none. none
      | Some n ↦ λ less. let inside = walked.section in omega arith
    ] before in
    record { section = within; rest = walked-sum net d leaf s lost valid walked }

pub walked-fits : (net : Network) (d : Design) (leaf s lost : ℕ) → IsNetwork net → IsTrue (is_leaf net.tree leaf)
    → IsWalked net d leaf (Some s) lost → lost + loss_of (pair_of net d s) ≤ MAX_SECTIONS * MAX_LOSS
walked-fits net d leaf s lost valid is walked =
    let whole = walked-sum net d leaf s lost valid walked in
    let most = path_loss-le net d leaf valid (leaf_within net.tree leaf is) in
    omega arith

pub walked-all : (net : Network) (d : Design) (leaf : ℕ) (at : Option ℕ) (lost : ℕ) → ((s : ℕ) → at ≡ Some s → ⊥)
    → IsWalked net d leaf at lost → lost ≡ path_loss net d leaf
walked-all net d leaf None lost at_fan walked = let whole = walked.rest in omega arith
walked-all net d leaf (Some s) lost at_fan walked = absurd (at_fan s refl)

-- the fans' costs and the prices of the sections before s
pub record IsAdded (net : Network) (d : Design) (s total : ℕ) : Type 0 where
  pub rest : total + sum_by (λ x. price_of (pair_of net d x)) (range_with_len s (section_count net.tree - s)) ≡
      cost net d

pub cost-le : (net : Network) (d : Design) → IsNetwork net → fans_cost net d.fan d.back ≤ 2 * MAX_FAN_COST
    → cost net d ≤ MAX_SECTIONS * MAX_PRICE + 2 * MAX_FAN_COST
cost-le net d valid fans = let most = prices-le net d valid in omega arith

pub added-none : (net : Network) (d : Design) → IsAdded net d 0 (fans_cost net d.fan d.back)
added-none net d =
    let price : ℕ → ℕ = λ x. price_of (pair_of net d x) in
    let all : section_count net.tree - 0 ≡ section_count net.tree = omega arith in
    let same : sum_by price (range_with_len 0 (section_count net.tree - 0)) ≡ sum_by price (sections net.tree) =
    ap (λ n. sum_by price (range_with_len 0 n)) all in
    record { rest = omega arith }

added-sum : (net : Network) (d : Design) (s total : ℕ) → s < section_count net.tree → IsAdded net d s total
    → (total + price_of (pair_of net d s)) + sum_by (λ x. price_of (pair_of net d x))
    (range_with_len (s + 1) (section_count net.tree - (s + 1)))
    ≡ cost net d
added-sum net d s total within added =
    let price : ℕ → ℕ = λ x. price_of (pair_of net d x) in
    let count : section_count net.tree - s ≡ suc (section_count net.tree - (s + 1)) = omega arith in
    let first : sum_by price (range_with_len s (section_count net.tree - s)) ≡ price s + sum_by price
    (range_with_len (s + 1) (section_count net.tree - (s + 1))) =
    ap (λ n. sum_by price (range_with_len s n)) count ∙ sum_by-cons price s
    (range_with_len (s + 1) (section_count net.tree - (s + 1))) in
    let whole = added.rest in
    omega arith

pub added-more : (net : Network) (d : Design) (s total : ℕ) → s < section_count net.tree → IsAdded net d s total
    → IsAdded net d (s + 1) (total + price_of (pair_of net d s))
added-more net d s total within added = record { rest = added-sum net d s total within added }

pub added-fits : (net : Network) (d : Design) (s total : ℕ) → IsNetwork net
    → fans_cost net d.fan d.back ≤ 2 * MAX_FAN_COST
    → s < section_count net.tree → IsAdded net d s total
    → total + price_of (pair_of net d s) ≤ MAX_SECTIONS * MAX_PRICE + 2 * MAX_FAN_COST
added-fits net d s total valid fans within added =
    let whole = added-sum net d s total within added in
    let most = cost-le net d valid fans in
    omega arith

pub added-all : (net : Network) (d : Design) (s total : ℕ) → section_count net.tree ≤ s → IsAdded net d s total
    → total ≡ cost net d
added-all net d s total past added =
    let none : section_count net.tree - s ≡ 0 = omega arith in
    let whole : total + sum_by (λ x. price_of (pair_of net d x)) (range_with_len s 0) ≡ cost net d =
    subst (λ n. total + sum_by (λ x. price_of (pair_of net d x)) (range_with_len s n) ≡ cost net d) none added.rest in
    omega arith

-- the greatest path loss of the side's leaves before place i of all leaves
pub record IsGreatest (net : Network) (d : Design) (x : Side) (i : ℕ) (found : List ℕ) (most : ℕ) : Type 0 where
  pub rest : fold max most (map (path_loss net d) (filter (λ s. same_side (side net.tree s) x) (drop i found))) ≡
      worst net d x
  pub bound : most ≤ MAX_SECTIONS * MAX_LOSS

pub greatest-none : (net : Network) (d : Design) (x : Side) (found : List ℕ) → found ≡ all_leaves net.tree
    → IsGreatest net d x 0 found 0
greatest-none net d x found are = record {
  rest =
      ap (λ xs. fold max 0 (map (path_loss net d) (filter (λ s. same_side (side net.tree s) x) xs))) are
      ∙ ap (λ xs. fold max 0 (map (path_loss net d) xs)) (leaves_of_side net.tree x);
  bound = omega arith;
}

next-leaf : (net : Network) (d : Design) (x : Side) (i : ℕ) (found : List ℕ) (most : ℕ) → i < length found
    → IsGreatest net d x i found most → (on_side : Bool) → on_side ≡ same_side (side net.tree (get_or found i 0)) x
    → fold max (cond on_side (max most (path_loss net d (get_or found i 0))) most)
    (map (path_loss net d) (filter (λ s. same_side (side net.tree s) x) (drop (i + 1) found)))
    ≡ worst net d x
next-leaf net d x i found most within greatest on_side is =
    let test : ℕ → Bool = λ s. same_side (side net.tree s) x in
    let later : List ℕ = drop (suc i) found in
    let whole : fold max most (map (path_loss net d) (filter test (get_or found i 0 ∷ later))) ≡ worst net d x =
    subst (λ xs. fold max most (map (path_loss net d) (filter test xs)) ≡ worst net d x)
    (drop-cons found i 0 within) greatest.rest in
    let by_test : fold max most (map (path_loss net d)
    (cond on_side (get_or found i 0 ∷ filter test later) (filter test later))) ≡ worst net d x =
    subst (λ b. fold max most (map (path_loss net d)
    (cond b (get_or found i 0 ∷ filter test later) (filter test later))) ≡ worst net d x) (sym is) whole in
    let at_suc : fold max (cond on_side (max most (path_loss net d (get_or found i 0))) most)
    (map (path_loss net d) (filter test later)) ≡ worst net d x =
    elim on_side as (λ b. fold max most (map (path_loss net d)
    (cond b (get_or found i 0 ∷ filter test later) (filter test later))) ≡ worst net d x
    → fold max (cond b (max most (path_loss net d (get_or found i 0))) most)
    (map (path_loss net d) (filter test later)) ≡ worst net d x) [
      | true ↦ λ e. e
      | false ↦ λ e. e
    ] by_test in
    let more : suc i ≡ i + 1 = omega arith in
    subst (λ n. fold max (cond on_side (max most (path_loss net d (get_or found i 0))) most)
    (map (path_loss net d) (filter test (drop n found))) ≡ worst net d x)
    more at_suc

-- a leaf of the side more, or one of the other side
pub greatest-yes : (net : Network) (d : Design) (x : Side) (i : ℕ) (found : List ℕ) (most loss : ℕ) → i < length found
    → IsGreatest net d x i found most → same_side (side net.tree (get_or found i 0)) x ≡ true
    → loss ≡ path_loss net d (get_or found i 0) → loss ≤ MAX_SECTIONS * MAX_LOSS
    → IsGreatest net d x (i + 1) found (max most loss)
greatest-yes net d x i found most loss within greatest is lost few = record {
  rest =
      ap (λ n. fold max (max most n) (map (path_loss net d)
      (filter (λ s. same_side (side net.tree s) x) (drop (i + 1) found)))) lost
      ∙ next-leaf net d x i found most within greatest true (sym is);
  bound = let bounded = greatest.bound in omega arith;
}

pub greatest-no : (net : Network) (d : Design) (x : Side) (i : ℕ) (found : List ℕ) (most : ℕ) → i < length found
    → IsGreatest net d x i found most → same_side (side net.tree (get_or found i 0)) x ≡ false
    → IsGreatest net d x (i + 1) found most
greatest-no net d x i found most within greatest is = record {
  rest = next-leaf net d x i found most within greatest false (sym is);
  bound = greatest.bound;
}

pub greatest-all : (net : Network) (d : Design) (x : Side) (i : ℕ) (found : List ℕ) (most : ℕ) → length found ≤ i
    → IsGreatest net d x i found most → most ≡ worst net d x
greatest-all net d x i found most past greatest =
    ap (λ xs. fold max most (map (path_loss net d) (filter (λ s. same_side (side net.tree s) x) xs)))
    (sym (drop_all i found past)) ∙ greatest.rest
