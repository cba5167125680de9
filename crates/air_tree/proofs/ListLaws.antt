-- What the lists of a tree hold.
use Rattle.std.proofs.Common.{◌≡◌, ℕ, ◌<◌, ◌≤◌, List, length, map, get_or, Bool, true, false, cond, ap, ◌∙◌, sym, subst, arith}
use Rattle.std.proofs.lemmas.List.Sums.{length-filter, sum_by-le}
use Rattle.std.proofs.lemmas.List.FromFn.{length-range_with_len, length-map-range_with_len, get_or-map-range_with_len}
use Rattle.std.specs.Prelude.{◌==◌, All, IsTrue, filter, count_by}
use Rattle.std.specs.List.Sorted.{IsStrictlyIncreasing}
use Rattle.duct_units.specs.declared.side.Side.{Side}
use Rattle.duct_definitions.specs.Tree.{Tree, IsTree, section_count, sections, neighbour, side, is_number, children, is_leaf, leaves, all_leaves, roots}
use Rattle.duct_units.specs.Side.{same_side}
use Rattle.duct_definitions.specs.declared.limits.TheConstants.{MAX_SECTIONS}
use Rattle.duct_definitions.proofs.TreeLaws.{few_sections}
use Rattle.duct_definitions.proofs.SectionLists.{chosen_rising, chosen_below, chosen_pass, children_later, child_once, leaves_of_side}

-- the list that stands at s among the lists of all sections
pub child_list_at : (t : Tree) (lists : List (List ℕ)) (s : ℕ) (d : List ℕ)
    → lists ≡ map (children t) (sections t) → s < section_count t → get_or lists s d ≡ children t s
child_list_at t lists s d are within =
    ap (λ all. get_or all s d) are ∙ get_or-map-range_with_len (children t) 0 (section_count t) s s d within
    (omega arith)

pub child_list : (t : Tree) (lists : List (List ℕ)) (s : ℕ) (found : List ℕ)
    → lists ≡ map (children t) (sections t) → s < section_count t → found ≡ get_or lists s found
    → found ≡ children t s
child_list t lists s found are within at = at ∙ child_list_at t lists s found are within

pub child_list_within : (t : Tree) (lists : List (List ℕ)) (s : ℕ)
    → lists ≡ map (children t) (sections t) → s < section_count t → s < length lists
child_list_within t lists s are within =
    let count : length lists ≡ section_count t =
    ap (λ all. length all) are ∙ length-map-range_with_len (children t) 0 (section_count t) in
    omega arith

-- no list of sections is longer than the tree has sections
chosen_few : (t : Tree) (test : ℕ → Bool) → IsTree t → length (filter test (sections t)) ≤ MAX_SECTIONS
chosen_few t test tree =
    let less = sum_by-le (λ s. cond (test s) 1 0) 1 (sections t) (λ k d within. elim (test (get_or (sections t) k d)) as (λ b. cond b 1 0 ≤ 1) [ true ↦ omega arith | false ↦ omega arith ]) in
    let count = length-range_with_len 0 (section_count t) in
    let is = length-filter test (sections t) in
    let few = few_sections t tree in
    omega arith

-- a list of children is in rising number, beyond its section, and of sections
pub record AreChildren (t : Tree) (s : ℕ) (xs : List ℕ) : Type 0 where
  pub value : xs ≡ children t s
  pub rising : IsStrictlyIncreasing xs
  pub later : All (λ c. s < c) xs
  pub sections : All (λ c. c < section_count t) xs
  pub few : length xs ≤ MAX_SECTIONS

pub are_children : (t : Tree) (s : ℕ) (xs : List ℕ) → IsTree t → xs ≡ children t s → AreChildren t s xs
are_children t s xs tree is = record {
  value = is;
  rising = subst (λ (ys : List ℕ). IsStrictlyIncreasing ys) (sym is) (chosen_rising _ (section_count t));
  later = subst (λ (ys : List ℕ). All (λ c. s < c) ys) (sym is) (children_later t s tree);
  sections = subst (λ (ys : List ℕ). All (λ c. c < section_count t) ys) (sym is) (chosen_below _ (section_count t));
  few = subst (λ (ys : List ℕ). length ys ≤ MAX_SECTIONS) (sym is) (chosen_few t _ tree);
}

pub record AreLeaves (t : Tree) (xs : List ℕ) : Type 0 where
  pub value : xs ≡ all_leaves t
  pub rising : IsStrictlyIncreasing xs
  pub leaves : All (λ s. IsTrue (is_leaf t s)) xs
  pub sections : All (λ s. s < section_count t) xs

pub are_leaves : (t : Tree) (xs : List ℕ) → xs ≡ all_leaves t → AreLeaves t xs
are_leaves t xs is = record {
  value = is;
  rising = subst (λ (ys : List ℕ). IsStrictlyIncreasing ys) (sym is) (chosen_rising _ (section_count t));
  leaves = subst (λ (ys : List ℕ). All (λ s. IsTrue (is_leaf t s)) ys) (sym is)
      (chosen_pass (is_leaf t) (section_count t));
  sections = subst (λ (ys : List ℕ). All (λ s. s < section_count t) ys) (sym is) (chosen_below _ (section_count t));
}

pub record AreRoots (t : Tree) (x : Side) (xs : List ℕ) : Type 0 where
  pub value : xs ≡ roots t x
  pub rising : IsStrictlyIncreasing xs
  pub sections : All (λ s. s < section_count t) xs
  pub few : length xs ≤ MAX_SECTIONS

pub are_roots : (t : Tree) (x : Side) (xs : List ℕ) → IsTree t → xs ≡ roots t x → AreRoots t x xs
are_roots t x xs tree is = record {
  value = is;
  rising = subst (λ (ys : List ℕ). IsStrictlyIncreasing ys) (sym is) (chosen_rising _ (section_count t));
  sections = subst (λ (ys : List ℕ). All (λ s. s < section_count t) ys) (sym is) (chosen_below _ (section_count t));
  few = subst (λ (ys : List ℕ). length ys ≤ MAX_SECTIONS) (sym is) (chosen_few t _ tree);
}

-- the names under which an attribute can list them
pub of_children : (t : Tree) (s c : ℕ) → c < section_count t
    → count_by (λ x. x == c) (children t s) ≡ cond (is_number s (neighbour t c)) 1 0
of_children = child_once

pub of_leaves : (t : Tree) (x : Side) → leaves t x ≡ filter (λ s. same_side (side t s) x) (all_leaves t)
of_leaves t x = sym (leaves_of_side t x)
