-- The way of a section to the fan goes on by the neighbour, and is no longer than the tree has sections.
use Rattle.std.proofs.Common.{◌≡◌, ℕ, zero, suc, ◌<◌, ◌≤◌, [], ◌∷◌, length, Some, None, refl, ap, ◌∙◌, arith}
use Rattle.duct_definitions.specs.Tree.{Tree, IsTree, section_count, neighbour, from_neighbour, way_within, way}
use Rattle.duct_definitions.proofs.TreeLaws.{earlier}

-- a bound greater than a way needs does not change it
way_within-same : (t : Tree) → IsTree t → (j k s : ℕ) → s < j → s < k → s < section_count t
    → way_within j t s ≡ way_within k t s
way_within-same t tree zero k s small less within = absurd (omega arith)
way_within-same t tree (suc j) zero s small less within = absurd (omega arith)
way_within-same t tree (suc j) (suc k) s small less within =
    elim (neighbour t s) as
    (λ o. neighbour t s ≡ o → s ∷ from_neighbour (way_within j t) o ≡ s ∷ from_neighbour (way_within k t) o) [
      | None ↦ λ is. refl
      | Some n ↦ λ is.
          let before = earlier t s n tree within is in
          ap (λ rest. s ∷ rest) (way_within-same t tree j k n (omega arith) (omega arith) (omega arith))
    ] refl

pub way-at_fan : (t : Tree) (s : ℕ) → neighbour t s ≡ None → way t s ≡ s ∷ []
way-at_fan t s is = ap (λ o. s ∷ from_neighbour (way_within s t) o) is

pub way-beside : (t : Tree) (s n : ℕ) → IsTree t → s < section_count t → neighbour t s ≡ Some n → way t s ≡ s ∷ way t n
way-beside t s n tree within is =
    let before = earlier t s n tree within is in
    ap (λ o. s ∷ from_neighbour (way_within s t) o) is
    ∙ ap (λ rest. s ∷ rest) (way_within-same t tree s (suc n) n before (omega arith) (omega arith))

-- the first section, and the way from its neighbour on
pub way-first : (t : Tree) (s : ℕ) → IsTree t → s < section_count t
    → way t s ≡ s ∷ from_neighbour (way t) (neighbour t s)
way-first t s tree within =
    elim (neighbour t s) as (λ o. neighbour t s ≡ o → way t s ≡ s ∷ from_neighbour (way t) o) [
      | None ↦ λ is. way-at_fan t s is
      | Some n ↦ λ is. way-beside t s n tree within is
    ] refl

way_within-short : (t : Tree) (n s : ℕ) → length (way_within n t s) ≤ n
way_within-short t zero s = omega arith
way_within-short t (suc n) s =
    elim (neighbour t s) as (λ o. length (s ∷ from_neighbour (way_within n t) o) ≤ suc n) [
      | None ↦ omega arith
      | Some m ↦ let rest = way_within-short t n m in omega arith
    ]

-- a way has at most as many sections as the tree
pub way-short : (t : Tree) (s : ℕ) → s < section_count t → length (way t s) ≤ section_count t
way-short t s within = let most = way_within-short t (suc s) s in omega arith
