-- The way of a section to the fan: it goes on by the neighbour, stays on one side, and a leaf is only at its start.
use Rattle.std.proofs.Common.{◌≡◌, ℕ, zero, suc, ◌+◌, ◌<◌, inl, inr, List, [], ◌∷◌, Some, None, refl, sym, subst, arith}
use Rattle.duct_units.specs.declared.fault.Reason.TheVariants.{NotBefore, OtherSide}
use Rattle.duct_units.specs.Rules.{Rule, first_broken, at_section}
use Rattle.duct_units.proofs.RuleLaws.{rule_holds}
use Rattle.duct_definitions.specs.Tree.{Tree, IsTree, section_count, neighbour, side, way, is_before, is_on_side}
use Rattle.duct_units.proofs.SideLaws.{same_side-true}
use Rattle.duct_definitions.proofs.TreeLaws.{rules_hold, earlier}
use Rattle.duct_definitions.proofs.WayLaws.{way-at_fan, way-beside}
use Rattle.design_laws.proofs.Among.{Among}

pub neighbour_side : (t : Tree) (s n : ℕ) → IsTree t → s < section_count t → neighbour t s ≡ Some n
    → side t n ≡ side t s
neighbour_side t s n tree within is =
    let same : List Rule = at_section (s + 1) (is_on_side t (side t s) (neighbour t s)) OtherSide ∷ [] in
    let rest = (rule_holds (is_before s (neighbour t s)) (first_broken same)
    (at_section (s + 1) (is_before s (neighbour t s)) NotBefore).fault (rules_hold t s tree within)).1 in
    let on_side = (rule_holds (is_on_side t (side t s) (neighbour t s)) None
    (at_section (s + 1) (is_on_side t (side t s) (neighbour t s)) OtherSide).fault rest).0 in
    same_side-true (side t n) (side t s) (rw is at on_side)

-- what holds of a section, and goes over to its neighbour, holds along the way
pub along_way : (t : Tree) → IsTree t → (P : ℕ → Type 0)
    → ((s n : ℕ) → s < section_count t → neighbour t s ≡ Some n → P s → P n)
    → (k x : ℕ) → x < k → x < section_count t → P x → (s : ℕ) → Among s (way t x) → P s
along_way t tree P step zero x small within start s among = absurd (omega arith)
along_way t tree P step (suc k) x small within start s among =
    elim (neighbour t x) as (λ o. neighbour t x ≡ o → P s) [
      | None ↦ λ is. elim (subst (Among s) (way-at_fan t x is) among) [
        | inl same ↦ subst P (sym same) start
        | inr none ↦ absurd none
      ]
      | Some n ↦ λ is. elim (subst (Among s) (way-beside t x n tree within is) among) [
        | inl same ↦ subst P (sym same) start
        | inr later ↦
            let before = earlier t x n tree within is in
            along_way t tree P step k n (omega arith) (omega arith) (step x n within is start) s later
      ]
    ] refl
