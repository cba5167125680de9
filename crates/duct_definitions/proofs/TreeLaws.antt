-- What the rules of a tree say.
use Rattle.std.proofs.Common.{◌≡◌, ℕ, ◌<◌, ◌≤◌, ◌+◌, List, [], ◌∷◌, ◌++◌, Some, None, IfSome, true, refl, ◌∙◌, sym, arith}
use Rattle.std.proofs.lemmas.Bool.{ltb-true, leb-true}
use Rattle.std.specs.Prelude.{nat_le}
use Rattle.std.specs.List.{flat_map, list_any}
use Rattle.duct_units.specs.declared.side.Side.TheVariants.{Supply}
use Rattle.duct_units.specs.declared.fault.Reason.TheVariants.{Empty, TooMany, NotBefore, OtherSide, NoSupply}
use Rattle.duct_units.specs.Rules.{Rule, first_broken, at_file, at_section}
use Rattle.duct_definitions.specs.declared.limits.TheConstants.{MAX_SECTIONS}
use Rattle.duct_definitions.specs.Tree.{Tree, IsTree, section_count, sections, neighbour, side, is_before, is_on_side, section_rules}
use Rattle.duct_units.specs.Side.{same_side}
use Rattle.duct_units.proofs.RuleLaws.{rule_holds, first_broken-append, both_none, none_broken}

first_holds : (rule : Rule) (rules : List Rule) → first_broken (rule ∷ rules) ≡ None
    → (rule.holds ≡ true) × (first_broken rules ≡ None)
first_holds rule rules e = rule_holds rule.holds (first_broken rules) rule.fault e

-- the sections are not too many, and the rules of each section hold
rules_parts : (t : Tree) → IsTree t
    → (nat_le (section_count t) MAX_SECTIONS ≡ true) × (first_broken (flat_map (section_rules t) (sections t)) ≡ None)
rules_parts t tree =
    let each : List Rule = flat_map (section_rules t) (sections t) in
    let supply : List Rule = at_file (list_any (λ x. same_side x Supply) t.sides) NoSupply ∷ [] in
    let few : Rule = at_file (nat_le (section_count t) MAX_SECTIONS) TooMany in
    let (some, rest) = first_holds (at_file (nat_le 1 (section_count t)) Empty) (few ∷ (each ++ supply)) tree.rules in
    let (enough, later) = first_holds few (each ++ supply) rest in
    (enough, (both_none (first_broken each) (first_broken supply) (sym (first_broken-append each supply) ∙ later)).0)

pub rules_hold : (t : Tree) (s : ℕ) → IsTree t → s < section_count t → first_broken (section_rules t s) ≡ None
rules_hold t s tree within =
    none_broken (section_rules t) 0 (section_count t) s (rules_parts t tree).1 (omega arith) (omega arith)

pub earlier : (t : Tree) (s n : ℕ) → IsTree t → s < section_count t → neighbour t s ≡ Some n → n < s
earlier t s n tree within is =
    let same : List Rule = at_section (s + 1) (is_on_side t (side t s) (neighbour t s)) OtherSide ∷ [] in
    let before : Rule = at_section (s + 1) (is_before s (neighbour t s)) NotBefore in
    let holds = (first_holds before same (rules_hold t s tree within)).0 in
    ltb-true n s (rw is at holds)

-- a neighbour has a smaller number
pub neighbour_earlier : (t : Tree) (s : ℕ) → IsTree t → s < section_count t → IfSome (neighbour t s) (λ n. n < s)
neighbour_earlier t s tree within =
    elim (neighbour t s) as (λ o. neighbour t s ≡ o → IfSome o (λ n. n < s)) [
      | None ↦ λ e. tt
      | Some n ↦ λ e. earlier t s n tree within e
    ] refl

-- a tree has at most 500 sections
pub few_sections : (t : Tree) → IsTree t → section_count t ≤ MAX_SECTIONS
few_sections t tree = leb-true (section_count t) MAX_SECTIONS (rules_parts t tree).0
