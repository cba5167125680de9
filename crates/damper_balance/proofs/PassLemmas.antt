-- What each walk writes at a section: the sum along its way, its slack, and what its slack is above its neighbour's.
use Rattle.std.proofs.Common.{◌≡◌, ℕ, ◌+◌, ◌-◌, ◌<◌, ◌≤◌, inl, List, [], ◌∷◌, length, map, true, Option, Some, None, refl, ap, ◌∙◌, sym, subst, get_or, set, arith}
use Rattle.std.proofs.lemmas.Bool.{and_from, lt-ltb}
use Rattle.std.proofs.lemmas.List.Sums.{sum_by-cons}
use Rattle.std.specs.Prelude.{◌&&◌, ◌==◌, nat_lt, slice_index, sum_by}
use Rattle.duct_units.specs.declared.side.Side.{Side}
use Rattle.duct_definitions.specs.Tree.{Tree, IsTree, section_count, neighbour, at_neighbour, side, children, is_leaf, from_neighbour, way}
use Rattle.duct_definitions.specs.Dampers.{least_of}
use Rattle.duct_definitions.proofs.TreeLaws.{earlier}
use Rattle.duct_definitions.proofs.WayLaws.{way-first}
use Rattle.design_laws.proofs.Among.{Among}
use Rattle.damper_balance.specs.declared.passes.Heads.{Heads}
use Rattle.damper_balance.specs.SectionNumbers.{sum_on_way, least_at, head_on, slack_by}
use Rattle.damper_balance.proofs.LeafBeyond.{child_is}
use Rattle.damper_balance.proofs.Slacks.{least_left-leaf, least_left-inner}
use Rattle.damper_balance.proofs.NumberLists.{same_beside, IsWrittenTo, written-down, least_at-each}

-- a neighbour stands earlier, so a walk that has come to its section has its first number
pub number_beside : (t : Tree) (before after : ℕ → ℕ) (j s : ℕ) (numbers : List ℕ) → IsTree t → s < section_count t
    → s ≤ j
    → IsWrittenTo t before after j numbers
    → at_neighbour (slice_index numbers) (neighbour t s) ≡ at_neighbour before (neighbour t s)
number_beside t before after j s numbers tree within first to =
    same_beside (slice_index numbers) before (neighbour t s)
    (λ n next. let low = earlier t s n tree within next in to.first n (omega arith) (omega arith))

-- the number of the section, and those of the sections from its neighbour to the fan
pub sum_on_way-first : (t : Tree) (numbers : List ℕ) (s : ℕ) → IsTree t → s < section_count t
    → sum_on_way t numbers s ≡ slice_index numbers s + at_neighbour (sum_on_way t numbers) (neighbour t s)
sum_on_way-first t numbers s tree within =
    let number : ℕ → ℕ = λ x. slice_index numbers x in
    let rest : sum_by number (from_neighbour (way t) (neighbour t s)) ≡ at_neighbour (sum_on_way t numbers)
    (neighbour t s) =
    elim (neighbour t s) as (λ (o : Option ℕ). sum_by number (from_neighbour (way t) o) ≡ at_neighbour
    (sum_on_way t numbers) o) [
      | None ↦ refl
      | Some n ↦ refl
    ] in
    ap (sum_by number) (way-first t s tree within)
    ∙ sum_by-cons number s (from_neighbour (way t) (neighbour t s))
    ∙ ap (λ (n : ℕ). number s + n) rest

pub next_sum : (t : Tree) (old numbers : List ℕ) (s beside : ℕ) → IsTree t → s < section_count t
    → IsWrittenTo t (sum_on_way t old) (λ x. slice_index old x) s numbers
    → beside ≡ at_neighbour (slice_index numbers) (neighbour t s) → get_or numbers s 0 + beside ≡ sum_on_way t old s
next_sum t old numbers s beside tree within to is =
    let own : get_or numbers s 0 ≡ slice_index old s = to.rest s (omega arith) within in
    let next = is ∙ number_beside t (sum_on_way t old) (λ x. slice_index old x) s s numbers tree within (omega arith)
    to in
    ap (λ (n : ℕ). n + beside) own ∙ ap (λ (n : ℕ). slice_index old s + n) next
    ∙ sym (sum_on_way-first t old s tree within)

-- where a section has no least child it is a leaf
pub least_none : (t : Tree) (s : ℕ) (numbers : List ℕ) → s < section_count t
    → None ≡ least_at numbers (children t s) → is_leaf t s ≡ true
least_none t s numbers within none =
    elim (children t s) as
    (λ (cs : List ℕ). None ≡ least_at numbers cs → (nat_lt s (section_count t) && length cs == 0) ≡ true) [
      | [] ↦ λ _. and_from _ _ (lt-ltb s (section_count t) within) refl
      | c ∷ cs ↦ λ least.
          let some : None ≡ Some (least_of (map (λ x. slice_index numbers x) (c ∷ cs))) =
          least ∙ least_at-each numbers (λ x. slice_index numbers x) c cs (λ x _. refl) in
          cc
    ] none

-- what a path leaves of the side's head
abbrev pub left_in : Heads → List ℕ → Side → ℕ → ℕ
left_in heads losses x leaf = head_on heads x - slice_index losses leaf

-- the walk of the slacks has come to section s: those from s on have their slacks
abbrev pub AreSlacksFrom : Tree → Heads → List ℕ → ℕ → List ℕ → Type 0
AreSlacksFrom t heads losses s numbers = IsWrittenTo t (λ x. slice_index losses x) (slack_by t heads losses) s numbers

-- the least of the children's slacks is the section's
pub least_some : (t : Tree) (heads : Heads) (losses : List ℕ) (j s : ℕ) (numbers : List ℕ) (least : ℕ) → IsTree t
    → j ≡ s + 1 → AreSlacksFrom t heads losses j numbers → Some least ≡ least_at numbers (children t s)
    → least ≡ slack_by t heads losses s
least_some t heads losses j s numbers least tree next to some =
    let slack : ℕ → ℕ = slack_by t heads losses in
    let each : (c : ℕ) → Among c (children t s) → slice_index numbers c ≡ slack c =
    λ (c : ℕ) (among : Among c (children t s)).
    let (inside, beside) = child_is t s c among in
    let later = earlier t c s tree inside beside in
    to.rest c (omega arith) inside in
    elim (children t s) as
    (λ (cs : List ℕ). children t s ≡ cs → Some least ≡ least_at numbers cs → least ≡ slack s) [
      | [] ↦ λ _ found. let none : Some least ≡ None = found in cc
      | c ∷ cs ↦ λ are found.
          let same : Some least ≡ Some (least_of (map slack (c ∷ cs))) =
          found ∙ least_at-each numbers slack c cs (λ x among. each x (subst (Among x) (sym are) among)) in
          let is : least ≡ least_of (map slack (c ∷ cs)) = cc in
          is ∙ ap (λ xs. least_of (map slack xs)) (sym are)
          ∙ sym (least_left-inner t (left_in heads losses) s c tree (subst (Among c) (sym are) (inl refl)))
    ] refl some

-- a leaf still has its path loss
leaf_loss : (t : Tree) (heads : Heads) (losses : List ℕ) (j s : ℕ) (numbers : List ℕ) → s < section_count t
    → j ≡ s + 1 → AreSlacksFrom t heads losses j numbers → get_or numbers s 0 ≡ slice_index losses s
leaf_loss t heads losses j s numbers within next to = to.first s (omega arith) within

pub leaf_fits : (t : Tree) (heads : Heads) (losses : List ℕ) (j s : ℕ) (numbers : List ℕ) (most : ℕ)
    → s < section_count t → j ≡ s + 1 → AreSlacksFrom t heads losses j numbers
    → slice_index losses s ≤ head_on heads (side t s) → most ≡ head_on heads (side t s) → get_or numbers s 0 ≤ most
leaf_fits t heads losses j s numbers most within next to fits whole =
    let loss = leaf_loss t heads losses j s numbers within next to in
    omega arith

pub slack_of_leaf : (t : Tree) (heads : Heads) (losses : List ℕ) (j s : ℕ) (numbers : List ℕ) (most : ℕ) → IsTree t
    → s < section_count t → j ≡ s + 1 → AreSlacksFrom t heads losses j numbers → is_leaf t s ≡ true
    → most ≡ head_on heads (side t s) → most - get_or numbers s 0 ≡ slack_by t heads losses s
slack_of_leaf t heads losses j s numbers most tree within next to is whole =
    ap (λ (n : ℕ). n - get_or numbers s 0) whole
    ∙ ap (λ (n : ℕ). head_on heads (side t s) - n) (leaf_loss t heads losses j s numbers within next to)
    ∙ sym (least_left-leaf t (left_in heads losses) s tree is)

-- the number of a section less its neighbour's
abbrev pub less_beside : Tree → List ℕ → ℕ → ℕ
less_beside t numbers s = slice_index numbers s - at_neighbour (slice_index numbers) (neighbour t s)

pub next_less : (t : Tree) (old numbers : List ℕ) (j s beside : ℕ) → IsTree t → s < section_count t → j ≡ s + 1
    → IsWrittenTo t (λ x. slice_index old x) (less_beside t old) j numbers
    → beside ≡ at_neighbour (slice_index numbers) (neighbour t s)
    → IsWrittenTo t (λ x. slice_index old x) (less_beside t old) s (set numbers s (get_or numbers s 0 - beside))
next_less t old numbers j s beside tree within next to is =
    let first : ℕ → ℕ = λ x. slice_index old x in
    let same = same_beside (slice_index old) first (neighbour t s) (λ n _. refl) in
    let taken : beside ≡ at_neighbour (slice_index old) (neighbour t s) =
    is ∙ number_beside t first (less_beside t old) j s numbers tree within (omega arith) to ∙ sym same in
    let own : get_or numbers s 0 ≡ slice_index old s = to.first s (omega arith) within in
    let number : get_or numbers s 0 - beside ≡ less_beside t old s =
    ap (λ (n : ℕ). n - beside) own ∙ ap (λ (n : ℕ). slice_index old s - n) taken in
    written-down t first (less_beside t old) j s numbers (get_or numbers s 0 - beside) within next to number
