-- The made neighbours and sides are a tree.
use Rattle.std.proofs.Common.{◌≡◌, ℕ, zero, suc, ◌+◌, ◌-◌, ◌/◌, ◌<◌, ◌≤◌, List, [], ◌∷◌, ◌++◌, map, Bool, true, false, Option, Some, None, Result, Ok, Err, inl, inr, refl, ap, sym, ◌∙◌, subst, arith}
use Rattle.std.specs.Prelude.{slice_get, unwrap_or, nat_eq, nat_le, if◌then◌else◌}
use Rattle.std.specs.List.{range_with_len, flat_map, list_any}
use Rattle.std.proofs.lemmas.Bool.{cases_Bool}
use Rattle.std.proofs.lemmas.Bool.Decides.{nat_tests}
use Rattle.std.proofs.lemmas.List.FromFn.{length-map-range_with_len, get_or-map-range_with_len}
use Rattle.std.proofs.lemmas.Option.{slice_get_read}
use Rattle.duct_units.specs.declared.fault.Fault.{Fault}
use Rattle.duct_units.specs.declared.fault.ReadError.{ReadError}
use Rattle.duct_units.specs.declared.fault.ReadError.TheVariants.{Refused}
use Rattle.duct_units.specs.declared.side.Side.{Side}
use Rattle.duct_units.specs.declared.side.Side.TheVariants.{Supply, Return}
use Rattle.duct_units.specs.declared.fault.Reason.TheVariants.{Empty, TooMany, NotBefore, OtherSide, NoSupply}
use Rattle.duct_units.specs.Side.{same_side}
use Rattle.duct_units.specs.Rules.{Rule, first_broken, or_else, at_file, at_section, unless_refused, Gives}
use Rattle.duct_units.proofs.RuleLaws.{first_broken-append}
use Rattle.duct_definitions.specs.declared.limits.TheConstants.{MAX_SECTIONS}
use Rattle.duct_definitions.specs.Tree.{Tree, section_count, sections, neighbour, side, is_before, is_on_side, section_rules, tree_rules, IsTree}
use Rattle.duct_load.specs.Made.{side_of, place_of, section_at, neighbour_of, tree_of}

-- ---- places

-- a section in a place is of its side
pub side_of-section_at : (x : Side) (p : ℕ) → side_of (section_at x p) ≡ x
side_of-section_at Supply p = grind (arith, nat_tests)
side_of-section_at Return p = grind (arith, nat_tests)

-- a place before its own is that of an earlier section
pub before : (i p : ℕ) → p < place_of i → section_at (side_of i) p < i
before i p less = grind (arith, nat_tests)

-- ---- the lists by their places

-- what a list made by number has at a number below its length
pub at : {X : Type 0} (f : ℕ → X) (n i : ℕ) (d : X) → i < n → unwrap_or (slice_get (map f (range_with_len 0 n)) i) d ≡ f i
at f n i d within =
    ap (λ o. unwrap_or o d)
    (slice_get_read (map f (range_with_len 0 n)) n i (f i) (sym (length-map-range_with_len f 0 n)) within
    (sym (get_or-map-range_with_len f 0 n i i (f i) within (omega arith))))

pub neighbour-tree_of : (n i : ℕ) → i < n → neighbour (tree_of n) i ≡ neighbour_of i
neighbour-tree_of n i within = at neighbour_of n i None within

pub side-tree_of : (n i : ℕ) → i < n → side (tree_of n) i ≡ side_of i
side-tree_of n i within = at side_of n i Supply within

pub section_count-tree_of : (n : ℕ) → section_count (tree_of n) ≡ n
section_count-tree_of n = length-map-range_with_len neighbour_of 0 n

-- ---- the rules

-- no rule of any number is broken
each_holds : (f : ℕ → List Rule) (a n : ℕ) → ((i : ℕ) → a ≤ i → i < a + n → first_broken (f i) ≡ None) → first_broken (flat_map f (range_with_len a n)) ≡ None
each_holds f a zero holds = refl
each_holds f a (suc n) holds =
    first_broken-append (f a) (flat_map f (range_with_len (a + 1) n))
    ∙ ap (λ o. or_else o (first_broken (flat_map f (range_with_len (a + 1) n)))) (holds a (omega arith) (omega arith))
    ∙ each_holds f (a + 1) n (λ i low high. holds i (omega arith) (omega arith))

both_hold : (a b : Bool) (s : ℕ) → a ≡ true → b ≡ true → first_broken (at_section s a NotBefore ∷ at_section s b OtherSide ∷ []) ≡ None
both_hold true true s before_it same = refl
both_hold true false s before_it same = absurd (cc same)
both_hold false b s before_it same = absurd (cc before_it)

same_side-refl : (x : Side) → same_side x x ≡ true
same_side-refl Supply = refl
same_side-refl Return = refl

-- the neighbour of a section stands before it, on its side
pub stands_before : (i : ℕ) → is_before i (neighbour_of i) ≡ true
stands_before i = grind (arith, nat_tests)

stands_on_side : (n i : ℕ) → i < n → is_on_side (tree_of n) (side_of i) (neighbour_of i) ≡ true
stands_on_side n i within =
    elim (cases_Bool (nat_eq (place_of i) 0)) [
      | inl first ↦ ap (λ b. is_on_side (tree_of n) (side_of i) (if b then None else Some (section_at (side_of i) ((place_of i - 1) / 2)))) first
      | inr later ↦
          (let earlier : section_at (side_of i) ((place_of i - 1) / 2) < i = before i ((place_of i - 1) / 2) (grind (arith, nat_tests)) in
          let stands : side (tree_of n) (section_at (side_of i) ((place_of i - 1) / 2)) ≡ side_of i =
          side-tree_of n (section_at (side_of i) ((place_of i - 1) / 2)) (omega arith) ∙ side_of-section_at (side_of i) ((place_of i - 1) / 2) in
          ap (λ b. is_on_side (tree_of n) (side_of i) (if b then None else Some (section_at (side_of i) ((place_of i - 1) / 2)))) later
          ∙ ap (λ x. same_side x (side_of i)) stands ∙ same_side-refl (side_of i))
    ]

section_holds : (n i : ℕ) → i < n → first_broken (section_rules (tree_of n) i) ≡ None
section_holds n i within =
    both_hold (is_before i (neighbour (tree_of n) i)) (is_on_side (tree_of n) (side (tree_of n) i) (neighbour (tree_of n) i)) (i + 1)
    (ap (is_before i) (neighbour-tree_of n i within) ∙ stands_before i)
    (ap (is_on_side (tree_of n) (side (tree_of n) i)) (neighbour-tree_of n i within)
    ∙ ap (λ x. is_on_side (tree_of n) x (neighbour_of i)) (side-tree_of n i within) ∙ stands_on_side n i within)

-- the first section is of the supply side
begins_with_supply : (n : ℕ) → 1 ≤ n → list_any (λ x. same_side x Supply) (tree_of n).sides ≡ true
begins_with_supply zero some = absurd (omega arith)
begins_with_supply (suc n) some = refl

all_hold : (some few supply : Bool) (rules : List Rule) → some ≡ true → few ≡ true → supply ≡ true → first_broken rules ≡ None
    → first_broken (at_file some Empty ∷ at_file few TooMany ∷ (rules ++ (at_file supply NoSupply ∷ []))) ≡ None
all_hold true true true rules a b c holds = first_broken-append rules (at_file true NoSupply ∷ []) ∙ ap (λ o. or_else o None) holds
all_hold true true false rules a b c holds = absurd (cc c)
all_hold true false supply rules a b c holds = absurd (cc b)
all_hold false few supply rules a b c holds = absurd (cc a)

-- no rule of a tree is broken
pub rules_hold : (n : ℕ) → 1 ≤ n → n ≤ 500 → first_broken (tree_rules (tree_of n)) ≡ None
rules_hold n some few =
    let count = section_count-tree_of n in
    all_hold (nat_le 1 (section_count (tree_of n))) (nat_le (section_count (tree_of n)) MAX_SECTIONS) (list_any (λ x. same_side x Supply) (tree_of n).sides)
    (flat_map (section_rules (tree_of n)) (sections (tree_of n)))
    (grind (arith, nat_tests)) (grind (arith, nat_tests)) (begins_with_supply n some)
    (each_holds (section_rules (tree_of n)) 0 (section_count (tree_of n)) (λ i low high. section_holds n i (omega arith)))

pub tree_of-IsTree : (n : ℕ) → 1 ≤ n → n ≤ 500 → IsTree (tree_of n)
tree_of-IsTree n some few = record {
  sides = length-map-range_with_len side_of 0 n ∙ sym (section_count-tree_of n);
  rules = rules_hold n some few;
}

-- such a tree is never refused
pub never_refused : (n : ℕ) (neighbours : List (Option ℕ)) (sides : List Side) (result : Result Tree ReadError) (error : ReadError) (fault : Fault)
    → 1 ≤ n → n ≤ 500 → neighbours ≡ map neighbour_of (range_with_len 0 n) → sides ≡ map side_of (range_with_len 0 n) → result ≡ Err error → error ≡ Refused fault
    → (let tree : Tree = record { neighbours = neighbours; sides = sides } in Gives result (unless_refused (first_broken (tree_rules tree)) tree)) → ⊥
never_refused n neighbours sides result error fault some few same_neighbours same_sides is refused gives =
    let reading : Tree → Result Tree Fault = λ tree. unless_refused (first_broken (tree_rules tree)) tree in
    let same : ◌≡◌ {A = Tree} (record { neighbours = neighbours; sides = sides }) (tree_of n) =
    ap (λ (ns : List (Option ℕ)). record { neighbours = ns; sides = sides }) same_neighbours
    ∙ ap (λ (xs : List Side). record { neighbours = map neighbour_of (range_with_len 0 n); sides = xs }) same_sides in
    let here : Gives (Err (Refused fault)) (reading (record { neighbours = neighbours; sides = sides })) =
    subst (λ r. Gives r (reading (record { neighbours = neighbours; sides = sides }))) (is ∙ ap (λ e. Err e) refused) gives in
    let accepted : ◌≡◌ {A = Result Tree Fault} (Ok (tree_of n)) (Err fault) =
    sym (ap (λ o. unless_refused o (tree_of n)) (rules_hold n some few)) ∙ sym (ap reading same) ∙ here in
    cc
