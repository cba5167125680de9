-- Flows as far as a bound: what is known of them is enough to know which are beyond it.
use Rattle.std.proofs.Common.{get_or-set_other, get_or-set_same, ◌≡◌, ℕ, zero, suc, ◌+◌, ◌<◌, ◌≤◌, List, [], ◌∷◌, ◌++◌, All, None, Some, Option, Result, Ok, Err, map, inl, inr, sum_by, slice_index, get_or, cond, set, length, refl, ap, ◌∙◌, sym, subst, arith}
use Rattle.std.proofs.lemmas.Bool.{le-leb, leb-true, cases_eq}
use Rattle.std.proofs.lemmas.List.{length-set}
use Rattle.std.proofs.lemmas.List.FromFn.{fill_by_all}
use Rattle.std.proofs.lemmas.List.Sums.{sum_by-cons}
use Rattle.std.specs.Prelude.{nat_le, true, false}
use Rattle.std.specs.List.{flat_map, range_with_len}
use Rattle.duct_units.specs.declared.fault.Fault.{Fault}
use Rattle.duct_units.specs.declared.fault.Reason.TheVariants.{FlowTooLarge}
use Rattle.duct_units.specs.declared.side.Side.{Side}
use Rattle.duct_units.specs.declared.side.Side.TheVariants.{Supply, Return}
use Rattle.duct_units.specs.Rules.{first_broken, or_else, section_fault, unless_refused}
use Rattle.duct_units.proofs.RuleLaws.{none_broken, rule_holds, first_broken-append}
use Rattle.duct_definitions.specs.declared.airflow.TheConstants.{MAX_FLOW}
use Rattle.duct_definitions.specs.Tree.{Tree, IsTree, section_count, sections, children, is_leaf, roots}
use Rattle.duct_definitions.specs.Airflow.{Airflows, leaf_flow, leak_at, leaf_rules, bound_rules, flow_rules, with_leak, passing, flow, side_flow, Flows, flows_of}
use Rattle.duct_definitions.proofs.SectionLists.{children_later, chosen_below}
use Rattle.duct_definitions.proofs.FlowLaws.{sum_by-same, children_sections, flow_of_section}
use Rattle.air_tree.specs.CarriedFlows.{known, AreKnown}

-- a section that carries no more than the bound breaks no rule
pub within_bound : (carried : ℕ → ℕ) (s : ℕ) → carried s ≤ MAX_FLOW → first_broken (bound_rules carried s) ≡ None
within_bound carried s within = rw (le-leb (carried s) MAX_FLOW within) refl

-- the known part of a sum is that of the sum of the known parts
pub known-sum : {X : Type 0} (f g : X → ℕ) (xs : List X) → All (λ x. g x ≡ known (f x)) xs → known (sum_by g xs) ≡ known (sum_by f xs)
known-sum f g [] same = refl
known-sum f g (x ∷ xs) same =
    let first = same 0 x (omega arith) in
    let rest = known-sum f g xs (λ k d within. same (suc k) d (omega arith)) in
    let left = sum_by-cons f x xs in
    let right = sum_by-cons g x xs in
    grind arith

-- a section carries no less than what is to pass it
with_leak-least : (leak q : ℕ) → q ≤ with_leak leak q
with_leak-least leak q = grind arith

-- more that is to pass it is no less that it carries
with_leak-le : (leak p q : ℕ) → p ≤ q → with_leak leak p ≤ with_leak leak q
with_leak-le leak p q less = grind arith

-- where two are known alike, so are they with their leak
pub known-with_leak : (leak p q : ℕ) → known p ≡ known q → known (with_leak leak p) ≡ known (with_leak leak q)
known-with_leak leak p q same =
    let a = with_leak-least leak p in
    let b = with_leak-least leak q in
    elim (cases_eq p q) [
      | inl alike ↦ ap (λ n. known (with_leak leak n)) alike
      | inr differ ↦ omega arith
    ]

-- what is to pass a section, as far as it is known from what is known of its children
pub known-passing : (t : Tree) (air : Airflows) (s : ℕ) (numbers : List ℕ) → IsTree t → s < section_count t → AreKnown t air (s + 1) numbers
    → known (passing (slice_index numbers) t air s) ≡ known (passing (flow t air) t air s)
known-passing t air s numbers tree within are =
    let children_known = known-sum (flow t air) (slice_index numbers) (children t s) (λ i d at.
    let later : s < get_or (children t s) i d = children_later t s tree i d at in
    are.each (get_or (children t s) i d) (omega arith) (children_sections t s i d at)) in
    elim (is_leaf t s) as
    (λ b. known (cond b (leaf_flow air s) (sum_by (slice_index numbers) (children t s))) ≡ known (cond b (leaf_flow air s) (sum_by (flow t air) (children t s)))) [
      | true ↦ refl
      | false ↦ children_known
    ]

-- what is known of a section from what is known of its children
pub known-section : (t : Tree) (air : Airflows) (s : ℕ) (numbers : List ℕ) → IsTree t → s < section_count t → AreKnown t air (s + 1) numbers
    → known (with_leak (leak_at air s) (passing (slice_index numbers) t air s)) ≡ known (flow t air s)
known-section t air s numbers tree within are =
    known-with_leak (leak_at air s) (passing (slice_index numbers) t air s) (passing (flow t air) t air s)
    (known-passing t air s numbers tree within are)
    ∙ ap known (sym (flow_of_section t air tree s within))

-- one section more, on the way to the first
pub known-written : (t : Tree) (air : Airflows) (i s : ℕ) (numbers : List ℕ) (number : ℕ) → s < section_count t → i ≡ s + 1
    → AreKnown t air i numbers → number ≡ known (flow t air s) → AreKnown t air s (set numbers s number)
known-written t air i s numbers number within next are is =
    let count = are.count in
    let here : s < length numbers = omega arith in
    record {
      count = length-set numbers s number ∙ are.count;
      each = λ u high inside.
          elim (cases_eq u s) [
            | inl same ↦ subst (λ (j : ℕ). get_or (set numbers s number) j 0 ≡ known (flow t air j)) (sym same) (get_or-set_same numbers s number 0 here ∙ is)
            | inr other ↦ get_or-set_other numbers s u number 0 other ∙ are.each u (omega arith) inside
          ];
    }

-- lists made of numbers that give the same each
flat_map-same : {Y : Type 0} (f g : ℕ → List Y) (a n : ℕ) → ((s : ℕ) → a ≤ s → s < a + n → f s ≡ g s)
    → flat_map f (range_with_len a n) ≡ flat_map g (range_with_len a n)
flat_map-same f g a zero same = refl
flat_map-same f g a (suc n) same =
    ap (λ ys. ys ++ flat_map f (range_with_len (a + 1) n)) (same a (omega arith) (omega arith))
    ∙ ap (λ ys. g a ++ ys) (flat_map-same f g (a + 1) n (λ s low high. same s (omega arith) (omega arith)))

-- the rules of a bound see what is known of a flow
bound-known : (q : ℕ) → nat_le (known q) MAX_FLOW ≡ nat_le q MAX_FLOW
bound-known q = grind arith

-- what is known of all flows breaks the same rules
pub bound_rules-known : (t : Tree) (air : Airflows) (numbers : List ℕ) → AreKnown t air 0 numbers
    → first_broken (flat_map (bound_rules (slice_index numbers)) (range_with_len 0 (length numbers)))
    ≡ first_broken (flat_map (bound_rules (flow t air)) (sections t))
bound_rules-known t air numbers are =
    ap (λ n. first_broken (flat_map (bound_rules (slice_index numbers)) (range_with_len 0 n))) are.count
    ∙ ap first_broken (flat_map-same (bound_rules (slice_index numbers)) (bound_rules (flow t air)) 0 (section_count t) (λ s low high.
    ap (λ b. record { holds = b; fault = section_fault (s + 1) FlowTooLarge } ∷ [])
    (ap (λ n. nat_le n MAX_FLOW) (are.each s low (omega arith)) ∙ bound-known (flow t air s))))

-- within the bound all of a flow is known
pub known-all : (q : ℕ) → nat_le q MAX_FLOW ≡ true → known q ≡ q
known-all q within = let less = leb-true q MAX_FLOW within in omega arith

-- where no rule of the bound is broken, the numbers are the flows
pub flows-known : (t : Tree) (air : Airflows) (numbers : List ℕ) → AreKnown t air 0 numbers
    → first_broken (flat_map (bound_rules (flow t air)) (sections t)) ≡ None
    → (s : ℕ) → s < section_count t → slice_index numbers s ≡ flow t air s
flows-known t air numbers are none s within =
    are.each s (omega arith) within
    ∙ known-all (flow t air s)
    (rule_holds (nat_le (flow t air s) MAX_FLOW) None (section_fault (s + 1) FlowTooLarge)
    (none_broken (bound_rules (flow t air)) 0 (section_count t) s none (omega arith) (omega arith))).0

-- the numbers of all sections, where they are the flows
pub flows-listed : (t : Tree) (air : Airflows) (numbers : List ℕ) → AreKnown t air 0 numbers
    → first_broken (flat_map (bound_rules (flow t air)) (sections t)) ≡ None → numbers ≡ map (flow t air) (sections t)
flows-listed t air numbers are none =
    fill_by_all (flow t air) numbers (section_count t) 0 are.count (flows-known t air numbers are none)

-- the sum at the sections of a side that stand at the fan
pub flows-side : (t : Tree) (air : Airflows) (x : Side) (numbers : List ℕ) → AreKnown t air 0 numbers
    → first_broken (flat_map (bound_rules (flow t air)) (sections t)) ≡ None
    → sum_by (slice_index numbers) (roots t x) ≡ side_flow t air x
flows-side t air x numbers are none =
    sum_by-same (slice_index numbers) (flow t air) (roots t x) (λ i d at.
    flows-known t air numbers are none (get_or (roots t x) i d) (chosen_below _ (section_count t) i d at))

-- the first fault of the leaves is the first of all
pub leaf-refused : (t : Tree) (air : Airflows) (fault : Fault)
    → first_broken (flat_map (leaf_rules t air.at_leaves) (sections t)) ≡ Some fault
    → unless_refused (first_broken (flow_rules t air)) (flows_of t air) ≡ Err fault
leaf-refused t air fault is =
    ap (λ o. unless_refused o (flows_of t air))
    (first_broken-append (flat_map (leaf_rules t air.at_leaves) (sections t)) (flat_map (bound_rules (flow t air)) (sections t))
    ∙ ap (λ o. or_else o (first_broken (flat_map (bound_rules (flow t air)) (sections t)))) is)

-- where the leaves keep their rules, the bound decides
bound-decides : (t : Tree) (air : Airflows) → first_broken (flat_map (leaf_rules t air.at_leaves) (sections t)) ≡ None
    → first_broken (flow_rules t air) ≡ first_broken (flat_map (bound_rules (flow t air)) (sections t))
bound-decides t air none =
    first_broken-append (flat_map (leaf_rules t air.at_leaves) (sections t)) (flat_map (bound_rules (flow t air)) (sections t))
    ∙ ap (λ o. or_else o (first_broken (flat_map (bound_rules (flow t air)) (sections t)))) none

-- the rules of the bound, over what is known of the flows
abbrev pub known_broken : List ℕ → Option Fault
known_broken numbers = first_broken (flat_map (bound_rules (slice_index numbers)) (range_with_len 0 (length numbers)))

pub bound-refused : (t : Tree) (air : Airflows) (numbers : List ℕ) (fault : Fault) → AreKnown t air 0 numbers
    → first_broken (flat_map (leaf_rules t air.at_leaves) (sections t)) ≡ None → known_broken numbers ≡ Some fault
    → unless_refused (first_broken (flow_rules t air)) (flows_of t air) ≡ Err fault
bound-refused t air numbers fault are none is =
    ap (λ o. unless_refused o (flows_of t air)) (bound-decides t air none ∙ sym (bound_rules-known t air numbers are) ∙ is)

-- flows that are accepted
abbrev as_ok : Flows → Result Flows Fault
as_ok flows = Ok flows

pub flows-accepted : (t : Tree) (air : Airflows) (numbers : List ℕ) (supply back : ℕ) → AreKnown t air 0 numbers
    → first_broken (flat_map (leaf_rules t air.at_leaves) (sections t)) ≡ None → known_broken numbers ≡ None
    → supply ≡ sum_by (slice_index numbers) (roots t Supply) → back ≡ sum_by (slice_index numbers) (roots t Return)
    → unless_refused (first_broken (flow_rules t air)) (flows_of t air) ≡ Ok (record { sections = numbers; supply = supply; back = back })
flows-accepted t air numbers supply back are none is on_supply on_return =
    let kept : first_broken (flat_map (bound_rules (flow t air)) (sections t)) ≡ None = sym (bound_rules-known t air numbers are) ∙ is in
    let all : first_broken (flow_rules t air) ≡ None = bound-decides t air none ∙ kept in
    ap (λ o. unless_refused o (flows_of t air)) all
    ∙ ap (λ (xs : List ℕ). as_ok (record { sections = xs; supply = side_flow t air Supply; back = side_flow t air Return })) (sym (flows-listed t air numbers are kept))
    ∙ ap (λ (q : ℕ). as_ok (record { sections = numbers; supply = q; back = side_flow t air Return })) (sym (on_supply ∙ flows-side t air Supply numbers are kept))
    ∙ ap (λ (q : ℕ). as_ok (record { sections = numbers; supply = supply; back = q })) (sym (on_return ∙ flows-side t air Return numbers are kept))
