-- What a step leaves in a core.
use Rattle.std.proofs.Common.{◌≡◌, ℕ, ◌-◌, ◌<◌, ◌≤◌, List, [], ◌∷◌, ◌++◌, set, take, drop, length, get_or, Bool, true, false, cond, Option, Some, None, IfSome, refl, ap, sym, ◌∙◌, arith, inl, inr, slice_index, slice_set, subst, replicate}
use Rattle.std.proofs.lemmas.Bool.{and_parts, not-true, cases_eq, eq-eqb, ne_eqb}
use Rattle.std.proofs.lemmas.List.{length-replicate, get_or-replicate, length-set, get_or-set_same, get_or-set_other, length_push}
use Rattle.std.proofs.Math.Seq.{take-append_seam}
use Rattle.std.proofs.lemmas.Map.Steps.{length-le_from_distinct_below}
use Rattle.std.specs.Prelude.{◌==◌, not}
use Rattle.duct_definitions.specs.Tree.{Tree, IsTree, section_count, neighbour, children, is_leaf, is_number}
use Rattle.duct_definitions.proofs.TreeLaws.{earlier}
use Rattle.schedule_core.specs.declared.events.Event.{Event}
use Rattle.schedule_core.specs.declared.events.Event.TheVariants.{Claim, Finish}
use Rattle.schedule_core.specs.Schedule.{at_start, is_in, is_claimed, accepts, added}
use Rattle.schedule_core.specs.Answers.{claimed_neighbour}
use Rattle.schedule_core.specs.CoreData.{CoreData}
use Rattle.schedule_core.specs.CoreFields.{AreNumbers, IsCoreOf, one_less, next_at}
use Rattle.schedule_core.specs.CoreInside.{data_of}
use Rattle.schedule_core.specs.declared.schedule.Core.TheInside.{Inside}
use Rattle.schedule_core.proofs.Membership.{is_in-last, is_in-other, none_counted}
use Rattle.schedule_core.proofs.Claims.{leaf_within, claimed_within}
use Rattle.schedule_core.proofs.OrderlyLaws.{orderly_added, orderly_start}
use Rattle.schedule_core.proofs.Numbers.{number-zero, number-inner, number-claimed, number-other, number-finished, neighbour_inner}

-- a list with one more, and none twice, is no longer than there are sections
room : (xs : List ℕ) (s n : ℕ) → (let all : List ℕ = xs ++ s ∷ [] in length all ≤ n) → length xs < n
room xs s n few = let long = length_push xs s in omega arith

-- the number of a section tells whether it is claimed
pub core_claimed : (t : Tree) (core : CoreData) (s : ℕ) → IsCoreOf t core → s < section_count t
    → (slice_index core.numbers s == 0) ≡ is_claimed t core.state s
core_claimed t core s own within =
    ap (λ n. n == 0) (own.numbers.each s within) ∙ number-zero t core.state s within

abbrev pub claimed_core : CoreData → ℕ → CoreData
claimed_core core s = record {
  state = added core.state (Claim s);
  numbers = slice_set core.numbers s 0;
  marks = core.marks;
}

pub own_claimed : (t : Tree) (core : CoreData) (s : ℕ) → IsCoreOf t core
    → accepts t core.state (Claim s) ≡ true → IsCoreOf t (claimed_core core s)
own_claimed t core s own accepted =
    let leaf = (and_parts (is_leaf t s) (not (is_claimed t core.state s)) accepted).0 in
    let count = own.numbers.count_is in
    let within = leaf_within t s leaf in
    record {
      tree = own.tree;
      numbers = record {
        count_is = length-set core.numbers s 0 ∙ count;
        each = λ x at. elim (cases_eq x s) [
          | inl same ↦ rw same (get_or-set_same core.numbers s 0 0 (omega arith) ∙ sym (number-claimed t core.state s leaf))
          | inr differs ↦
              get_or-set_other core.numbers s x 0 0 differs ∙ own.numbers.each x at
              ∙ sym (number-other t core.state s x differs)
        ];
      };
      mark_count = own.mark_count;
      marks = own.marks;
      orderly = orderly_added t core.state (Claim s) own.tree own.orderly accepted;
    }

-- there is room for a leaf that may be claimed
pub claim_room : (t : Tree) (core : CoreData) (s : ℕ) → IsCoreOf t core
    → accepts t core.state (Claim s) ≡ true → length core.state.claimed < section_count t
claim_room t core s own accepted =
    let orderly = orderly_added t core.state (Claim s) own.tree own.orderly accepted in
    room core.state.claimed s (section_count t) (length-le_from_distinct_below (core.state.claimed ++ s ∷ [])
    (section_count t) orderly.claimed_once (λ x is. leaf_within t x (orderly.leaves x is)))

abbrev pub finished_core : Tree → CoreData → ℕ → CoreData
finished_core t core s = record {
  state = added core.state (Finish s);
  numbers = one_less (neighbour t s) core.numbers;
  marks = set core.marks s true;
}

length-one_less : (o : Option ℕ) (numbers : List ℕ) → length (one_less o numbers) ≡ length numbers
length-one_less None numbers = refl
length-one_less (Some n) numbers = length-set numbers n (slice_index numbers n - 1)

-- the numbers as they are written back into their list
pub refilled : (count : ℕ) (old new : List ℕ) (o : Option ℕ) → length old ≡ count → new ≡ one_less o old
    → take count (new ++ drop (length new) old) ≡ one_less o old
refilled count old new o long is =
    let all : length new ≡ count = ap length is ∙ length-one_less o old ∙ long in
    ap (λ n. take n (new ++ drop (length new) old)) (sym all) ∙ take-append_seam new (drop (length new) old) ∙ is

-- 1 less at the neighbour, and nowhere else
one_less-at : (o : Option ℕ) (numbers : List ℕ) (x : ℕ) → x < length numbers
    → slice_index (one_less o numbers) x ≡ slice_index numbers x - cond (is_number x o) 1 0
one_less-at None numbers x within = omega arith
one_less-at (Some n) numbers x within =
    elim (cases_eq x n) [
      | inl same ↦
          let here : cond {A = ℕ} (n == x) 1 0 ≡ 1 = ap (λ b. cond b 1 0) (eq-eqb n x (sym same)) in
          let read : slice_index (slice_set numbers n (slice_index numbers n - 1)) x ≡ slice_index numbers n - 1 =
          ap (slice_index (slice_set numbers n (slice_index numbers n - 1))) same
          ∙ get_or-set_same numbers n (slice_index numbers n - 1) 0 (omega arith) in
          let old : slice_index numbers x ≡ slice_index numbers n = ap (slice_index numbers) same in
          omega arith
      | inr differs ↦
          let here : cond {A = ℕ} (n == x) 1 0 ≡ 0 = ap (λ b. cond b 1 0) (ne_eqb n x (λ is. differs (sym is))) in
          let read = get_or-set_other numbers n x (slice_index numbers n - 1) 0 differs in
          omega arith
    ]

pub own_finished : (t : Tree) (core : CoreData) (s : ℕ) → IsCoreOf t core
    → accepts t core.state (Finish s) ≡ true → IsCoreOf t (finished_core t core s)
own_finished t core s own accepted =
    let (claimed, unfinished) = and_parts (is_claimed t core.state s) (not (is_in core.state.done s)) accepted in
    let within = claimed_within t core.state s claimed in
    let new = not-true (is_in core.state.done s) unfinished in
    let count = own.numbers.count_is in
    let mark_count = own.mark_count in
    record {
      tree = own.tree;
      numbers = record {
        count_is = length-one_less (neighbour t s) core.numbers ∙ count;
        each = λ x at.
            (let less = one_less-at (neighbour t s) core.numbers x (omega arith) in
            let old = own.numbers.each x at in
            let now = number-finished t core.state s x within new in
            omega arith);
      };
      mark_count = length-set core.marks s true ∙ mark_count;
      marks = λ x at. elim (cases_eq x s) [
        | inl same ↦ rw same (get_or-set_same core.marks s true false (omega arith) ∙ sym (is_in-last core.state.done s))
        | inr differs ↦
            get_or-set_other core.marks s x true false differs ∙ own.marks x at
            ∙ sym (is_in-other core.state.done s x differs)
      ];
      orderly = orderly_added t core.state (Finish s) own.tree own.orderly accepted;
    }

-- there is room for a section that may be finished
pub finish_room : (t : Tree) (core : CoreData) (s : ℕ) → IsCoreOf t core
    → accepts t core.state (Finish s) ≡ true → length core.state.done < section_count t
finish_room t core s own accepted =
    let orderly = orderly_added t core.state (Finish s) own.tree own.orderly accepted in
    room core.state.done s (section_count t) (length-le_from_distinct_below (core.state.done ++ s ∷ [])
    (section_count t) orderly.done_once orderly.sections)

-- the neighbour of a section that may be finished has a child that isn't done
pub neighbour_open : (t : Tree) (core : CoreData) (s : ℕ) → IsCoreOf t core
    → accepts t core.state (Finish s) ≡ true
    → IfSome (neighbour t s) (λ n. (n < length core.numbers) × (0 < slice_index core.numbers n))
neighbour_open t core s own accepted =
    let (claimed, unfinished) = and_parts (is_claimed t core.state s) (not (is_in core.state.done s)) accepted in
    let within = claimed_within t core.state s claimed in
    let new = not-true (is_in core.state.done s) unfinished in
    let count = own.numbers.count_is in
    elim (neighbour t s) as (λ o. neighbour t s ≡ o → IfSome o (λ n. (n < length core.numbers) × (0 < slice_index core.numbers n))) [
      | None ↦ λ is. tt
      | Some n ↦ λ is.
          (let before = earlier t s n own.tree within is in
          let one : cond {A = ℕ} (is_number n (neighbour t s)) 1 0 ≡ 1 =
          ap (λ o. cond (is_number n o) 1 0) is ∙ ap (λ b. cond b 1 0) (eq-eqb n n refl) in
          let now = number-finished t core.state s n within new in
          let old = own.numbers.each n (omega arith) in
          (omega arith, omega arith))
    ] refl

-- the neighbour's number is 0 exactly where all its children are done
next_core : (t : Tree) (core : CoreData) (s : ℕ) → IsCoreOf t core → s < section_count t
    → next_at core.numbers (neighbour t s) ≡ claimed_neighbour t core.state (neighbour t s)
next_core t core s own within =
    elim (neighbour t s) as (λ o. neighbour t s ≡ o → next_at core.numbers o ≡ claimed_neighbour t core.state o) [
      | None ↦ λ is. refl
      | Some n ↦ λ is.
          (let before = earlier t s n own.tree within is in
          let inner = neighbour_inner t s n within is in
          let number = own.numbers.each n (omega arith) ∙ number-inner t core.state n inner in
          ap (λ b. cond b (Some n) None)
          (ap (λ x. x == 0) number ∙ none_counted (is_in core.state.done) (children t n)))
    ] refl

pub next_finished : (t : Tree) (core : CoreData) (s : ℕ) → IsCoreOf t core
    → accepts t core.state (Finish s) ≡ true
    → next_at (one_less (neighbour t s) core.numbers) (neighbour t s)
    ≡ claimed_neighbour t (added core.state (Finish s)) (neighbour t s)
next_finished t core s own accepted =
    let claimed = (and_parts (is_claimed t core.state s) (not (is_in core.state.done s)) accepted).0 in
    next_core t (finished_core t core s) s (own_finished t core s own accepted) (claimed_within t core.state s claimed)

-- what is known of a core and an event, said of the core's fields
pub opened : (t : Tree) (a : Inside) (core : CoreData) (event : Event) → data_of a ≡ core → IsCoreOf t core
    → accepts t core.state event ≡ true → IsCoreOf t (data_of a) × (accepts t (data_of a).state event ≡ true)
opened t a core event is own accepted =
    subst (λ (x : CoreData). IsCoreOf t x × (accepts t x.state event ≡ true)) (sym is) (own, accepted)

-- the core before the first event
pub own_start : (t : Tree) (numbers : List ℕ) (marks : List Bool) → IsTree t
    → AreNumbers t at_start (section_count t) numbers → marks ≡ replicate (section_count t) false
    → IsCoreOf t (record { state = at_start; numbers = numbers; marks = marks })
own_start t numbers marks tree are clear =
    record {
      tree = tree;
      numbers = are;
      mark_count = ap length clear ∙ length-replicate (section_count t) false;
      marks = λ s within. ap (λ all. get_or all s false) clear ∙ get_or-replicate (section_count t) s false false within;
      orderly = orderly_start t tree;
    }
