-- The words after a claim and after a finish.
use Rattle.std.proofs.Common.{◌≡◌, ℕ, zero, suc, ◌+◌, ◌-◌, ◌<◌, List, [], ◌∷◌, Some, None, Bool, true, false, refl, ap, sym, ◌∙◌, arith, inl, inr, cond, slice_index, slice_set}
use Rattle.std.proofs.lemmas.Bool.Decides.{eqb_tells, leb_tells}
use Rattle.std.proofs.lemmas.Bool.{lt-ltb, le-ltb}
use Rattle.std.proofs.lemmas.List.{length-set}
use Rattle.std.proofs.lemmas.List.Sums.{sum_by-append, sum_by-cons}
use Rattle.std.specs.Prelude.{◌==◌, ◌&&◌, nat_lt, is_none, filter}
use Rattle.std.specs.List.{count_by, range_with_len}
use Rattle.duct_definitions.specs.Tree.{Tree, IsTree, section_count, neighbour, is_leaf, is_number, is_root}
use Rattle.duct_definitions.proofs.TreeLaws.{earlier}
use Rattle.duct_definitions.proofs.SectionLists.{chosen-suc}
use Rattle.schedule_core.specs.declared.events.Event.TheVariants.{Claim, Finish}
use Rattle.schedule_core.specs.Schedule.{State, is_in, added}
use Rattle.schedule_core.specs.CoreFields.{number_of}
use Rattle.schedule_core.proofs.Claims.{leaf_within}
use Rattle.schedule_core.proofs.Membership.{not_in-push}
use Rattle.schedule_core.proofs.Numbers.{number-claimed, number-other, number-finished}
use Rattle.child_counter.specs.Shown.{AreWords, all_roots, one_if}
use Rattle.child_counter.proofs.Sums.{word-same, word-other, one_if-yes, one_if-no, number-same, number-none}

and-true : (b : Bool) → one_if (b && true) ≡ one_if b
and-true true = refl
and-true false = refl

and-false : (b : Bool) → one_if (b && false) ≡ 0
and-false true = refl
and-false false = refl

-- one number more of those that pass a test
times-more : (test : ℕ → Bool) (c n : ℕ) → count_by (λ x. x == c) (filter test (range_with_len 0 (suc n)))
    ≡ count_by (λ x. x == c) (filter test (range_with_len 0 n)) + one_if (test n && (n == c))
times-more test c n =
    ap (count_by (λ x. x == c)) (chosen-suc test n)
    ∙ sum_by-append (λ x. one_if (x == c)) (filter test (range_with_len 0 n)) (cond (test n) (n ∷ []) [])
    ∙ ap (λ k. count_by (λ x. x == c) (filter test (range_with_len 0 n)) + k)
    (elim (test n) as (λ b. count_by (λ x. x == c) (cond b (n ∷ []) []) ≡ one_if (b && (n == c))) [
      | true ↦ sum_by-cons (λ x. one_if (x == c)) n [] ∙ omega arith
      | false ↦ refl
    ])

-- a number stands among those below n that pass a test once, where it is one of them
times-below : (test : ℕ → Bool) (c n : ℕ) → count_by (λ x. x == c) (filter test (range_with_len 0 n)) ≡ one_if
    (nat_lt c n && test c)
times-below test c zero = sym (ap (λ b. one_if (b && test c)) (le-ltb c 0 (omega arith)))
times-below test c (suc n) =
    let more = times-more test c n in
    let rest = times-below test c n in
    elim (eqb_tells n c) [
      | inl p ↦ (
          let same = p.1 in
          let a : one_if (test n && (n == c)) ≡ one_if (test c) = ap (λ b. one_if (test n && b)) p.0
          ∙ and-true (test n) ∙ ap (λ x. one_if (test x)) same in
          let b : one_if (nat_lt c n && test c) ≡ 0 = ap (λ b. one_if (b && test c)) (le-ltb c n (omega arith)) in
          let d : one_if (nat_lt c (suc n) && test c) ≡ one_if (test c) = ap (λ b. one_if (b && test c))
          (lt-ltb c (suc n) (omega arith)) in
          omega arith)
      | inr p ↦ (
          let differs = p.1 in
          let a : one_if (test n && (n == c)) ≡ 0 = ap (λ b. one_if (test n && b)) p.0 ∙ and-false (test n) in
          let b : nat_lt c (suc n) ≡ nat_lt c n = elim (leb_tells n c) [
            | inl q ↦ (let l = q.1 in le-ltb c (suc n) (omega arith) ∙ sym (le-ltb c n (omega arith)))
            | inr q ↦ lt-ltb c (suc n) (let l = q.1 in omega arith) ∙ sym (lt-ltb c n q.1)
          ] in
          let d = ap (λ b. one_if (b && test c)) b in
          omega arith)
    ]

-- how often a section stands among the roots: once where it is one
root_once : (t : Tree) (s : ℕ) → s < section_count t → count_by (λ c. c == s) (all_roots t) ≡ one_if (is_root t s)
root_once t s within = times-below (is_root t) s (section_count t)
    ∙ ap (λ b. one_if (b && is_root t s)) (lt-ltb s (section_count t) within)

root-is : (t : Tree) (s : ℕ) → s < section_count t → is_root t s ≡ is_none (neighbour t s)
root-is t s within = ap (λ b. b && is_none (neighbour t s)) (lt-ltb s (section_count t) within)

-- a swap with 0 that finds 1
pub words-claimed : (t : Tree) (state : State) (l : ℕ) (words : List ℕ) → AreWords t state words → is_leaf t l ≡ true
    → AreWords t (added state (Claim l)) (slice_set words l 0)
words-claimed t state l words h leaf =
    let within = leaf_within t l leaf in
    record {
      count = length-set words l 0 ∙ h.count;
      sections = λ s ls. elim (eqb_tells s l) [
        | inl p ↦
            ap (slice_index (slice_set words l 0)) p.1 ∙ word-same words l 0 (let a = h.count in omega arith)
            ∙ sym (ap (number_of t (added state (Claim l))) p.1 ∙ number-claimed t state l leaf)
        | inr p ↦ word-other words l s 0 p.1 ∙ h.sections s ls ∙ sym (number-other t state l s p.1)
      ];
      roots = word-other words l (section_count t) 0 (λ e. omega arith) ∙ h.roots;
    }

-- a swap with 0 that finds 0
pub words-swapped : (t : Tree) (state : State) (l : ℕ) (words : List ℕ) → AreWords t state words → l < section_count t
    → slice_index words l ≡ 0 → AreWords t state (slice_set words l 0)
words-swapped t state l words h within zero_is =
    record {
      count = length-set words l 0 ∙ h.count;
      sections = λ s ls. elim (eqb_tells s l) [
        | inl p ↦
            ap (slice_index (slice_set words l 0)) p.1 ∙ word-same words l 0 (let a = h.count in omega arith)
            ∙ sym (ap (slice_index words) p.1 ∙ zero_is) ∙ h.sections s ls
        | inr p ↦ word-other words l s 0 p.1 ∙ h.sections s ls
      ];
      roots = word-other words l (section_count t) 0 (λ e. omega arith) ∙ h.roots;
    }

-- a finish below a section
pub words-below : (t : Tree) (state : State) (f n : ℕ) (words : List ℕ) → IsTree t → AreWords t state words
    → f < section_count t → is_in state.done f ≡ false → neighbour t f ≡ Some n
    → (0 < slice_index words n) × AreWords t (added state (Finish f)) (slice_set words n (slice_index words n - 1))
words-below t state f n words tree h within new is =
    let before = earlier t f n tree within is in
    let here = h.sections n (omega arith) in
    let one : one_if (is_number n (neighbour t f)) ≡ 1 = ap (λ o. one_if (is_number n o)) is
    ∙ one_if-yes _ (number-same n) in
    let less = number-finished t state f n within new in
    let root : is_root t f ≡ false = root-is t f within ∙ ap is_none is in
    let gone = not_in-push state.done f (all_roots t) new in
    let once = root_once t f within in
    let zero_is = one_if-no _ root in (
      omega arith,
      record {
        count = length-set words n (slice_index words n - 1) ∙ h.count;
        sections = λ s ls. elim (eqb_tells s n) [
          | inl p ↦ (
              let a : slice_index (slice_set words n (slice_index words n - 1)) s ≡ slice_index words n - 1 =
              ap (slice_index (slice_set words n (slice_index words n - 1))) p.1
              ∙ word-same words n (slice_index words n - 1) (let b = h.count in omega arith) in
              let b : number_of t (added state (Finish f)) s ≡ number_of t (added state (Finish f)) n = ap
              (number_of t (added state (Finish f))) p.1 in
              omega arith)
          | inr p ↦ (
              let a = word-other words n s (slice_index words n - 1) p.1 in
              let b = number-finished t state f s within new in
              let none = one_if-no _ (number-none s (neighbour t f)
              (λ e. p.1 (let q : Some s ≡ Some n = sym e ∙ is in cc q))) in
              let d = h.sections s ls in
              omega arith)
        ];
        roots = (let a = word-other words n (section_count t) (slice_index words n - 1)
            (λ e. omega arith) in let b = h.roots in omega arith);
      },
    )

-- a finish at the fan
pub words-fan : (t : Tree) (state : State) (f : ℕ) (words : List ℕ) → AreWords t state words → f < section_count t
    → is_in state.done f ≡ false → neighbour t f ≡ None
    → (0 < slice_index words (section_count t)) × AreWords t (added state (Finish f))
    (slice_set words (section_count t) (slice_index words (section_count t) - 1))
words-fan t state f words h within new is =
    let n : ℕ = section_count t in
    let root : is_root t f ≡ true = root-is t f within ∙ ap is_none is in
    let gone = not_in-push state.done f (all_roots t) new in
    let once = root_once t f within in
    let one = one_if-yes _ root in
    let here = h.roots in (
      omega arith,
      record {
        count = length-set words n (slice_index words n - 1) ∙ h.count;
        sections = λ s ls.
            (let a = word-other words n s (slice_index words n - 1) (λ e. omega arith) in
            let b = number-finished t state f s within new in
            let none = one_if-no _ (number-none s (neighbour t f) (λ e. let q : None ≡ Some s = sym is ∙ e in cc q))
            in
            let d = h.sections s ls in
            omega arith);
        roots = (let a = word-same words n (slice_index words n - 1) (let b = h.count in omega arith) in omega arith);
      },
    )
