-- What the one pass that is left knows at the end.
use Rattle.std.proofs.Common.{◌≡◌, ℕ, zero, suc, ◌+◌, ◌<◌, ◌≤◌, List, [], ◌∷◌, ◌++◌, set, length, Option, Some, None, Bool, true, false, refl, ap, sym, ◌∙◌, arith, inl, inr, subst, get_or}
use Rattle.std.proofs.lemmas.Bool.{both_ways, cases_Bool, and_from, false_from_ne_true, lt-ltb, le-ltb}
use Rattle.std.proofs.lemmas.Bool.Decides.{eqb_tells, leb_tells}
use Rattle.std.proofs.lemmas.List.{get_or-set_other, length_push}
use Rattle.std.specs.Prelude.{not, nat_lt, slice_get}
use Rattle.std.specs.List.{flat_map}
use mathlib.Core.Option.{some, some-injective}
use lib.ListN.{get_elem?}
use Rattle.atomic_table.specs.Table.{Final, Seen}
use Rattle.atomic_table.proofs.Lists.{set_else}
use Rattle.duct_definitions.specs.Network.{Network}
use Rattle.duct_definitions.specs.Tree.{IsTree, section_count, is_number}
use Rattle.schedule_core.specs.declared.events.Event.TheVariants.{Finish}
use Rattle.schedule_core.specs.Schedule.{State, is_in, is_claimed, accepts}
use Rattle.schedule_core.proofs.Claims.{claimed_within}
use Rattle.schedule_core.proofs.OrderlyLaws.{ends_with_all}
use Rattle.contract_join.specs.declared.outcome.Outcome.{Outcome}
use Rattle.contract_join.specs.Outcomes.{section_of, IsOutcomeOf}
use Rattle.child_counter.specs.declared.view.PassView.{PassView}
use Rattle.child_counter.specs.Passes.{times, all_of, turns, outs, is_of, spent_view, StandsIn}
use Rattle.child_counter.specs.Shown.{Homes, Shows, IsIdle, one_if}
use Rattle.child_counter.specs.Closed.{IsLast}
use Rattle.child_counter.proofs.Sums.{sum-alone, sum-has, sum-zero, parts-set, one_if-yes, one_if-no, no_if-zero, has_turn}
use Rattle.child_counter.proofs.Lists.{stands-counts, get-push}

-- an idle pass has no list
idle-none : (v : PassView) → IsIdle v → all_of v ≡ []
idle-none v h = ap (λ l. flat_map (λ xs. xs) l ++ v.own) h.joined ∙ h.own

-- nobody has a turn
no-turns : (net : Network) (passes : ℕ) (state : State) (words : List ℕ) (homes : Homes) (views : List PassView)
    (i : ℕ) (v : PassView)
    → Shows net passes state words homes views → get_elem? views i ≡ some v → IsLast net passes v → (s : ℕ)
    → turns views s ≡ 0
no-turns net passes state words homes views i v h at last s =
    sum-alone (λ (x : PassView). one_if (is_number s x.turn)) (λ (x : PassView). x.parts) views i v
    (λ k a at2 zero_is. ap (λ o. one_if (is_number s o)) ((h.each k a at2).idle zero_is).turn) at (h.parts
    ∙ sym last.parts)
    ∙ ap (λ o. one_if (is_number s o)) last.free

-- every section is done
pub all-done : (net : Network) (passes : ℕ) (state : State) (words : List ℕ) (homes : Homes) (views : List PassView)
    (i : ℕ) (v : PassView)
    → IsTree net.tree → Shows net passes state words homes views → get_elem? views i ≡ some v → IsLast net passes v
    → (s : ℕ) → s < section_count net.tree → is_in state.done s ≡ true
all-done net passes state words homes views i v tree h at last =
    ends_with_all net.tree state tree
    (λ s leaf. (h.each i v at).noted s (last.noted s leaf))
    (λ s claimed. elim (cases_Bool (is_in state.done s)) [
      | inl done ↦ done
      | inr open_is ↦ (
          let refused : accepts net.tree state (Finish s) ≡ false = no_if-zero _ (sym (h.turn_of s)
          ∙ no-turns net passes state words homes views i v h at last s) in
          absurd (both_ways (accepts net.tree state (Finish s)) refused
          (and_from (is_claimed net.tree state s) (not (is_in state.done s)) claimed (ap not open_is))))
    ])

-- each section stands in the lists of the pass once, and nothing else does
pub each-once : (net : Network) (passes : ℕ) (state : State) (words : List ℕ) (homes : Homes) (views : List PassView)
    (i : ℕ) (v : PassView)
    → IsTree net.tree → Shows net passes state words homes views → get_elem? views i ≡ some v → IsLast net passes v
    → (s : ℕ) → times s (all_of v) ≡ one_if (nat_lt s (section_count net.tree))
each-once net passes state words homes views i v tree h at last s =
    let listed : times s (all_of v) ≡ one_if (is_in state.done s) =
    sym (sum-alone (λ (x : PassView). times s (all_of x)) (λ (x : PassView). x.parts) views i v
    (λ k a at2 zero_is. ap (times s) (idle-none a ((h.each k a at2).idle zero_is))) at (h.parts ∙ sym last.parts))
    ∙ h.lists s in
    elim (leb_tells (section_count net.tree) s) [
      | inl p ↦
          listed ∙ one_if-no _ (false_from_ne_true _ (λ done. let l = claimed_within net.tree state s
          (h.done_claimed s done) in let beyond = p.1 in omega arith))
          ∙ sym (one_if-no _ (le-ltb s (section_count net.tree) p.1))
      | inr p ↦ listed ∙ one_if-yes _ (all-done net passes state words homes views i v tree h at last s p.1)
          ∙ sym (one_if-yes _ (lt-ltb s (section_count net.tree) p.1))
    ]

-- no child is out
none-lent : (net : Network) (passes : ℕ) (state : State) (words : List ℕ) (homes : Homes) (views : List PassView)
    (i : ℕ) (v : PassView)
    → Shows net passes state words homes views → get_elem? views i ≡ some v → IsLast net passes v → (s : ℕ)
    → outs views s ≡ 0
none-lent net passes state words homes views i v h at last s =
    sum-zero (λ (x : PassView). one_if (is_of s x.out)) views
    (λ k a at2. elim a.out as (λ o. a.out ≡ o → one_if (is_of s o) ≡ 0) [
      | None ↦ λ e. refl
      | Some o ↦ λ e. (
          let turn = ((h.each k a at2).lent o e).0.turn in
          let some_turn = has_turn views k turn.0 a at2 turn.1 in
          let no_turn = no-turns net passes state words homes views i v h at last turn.0 in
          absurd (omega arith))
    ] refl)

-- what is published was published by the one pass
by-last : (net : Network) (passes : ℕ) (state : State) (words : List ℕ) (homes : Homes) (views : List PassView)
    (i k : ℕ) (v a : PassView) (o : Outcome)
    → Shows net passes state words homes views → get_elem? views i ≡ some v → IsLast net passes v
    → get_elem? views k ≡ some a → StandsIn (all_of a) o → StandsIn (all_of v) o
by-last net passes state words homes views i k v a o h at last at2 stands =
    elim (eqb_tells k i) [
      | inl p ↦ subst (λ x. StandsIn (all_of x) o) (some-injective a v (sym (ap (get_elem? views) (sym p.1) ∙ at2)
          ∙ at)) stands
      | inr p ↦ (
          let rest : List PassView = set views k spent_view in
          let here : get_elem? rest i ≡ some v = set_else views k i spent_view (λ e. p.1 (sym e)) ∙ at in
          let x = parts-set views k a spent_view at2 in
          let y = sum-has (λ (z : PassView). z.parts) rest i v here in
          let z = h.parts in
          let u = last.parts in
          let nothing = idle-none a ((h.each k a at2).idle (omega arith)) in
          let counts = stands-counts (all_of a) o stands in
          let none_is : times (section_of o) (all_of a) ≡ 0 = ap (times (section_of o)) nothing in
          absurd (omega arith))
    ]

-- every slot is home with what came of its section
pub all-home : (net : Network) (passes : ℕ) (state : State) (words : List ℕ) (homes : Homes) (views : List PassView)
    (i : ℕ) (v : PassView)
    → IsTree net.tree → Shows net passes state words homes views → get_elem? views i ≡ some v → IsLast net passes v
    → (s : ℕ) → s < section_count net.tree
    → (o : Outcome) × (get_elem? homes s ≡ some (some (Some o))) × IsOutcomeOf net s o × StandsIn (all_of v) o
all-home net passes state words homes views i v tree h at last s within =
    let got = (h.slots s within).full (all-done net passes state words homes views i v tree h at last s within)
    (none-lent net passes state words homes views i v h at last s) in
    let published = got.3 in (
      got.0,
      got.1,
      got.2,
      by-last net passes state words homes views i published.0 v published.1 got.0 h at last
          published.2 published.3,
    )

-- the same of the table that was closed
pub opens : (net : Network) (passes place : ℕ) (v : PassView) (ws : List ℕ) (xs : List (Option Outcome))
    → IsTree net.tree → Final (Seen (λ t. (state : State) × Shows net passes state t.words t.homes t.views) place v)
    ws xs
    → length xs ≡ section_count net.tree → IsLast net passes v → (s : ℕ) → s < length xs
    → (o : Outcome) × (get_elem? xs s ≡ some (Some o)) × IsOutcomeOf net s o × StandsIn (all_of v) o
opens net passes place v ws xs tree final long last s within =
    let t = final.0 in
    let h = final.1.0 in
    let home = all-home net passes h.0 t.words t.homes t.views place v tree h.1 final.1.1 last s (omega arith) in
    (home.0, final.4 s (Some home.0) home.1, home.2, home.3)

-- it is of the section and was published by the last pass
abbrev pub FitsLast : Network → PassView → ℕ → Outcome → Type 0
FitsLast net v s o = IsOutcomeOf net s o × StandsIn (all_of v) o

-- While the slots are emptied in order: those before k are, and what was in them is in the list, in order.
pub record Emptying (Fits : ℕ → Outcome → Type 0) (count k : ℕ) (items : List (Option Outcome)) (filled : List Bool)
    (len : ℕ) (outcomes : List Outcome) (room : ℕ) : Type 0 where
  pub long : len ≡ count
  pub taken : (j : ℕ) → j < k → get_or filled j false ≡ false
  pub full : (j : ℕ) → k ≤ j → j < count → get_or filled j false ≡ true
  pub has : (j : ℕ) → j < count → (o : Outcome) × (get_elem? items j ≡ some (Some o)) × Fits j o
  pub so_far : length outcomes ≡ k
  pub roomy : count ≤ room
  pub fits : (j : ℕ) (o : Outcome) → slice_get outcomes j ≡ Some o → Fits j o

cleared : (filled : List Bool) (k : ℕ) → get_or (set filled k false) k false ≡ false
cleared [] k = refl
cleared (b ∷ bs) zero = refl
cleared (b ∷ bs) (suc k) = cleared bs k

same-outcome : (x y : Outcome) → Some x ≡ Some y → x ≡ y
same-outcome x y is = cc is

pub emptied : (Fits : ℕ → Outcome → Type 0) (count k : ℕ) (items : List (Option Outcome)) (filled : List Bool)
    (len : ℕ) (outcomes : List Outcome) (room more : ℕ) (o : Outcome)
    → Emptying Fits count k items filled len outcomes room → k < count
    → get_elem? items k ≡ some (Some o) → room ≤ more → Emptying Fits count (k + 1) items (set filled k false) len
    (outcomes ++ o ∷ []) more
emptied Fits count k items filled len outcomes room more o h within at wider =
    let so = h.so_far in
    let roomy = h.roomy in
    let was = h.has k within in
    let same : was.0 ≡ o = same-outcome was.0 o (some-injective (Some was.0) (Some o) (sym was.1 ∙ at)) in
    record {
      long = h.long;
      taken = λ j before. elim (eqb_tells j k) [
        | inl p ↦ ap (λ i. get_or (set filled k false) i false) p.1 ∙ cleared filled k
        | inr p ↦ get_or-set_other filled k j false false p.1 ∙ h.taken j (let q = p.1 in omega arith)
      ];
      full = λ j after l. get_or-set_other filled k j false false (λ e. omega arith) ∙ h.full j (omega arith) l;
      has = h.has;
      so_far = length_push outcomes o ∙ (let e : length outcomes + 1 ≡ k + 1 = omega arith in e);
      roomy = omega arith;
      fits = λ j x is. elim (get-push outcomes o x j is) [
        | inl p ↦ h.fits j x p
        | inr p ↦ subst (Fits j) (same ∙ p.1) (subst (λ n. Fits n was.0)
            (let q = p.0 in let z : k ≡ j = omega arith in z) was.2)
      ];
    }
