-- The rule holds at the start.
use Rattle.std.proofs.Common.{◌≡◌, ℕ, zero, suc, ◌+◌, ◌<◌, List, [], ◌∷◌, ◌++◌, map, length, replicate, Option, None, Bool, true, false, refl, ap, sym, ◌∙◌, arith, subst, slice_index}
use Rattle.std.proofs.lemmas.Bool.{both_ways, ne_eqb, false_from_ne_true}
use Rattle.std.proofs.lemmas.List.{length_push}
use Rattle.std.proofs.lemmas.List.Sums.{sum_by-cons, length-filter}
use Rattle.std.proofs.Math.ListN.{get_or-append}
use Rattle.std.proofs.Math.Seq.{get_or-append_seam}
use Rattle.std.specs.Prelude.{◌==◌, ◌&&◌, filter}
use Rattle.std.specs.List.{count_by}
use mathlib.Core.Option.{some, some-injective, some-ne-none}
use lib.ListN.{get_elem?}
use Rattle.duct_units.specs.declared.side.Side.{Side}
use Rattle.duct_units.specs.declared.side.Side.TheVariants.{Supply, Return}
use Rattle.duct_units.specs.Side.{same_side}
use Rattle.duct_definitions.specs.Network.{Network}
use Rattle.duct_definitions.specs.Tree.{Tree, section_count, sections, side, is_root, roots}
use Rattle.schedule_core.specs.Schedule.{at_start, is_claimed}
use Rattle.schedule_core.specs.CoreFields.{AreNumbers, number_of}
use Rattle.schedule_core.proofs.Membership.{all_counted}
use Rattle.schedule_core.proofs.Claims.{claimed_within}
use Rattle.schedule_core.proofs.Numbers.{number-zero, number_start}
use Rattle.contract_join.specs.declared.outcome.Outcome.{Outcome}
use Rattle.child_counter.specs.declared.view.PassView.{PassView}
use Rattle.child_counter.specs.Passes.{fresh_view}
use Rattle.child_counter.specs.Shown.{AreWords, all_roots, open_among, IsView, Shows, one_if}
use Rattle.child_counter.proofs.Joining.{empty-view}

-- a section is on one side
one-side : (x : Side) (b : Bool) → one_if (same_side x Supply && b) + one_if (same_side x Return && b) ≡ one_if b
one-side Supply b = omega arith
one-side Return b = omega arith

-- those of both sides are all
by-side : (t : Tree) (test : ℕ → Bool) (xs : List ℕ) → length
    (filter (λ s. same_side (side t s) Supply && test s) xs) + length
    (filter (λ s. same_side (side t s) Return && test s) xs) ≡ length (filter test xs)
by-side t test xs =
    let a = length-filter (λ s. same_side (side t s) Supply && test s) xs in
    let b = length-filter (λ s. same_side (side t s) Return && test s) xs in
    let c = length-filter test xs in
    let d = counted xs in
    omega arith
  where
    counted : (ys : List ℕ) → count_by (λ s. same_side (side t s) Supply && test s) ys + count_by
        (λ s. same_side (side t s) Return && test s) ys ≡ count_by test ys
    counted [] = refl
    counted (y ∷ ys) =
        let a = sum_by-cons (λ s. one_if (same_side (side t s) Supply && test s)) y ys in
        let b = sum_by-cons (λ s. one_if (same_side (side t s) Return && test s)) y ys in
        let c = sum_by-cons (λ s. one_if (test s)) y ys in
        let d = counted ys in
        let e = one-side (side t y) (test y) in
        omega arith

-- the roots of both sides, none of which is done
pub roots-counted : (t : Tree) → length (roots t Supply) + length (roots t Return) ≡ open_among at_start (all_roots t)
roots-counted t = by-side t (is_root t) (sections t) ∙ sym (all_counted (all_roots t))

-- the words of the sections, and the roots' word behind them
pub words-start : (t : Tree) (words : List ℕ) → AreNumbers t at_start (section_count t) words
    → AreWords t at_start (words ++ open_among at_start (all_roots t) ∷ [])
words-start t words h =
    let last : ℕ = open_among at_start (all_roots t) in
    record {
      count = length_push words last ∙ (let a = h.count_is in let e : length words + 1 ≡ section_count t + 1 = omega
          arith in e);
      sections = λ s within. get_or-append words (last ∷ []) 0 s (let a = h.count_is in omega arith)
          ∙ h.each s within;
      roots = ap (slice_index (words ++ last ∷ [])) (sym h.count_is) ∙ get_or-append_seam words last [] 0;
    }

-- an empty slot at home
vacant-at : (n s : ℕ) → s < n → get_elem? (map (λ (x : Option Outcome). some x) (replicate n None)) s ≡ some
    (some None)
vacant-at zero s within = absurd (omega arith)
vacant-at (suc n) zero within = refl
vacant-at (suc n) (suc s) within = vacant-at n s (omega arith)

alone-at : (v w : PassView) (i : ℕ) → get_elem? (v ∷ []) i ≡ some w → v ≡ w
alone-at v w zero at = some-injective v w at
alone-at v w (suc i) at = absurd (some-ne-none w (sym at))

-- before the first event nothing is claimed
start-free : (t : Tree) (s : ℕ) → is_claimed t at_start s ≡ false
start-free t s =
    false_from_ne_true _ (λ claimed.
    let within = claimed_within t at_start s claimed in
    let number = number_start t s within in
    let some_left : (number_of t at_start s == 0) ≡ false = ne_eqb (number_of t at_start s) 0
    (λ zero_is. omega arith) in
    both_ways (is_claimed t at_start s) (sym (number-zero t at_start s within) ∙ some_left) claimed)

pub start-shows : (net : Network) (passes : ℕ) (words : List ℕ) → AreWords net.tree at_start words
    → Shows net passes at_start words (map some (replicate (section_count net.tree) None))
    (fresh_view net passes ∷ [])
start-shows net passes words h =
    record {
      reached = ([], refl);
      counts = h;
      done_claimed = λ s is. absurd (both_ways false refl is);
      lists = λ s. refl;
      turn_of = λ s. sym (ap (λ b. one_if (b && true)) (start-free net.tree s));
      slots = λ s within. record {
        empty = λ free. vacant-at (section_count net.tree) s within;
        out = λ more. absurd (omega arith);
        full = λ is none_out. absurd (both_ways false refl is);
      };
      each = λ i v at. subst (IsView net at_start (fresh_view net passes ∷ []))
          (alone-at (fresh_view net passes) v i at)
          (empty-view net at_start (fresh_view net passes ∷ []) (fresh_view net passes)
          (λ part. refl) refl refl refl refl refl);
      parts = omega arith;
    }
