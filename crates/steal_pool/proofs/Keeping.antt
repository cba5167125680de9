-- Each kind of step keeps the rule.
use Rattle.std.proofs.Common.{◌≡◌, ℕ, zero, suc, ◌<◌, ◌≢◌, List, [], ◌∷◌, ◌++◌, set, length, refl, ap, sym, ◌∙◌, arith, inl, inr}
use mathlib.Core.Option.{some, some-injective, some-ne-none}
use lib.ListN.{get_elem?}
use Rattle.crossbeam_deque.specs.Tasks.{Pushes, Takes, Finds, Forks, Merges}
use Rattle.crossbeam_deque.proofs.Lists.{at_set, at_snoc, set_here}
use Rattle.steal_pool.specs.declared.view.DequeView.{DequeView}
use Rattle.steal_pool.specs.Rule.{times, deque_view, pushed_in, all_parts, IsKept, with_pushed, with_got, less_part, joined, IsDrained, IsWithinPushed}
use Rattle.std.specs.List.{sum_by}
use Rattle.std.proofs.lemmas.List.Sums.{sum_by-append}
use Rattle.steal_pool.proofs.Sums.{times-append, sum-set, sum-has, sum-alone}

abbrev got_of : ℕ → DequeView → ℕ
got_of t v = times t v.got

abbrev parts_of : DequeView → ℕ
parts_of v = v.parts

-- what was pushed stays where the changed view keeps its list
pushed-same : (views : List DequeView) (seat : ℕ) (v w : DequeView) → get_elem? views seat ≡ some v → w.pushed ≡ v.pushed → pushed_in (set views seat w) ≡ pushed_in views
pushed-same [] seat v w at e = refl
pushed-same (x ∷ xs) zero v w at e = e ∙ sym (ap (λ y. y.pushed) (some-injective x v at))
pushed-same (x ∷ xs) (suc seat) v w at e = refl

-- the owner's list is what was pushed
pushed-first : (views : List DequeView) (v : DequeView) → get_elem? views 0 ≡ some v → pushed_in views ≡ v.pushed
pushed-first [] v at = absurd (some-ne-none v (sym at))
pushed-first (x ∷ xs) v at = ap (λ y. y.pushed) (some-injective x v at)

pushed-set : (views : List DequeView) (v w : DequeView) → get_elem? views 0 ≡ some v → pushed_in (set views 0 w) ≡ w.pushed
pushed-set [] v w at = absurd (some-ne-none v (sym at))
pushed-set (x ∷ xs) v w at = refl

pushed-other : (views : List DequeView) (seat : ℕ) (w : DequeView) → seat ≢ 0 → pushed_in (set views seat w) ≡ pushed_in views
pushed-other [] seat w n = refl
pushed-other (x ∷ xs) zero w n = absurd (n refl)
pushed-other (x ∷ xs) (suc seat) w n = refl

pushed-append : (views : List DequeView) (seat : ℕ) (v w : DequeView) → get_elem? views seat ≡ some v → pushed_in (views ++ w ∷ []) ≡ pushed_in views
pushed-append [] seat v w at = absurd (some-ne-none v (sym at))
pushed-append (x ∷ xs) seat v w at = refl

-- changing one view to one with parts keeps what is said of views without parts
idle-set : (views : List DequeView) (seat : ℕ) (w : DequeView) → (w.parts ≡ 0 → w.got ≡ []) → ((i : ℕ) (u : DequeView) → get_elem? views i ≡ some u → u.parts ≡ 0 → u.got ≡ [])
    → (i : ℕ) (u : DequeView) → get_elem? (set views seat w) i ≡ some u → u.parts ≡ 0 → u.got ≡ []
idle-set views seat w mine h i u e z = elim (at_set views seat i w u e) [
  | inl q ↦ sym (ap (λ y. y.got) q.1) ∙ mine (ap (λ y. y.parts) q.1 ∙ z)
  | inr q ↦ h i u q.1 z
]

pub begins : IsKept [] (deque_view all_parts [] [] ∷ [])
begins = record {
  counts = λ t. refl;
  parts = refl;
  idle = one;
} where
  one : (seat : ℕ) (v : DequeView) → get_elem? (deque_view all_parts [] [] ∷ []) seat ≡ some v → v.parts ≡ 0 → v.got ≡ []
  one zero v e z = sym (ap (λ y. y.got) (some-injective (deque_view all_parts [] []) v e))
  one (suc k) v e z = absurd (some-ne-none v (sym e))

pub push-keeps : (v : DequeView) (x : ℕ) → 0 < v.parts → Pushes IsKept 0 v (x ∷ []) (λ w. w ≡ with_pushed v (x ∷ []))
push-keeps v x some_part items views h at =
    let w = with_pushed v (x ∷ []) in (
      w,
      record {
        counts = λ t. (
            let s = sum-set (got_of t) views 0 v w at in
            let a = times-append t items (x ∷ []) in
            let b = times-append t v.pushed (x ∷ []) in
            let c : times t (pushed_in (set views 0 w)) ≡ times t w.pushed = ap (times t) (pushed-set views v w at) in
            let d : times t (pushed_in views) ≡ times t v.pushed = ap (times t) (pushed-first views v at) in
            let k = h.counts t in
            omega arith);
        parts = (let s = sum-set parts_of views 0 v w at in let k = h.parts in omega arith);
        idle = idle-set views 0 w (λ z. absurd (omega arith)) h.idle;
      },
      refl,
    )

take-kept : (seat : ℕ) (v : DequeView) → 0 < v.parts → (xs items : List ℕ) (views : List DequeView) → IsKept (xs ++ items) views → get_elem? views seat ≡ some v → IsKept items (set views seat (with_got v xs))
take-kept seat v some_part xs items views h at =
    let w = with_got v xs in
    record {
      counts = λ t. (
          let s = sum-set (got_of t) views seat v w at in
          let a = times-append t xs items in
          let b = times-append t v.got xs in
          let c : times t (pushed_in (set views seat w)) ≡ times t (pushed_in views) = ap (times t) (pushed-same views seat v w at refl) in
          let k = h.counts t in
          omega arith);
      parts = (let s = sum-set parts_of views seat v w at in let k = h.parts in omega arith);
      idle = idle-set views seat w (λ z. absurd (omega arith)) h.idle;
    }

-- a pop of the owner, and a steal
pub take-keeps : (seat : ℕ) (v : DequeView) → 0 < v.parts → Takes IsKept seat v 1 (λ xs w. w ≡ with_got v xs)
take-keeps seat v some_part xs items views _ _ h at = (with_got v xs, take-kept seat v some_part xs items views h at, refl)

pub fork-keeps : (seat : ℕ) (v : DequeView) → 1 < v.parts → Forks IsKept seat v (less_part v) (deque_view 1 [] [])
fork-keeps seat v some_parts items views h at =
    let w = less_part v in
    let one = deque_view 1 [] [] in
    let now = set views seat w in
    record {
      counts = λ t. (
          let s = sum-set (got_of t) views seat v w at in
          let a = sum_by-append (got_of t) now (one ∷ []) in
          let c : times t (pushed_in now) ≡ times t (pushed_in views) = ap (times t) (pushed-same views seat v w at refl) in
          let d : times t (pushed_in (now ++ one ∷ [])) ≡ times t (pushed_in now) = ap (times t) (appended views seat v w one at) in
          let k = h.counts t in
          omega arith);
      parts = (let s = sum-set parts_of views seat v w at in let a = sum_by-append parts_of now (one ∷ []) in let k = h.parts in omega arith);
      idle = λ i u e z. elim (at_snoc now one u i e) [
        | inl q ↦ idle-set views seat w (λ y. absurd (omega arith)) h.idle i u q z
        | inr q ↦ sym (ap (λ y. y.got) q)
      ];
    } where
      appended : (views : List DequeView) (seat : ℕ) (v w one : DequeView) → get_elem? views seat ≡ some v → pushed_in (set views seat w ++ one ∷ []) ≡ pushed_in (set views seat w)
      appended [] seat v w one at = absurd (some-ne-none v (sym at))
      appended (x ∷ xs) zero v w one at = refl
      appended (x ∷ xs) (suc seat) v w one at = refl

pub merge-keeps : (v : DequeView) (other : ℕ) (u : DequeView) → 0 < v.parts → Merges IsKept 0 v other u (joined v u) (deque_view 0 [] [])
merge-keeps v other u some_part items views h at ne at2 =
    let w = joined v u in
    let mid = set views 0 w in
    let spent = deque_view 0 [] [] in
    record {
      counts = λ t. (
          let s = sum-set (got_of t) views 0 v w at in
          let r = sum-set (got_of t) mid other u spent at2 in
          let a = times-append t v.got u.got in
          let c : times t (pushed_in (set mid other spent)) ≡ times t (pushed_in mid) = ap (times t) (pushed-other mid other spent ne) in
          let d : times t (pushed_in mid) ≡ times t (pushed_in views) = ap (times t) (pushed-same views 0 v w at refl) in
          let k = h.counts t in
          omega arith);
      parts = (let s = sum-set parts_of views 0 v w at in let r = sum-set parts_of mid other u spent at2 in let k = h.parts in omega arith);
      idle = idle-set mid other spent (λ z. refl) (idle-set views 0 w (λ z. absurd (omega arith)) h.idle);
    }

pub find-tells : (v : DequeView) → Finds IsKept 0 v (IsDrained v)
find-tells v views h at = record {
  parts = (let s = sum-has parts_of views 0 v at in let k = h.parts in omega arith);
  counts = λ all t. (
      let k = h.counts t in
      let a : sum_by (got_of t) views ≡ got_of t v = sum-alone (got_of t) parts_of views 0 v (λ i a e z. ap (times t) (h.idle i a e z)) at (h.parts ∙ sym all) in
      let d : times t (pushed_in views) ≡ times t v.pushed = ap (times t) (pushed-first views v at) in
      omega arith);
}

seated : (views : List DequeView) (seat : ℕ) (v : DequeView) → get_elem? views seat ≡ some v → seat < length views
seated [] seat v e = absurd (some-ne-none v (sym e))
seated (x ∷ xs) zero v e = omega arith
seated (x ∷ xs) (suc seat) v e = let i = seated xs seat v e in omega arith

-- the same step, where the owner learns that it got nothing too often
pub take_last-keeps : (v : DequeView) → 0 < v.parts → Takes IsKept 0 v 1 (λ xs w. (w ≡ with_got v xs) × IsWithinPushed w)
take_last-keeps v some_part xs items views _ _ h at =
    let w = with_got v xs in
    let r = take-kept 0 v some_part xs items views h at in (
      w,
      r,
      (
        refl,
        λ t. (
            let a = sum-has (got_of t) (set views 0 w) 0 w (set_here views 0 w (seated views 0 v at)) in
            let b = r.counts t in
            let c : times t (pushed_in (set views 0 w)) ≡ times t w.pushed = ap (times t) (pushed-set views v w at) in
            omega arith),
      ),
    )
