-- Deques drained.
use Rattle.std.proofs.Common.{◌≡◌, ℕ, suc, ◌+◌, ◌-◌, ◌*◌, ◌<◌, ◌≤◌, List, [], ◌∷◌, ◌++◌, length, length-append, refl, ap, ◌∙◌, arith, inl, inr, cond, ◌==◌}
use Rattle.std.proofs.lemmas.List.Sums.{sum_by-cons}
use Rattle.std.proofs.lemmas.Bool.Decides.{eqb_tells}
use Rattle.std.specs.List.{sum_by}
use Rattle.steal_pool.specs.declared.deque.OwnDeque.{OwnDeque}
use Rattle.steal_pool.specs.Rule.{times, all_parts, with_got, IsWithinPushed, IsDrained}
use Rattle.steal_pool.specs.Ends.{own_view}
use Rattle.steal_pool.specs.Gathers.{own_got, own_pushed, own_parts}
use Rattle.steal_pool.proofs.Sums.{once, times-cons, times-append}

-- without the first x
without : ℕ → List ℕ → List ℕ
without x [] = []
without x (y ∷ ys) = cond (y == x) ys (y ∷ without x ys)

without-times : (x : ℕ) (ys : List ℕ) → 0 < times x ys → ((t : ℕ) → times t (without x ys) + once (x == t) ≡ times t ys) × (length (without x ys) + 1 ≡ length ys)
unfolding without
without-times x [] l = absurd (omega arith)
without-times x (y ∷ ys) l = elim (eqb_tells y x) [
  | inl p ↦ (
    (λ t. let a : times t (without x (y ∷ ys)) ≡ times t ys = ap (λ b. times t (cond b ys (y ∷ without x ys))) p.0 in
        let b : once (y == t) ≡ once (x == t) = ap (λ z. once (z == t)) p.1 in
        let c = times-cons t y ys in
        omega arith),
    (let a : length (without x (y ∷ ys)) ≡ length ys = ap (λ b. length (cond b ys (y ∷ without x ys))) p.0 in omega arith),
  )
  | inr p ↦ (
      let z : once (y == x) ≡ 0 = ap once p.0 in
      let n = times-cons x y ys in
      let i = without-times x ys (omega arith) in (
        (λ t. let a : times t (without x (y ∷ ys)) ≡ times t (y ∷ without x ys) = ap (λ b. times t (cond b ys (y ∷ without x ys))) p.0 in
            let b = times-cons t y (without x ys) in
            let c = times-cons t y ys in
            let k = i.0 t in
            omega arith),
        (let a : length (without x (y ∷ ys)) ≡ suc (length (without x ys)) = ap (λ b. length (cond b ys (y ∷ without x ys))) p.0 in let k = i.1 in omega arith),
      ))
]

once-same : (x : ℕ) → once (x == x) ≡ 1
once-same x = elim (eqb_tells x x) [ inl p ↦ ap once p.0 | inr p ↦ absurd (p.1 refl) ]

-- a list that has no number more often than another is not longer
pub shorter : (xs ys : List ℕ) → ((t : ℕ) → times t xs ≤ times t ys) → length xs ≤ length ys
shorter [] ys h = omega arith
shorter (x ∷ xs) ys h =
    let w = without-times x ys (let a = h x in let b = once-same x in let c = times-cons x x xs in omega arith) in
    let i = shorter xs (without x ys) (λ t. let a = h t in let b = w.0 t in let c = times-cons t x xs in omega arith) in
    let k = w.1 in
    omega arith

pub drain-shrinks : (o o' : OwnDeque) (x : ℕ) → own_view o' ≡ with_got (own_view o) (x ∷ []) → IsWithinPushed (own_view o') → length (own_pushed o') - length (own_view o').got < length (own_pushed o) - length (own_view o).got
drain-shrinks o o' x m within =
    let a : length (own_pushed o') ≡ length (own_pushed o) = ap (λ y. length y.pushed) m in
    let b : length (own_view o').got ≡ length ((own_view o).got ++ x ∷ []) = ap (λ y. length y.got) m in
    let c = length-append (own_view o).got (x ∷ []) in
    let d = shorter (own_view o').got (own_pushed o') within in
    omega arith

pub drain-room : (o o' first : OwnDeque) (x : ℕ) → own_view o' ≡ with_got (own_view o) (x ∷ []) → IsWithinPushed (own_view o') → own_pushed o ≡ own_pushed first
    → (length (own_view o').got ≡ length (own_view o).got + 1) × (length (own_view o').got ≤ length (own_pushed first))
drain-room o o' first x m within p =
    let b : length (own_view o').got ≡ length ((own_view o).got ++ x ∷ []) = ap (λ y. length y.got) m in
    let c = length-append (own_view o).got (x ∷ []) in
    let d = shorter (own_view o').got (own_pushed o') within in
    let e : length (own_pushed o') ≡ length (own_pushed first) = ap (λ y. length y.pushed) m ∙ ap length p in
    (omega arith, omega arith)

pub drain-counts : (o o' first : OwnDeque) (x : ℕ) (start left left' : List ℕ) → own_view o' ≡ with_got (own_view o) (x ∷ []) → left' ≡ left ++ x ∷ [] → ((t : ℕ) → times t left + own_got t first ≡ times t start + own_got t o)
    → (t : ℕ) → times t left' + own_got t first ≡ times t start + own_got t o'
drain-counts o o' first x start left left' m is h t =
    let a : own_got t o' ≡ times t ((own_view o).got ++ x ∷ []) = ap (λ y. times t y.got) m in
    let b = times-append t (own_view o).got (x ∷ []) in
    let c : times t left' ≡ times t (left ++ x ∷ []) = ap (times t) is in
    let d = times-append t left (x ∷ []) in
    let k = h t in
    omega arith

pub drain-ends : (o o' first : OwnDeque) (start left : List ℕ) → own_view o' ≡ own_view o → IsDrained (own_view o') → own_parts o ≡ own_parts first → own_pushed o ≡ own_pushed first
    → ((t : ℕ) → times t left + own_got t first ≡ times t start + own_got t o) → own_parts first ≡ all_parts → (t : ℕ) → times t left + own_got t first ≡ times t start + times t (own_pushed first)
drain-ends o o' first start left m e p q h all t =
    let a : own_parts o' ≡ own_parts o = ap (λ y. y.parts) m in
    let b = e.counts (a ∙ p ∙ all) t in
    let c : own_got t o' ≡ own_got t o = ap (λ y. times t y.got) m in
    let d : times t (own_pushed o') ≡ times t (own_pushed first) = ap (λ y. times t y.pushed) m ∙ ap (times t) q in
    let k = h t in
    omega arith

abbrev pub push_times : ℕ → OwnDeque → ℕ
push_times t o = times t (own_pushed o)

pub drained-enough : (rest rest' : List OwnDeque) (o : OwnDeque) → rest ≡ o ∷ rest' → all_parts * length rest ≤ sum_by own_parts rest → own_parts o ≤ all_parts → all_parts * length rest' ≤ sum_by own_parts rest'
drained-enough rest rest' o first enough most =
    let a : length rest ≡ suc (length rest') = ap length first in
    let b : sum_by own_parts rest ≡ own_parts o + sum_by own_parts rest' = ap (sum_by own_parts) first ∙ sum_by-cons own_parts o rest' in
    omega arith

pub drained-more : (all rest rest' : List OwnDeque) (o : OwnDeque) (start left left' : List ℕ) → rest ≡ o ∷ rest' → all_parts * length rest ≤ sum_by own_parts rest → own_parts o ≤ all_parts
    → (own_parts o ≡ all_parts → (t : ℕ) → times t left' + own_got t o ≡ times t left + times t (own_pushed o))
    → (sum_by own_parts rest ≡ all_parts * length rest → (t : ℕ) → times t left + (sum_by (own_got t) all + sum_by (push_times t) rest) ≡ times t start + (sum_by (push_times t) all + sum_by (own_got t) rest))
    → sum_by own_parts rest' ≡ all_parts * length rest' → (t : ℕ) → times t left' + (sum_by (own_got t) all + sum_by (push_times t) rest') ≡ times t start + (sum_by (push_times t) all + sum_by (own_got t) rest')
drained-more all rest rest' o start left left' first enough most step h full t =
    let a : length rest ≡ suc (length rest') = ap length first in
    let b : sum_by own_parts rest ≡ own_parts o + sum_by own_parts rest' = ap (sum_by own_parts) first ∙ sum_by-cons own_parts o rest' in
    let c = step (omega arith) t in
    let d = h (omega arith) t in
    let e : sum_by (push_times t) rest ≡ push_times t o + sum_by (push_times t) rest' = ap (sum_by (push_times t)) first ∙ sum_by-cons (push_times t) o rest' in
    let f : sum_by (own_got t) rest ≡ own_got t o + sum_by (own_got t) rest' = ap (sum_by (own_got t)) first ∙ sum_by-cons (own_got t) o rest' in
    omega arith
