-- The shares of the tasks.
use Rattle.std.proofs.Common.{◌≡◌, ℕ, zero, suc, ◌+◌, ◌<◌, ◌≤◌, ◌≢◌, List, [], ◌∷◌, ◌++◌, length, get_or, drop, append_assoc, add-one, refl, ap, sym, ◌∙◌, arith, inl, inr, ◌%◌, ◌==◌, true, false, Bool}
use Rattle.std.proofs.Math.Seq.{drop-cons}
use Rattle.std.proofs.lemmas.List.Sums.{sum_by-cons}
use Rattle.std.proofs.lemmas.Bool.Decides.{eqb_tells}
use Rattle.std.specs.List.{sum_by}
use mathlib.Core.Option.{some}
use lib.ListN.{get_elem?}
use Rattle.steal_pool.specs.Rule.{times}
use Rattle.steal_pool.specs.Hands.{Fixed, HandView}
use Rattle.steal_pool.specs.Deals.{AreShares, kept, share_from, share_of}
use Rattle.steal_pool.proofs.Sums.{once, times-cons}

share-head : (tasks : List ℕ) (p n i : ℕ) → p < length tasks → share_from p n i (drop p tasks) ≡ kept (p % n == i) (get_or tasks p 0) (share_from (p + 1) n i (drop (p + 1) tasks))
share-head tasks p n i l = ap (share_from p n i) (drop-cons tasks p 0 l) ∙ ap (λ k. kept (p % n == i) (get_or tasks p 0) (share_from (p + 1) n i (drop k tasks))) (sym (add-one p))

pub share-yes : (share tasks all : List ℕ) (p n i : ℕ) → p < length tasks → p % n ≡ i → share ++ share_from p n i (drop p tasks) ≡ all
    → (share ++ get_or tasks p 0 ∷ []) ++ share_from (p + 1) n i (drop (p + 1) tasks) ≡ all
share-yes share tasks all p n i l is h =
    let rest = share_from (p + 1) n i (drop (p + 1) tasks) in
    let x = get_or tasks p 0 in
    elim (eqb_tells (p % n) i) [
      | inl q ↦ append_assoc share (x ∷ []) rest ∙ ap (λ l. share ++ l) (sym (share-head tasks p n i l ∙ ap (λ b. kept b x rest) q.0)) ∙ h
      | inr q ↦ absurd (q.1 is)
    ]

pub share-no : (share tasks all : List ℕ) (p n i : ℕ) → p < length tasks → p % n ≢ i → share ++ share_from p n i (drop p tasks) ≡ all
    → share ++ share_from (p + 1) n i (drop (p + 1) tasks) ≡ all
share-no share tasks all p n i l other h =
    let rest = share_from (p + 1) n i (drop (p + 1) tasks) in
    let x = get_or tasks p 0 in
    elim (eqb_tells (p % n) i) [
      | inl q ↦ absurd (other q.1)
      | inr q ↦ ap (λ l. share ++ l) (sym (share-head tasks p n i l ∙ ap (λ b. kept b x rest) q.0)) ∙ h
    ]

-- the sum of g over the n numbers from k on
pub below : (ℕ → ℕ) → ℕ → ℕ → ℕ
below g k zero = 0
below g k (suc n) = g k + below g (suc k) n

below-list : {A : Type 0} (f : A → ℕ) (g : ℕ → ℕ) (k : ℕ) (xs : List A) → ((i : ℕ) (a : A) → get_elem? xs i ≡ some a → f a ≡ g (k + i)) → sum_by f xs ≡ below g k (length xs)
unfolding below
below-list f g k [] h = refl
below-list f g k (x ∷ xs) h =
    let a : f x ≡ g k = h 0 x refl ∙ ap g (let z : k + 0 ≡ k = omega arith in z) in
    let b = below-list f g (suc k) xs (λ i y e. h (suc i) y e ∙ ap g (let z : k + suc i ≡ suc k + i = omega arith in z)) in
    let c = sum_by-cons f x xs in
    omega arith

below-add : (f g h : ℕ → ℕ) (k n : ℕ) → ((i : ℕ) → h i ≡ f i + g i) → below h k n ≡ below f k n + below g k n
unfolding below
below-add f g h k zero s = refl
below-add f g h k (suc n) s = let a = s k in let b = below-add f g h (suc k) n s in omega arith

below-none : (g : ℕ → ℕ) (k n : ℕ) → ((i : ℕ) → g i ≡ 0) → below g k n ≡ 0
unfolding below
below-none g k zero z = refl
below-none g k (suc n) z = let a = z k in let b = below-none g (suc k) n z in omega arith

abbrev gate : Bool → ℕ → ℕ
gate true x = x
gate false x = 0

below-past : (m c k n : ℕ) → m < k → below (λ i. gate (m == i) c) k n ≡ 0
unfolding below
below-past m c k zero l = refl
below-past m c k (suc n) l = elim (eqb_tells m k) [
  | inl p ↦ (let q = p.1 in absurd (omega arith))
  | inr p ↦ (let a : gate (m == k) c ≡ 0 = ap (λ b. gate b c) p.0 in let b = below-past m c (suc k) n (omega arith) in omega arith)
]

below-one : (m c k n : ℕ) → k ≤ m → m < k + n → below (λ i. gate (m == i) c) k n ≡ c
unfolding below
below-one m c k zero l r = absurd (omega arith)
below-one m c k (suc n) l r = elim (eqb_tells m k) [
  | inl p ↦ (let q = p.1 in let a : gate (m == k) c ≡ c = ap (λ b. gate b c) p.0 in let b = below-past m c (suc k) n (omega arith) in omega arith)
  | inr p ↦ (let q = p.1 in let a : gate (m == k) c ≡ 0 = ap (λ b. gate b c) p.0 in let b = below-one m c (suc k) n (omega arith) (omega arith) in omega arith)
]

kept-times : (t x : ℕ) (b : Bool) (xs : List ℕ) → times t (kept b x xs) ≡ gate b (once (x == t)) + times t xs
kept-times t x true xs = times-cons t x xs
kept-times t x false xs = omega arith

-- the shares together have each number as often as the tasks
pub shares-add : (t n p : ℕ) (tasks : List ℕ) → 0 < n → below (λ i. times t (share_from p n i tasks)) 0 n ≡ times t tasks
shares-add t n p [] l = below-none (λ i. times t (share_from p n i [])) 0 n (λ i. refl)
shares-add t n p (x ∷ xs) l =
    let m = p % n in
    let a = below-add (λ i. gate (m == i) (once (x == t))) (λ i. times t (share_from (p + 1) n i xs)) (λ i. times t (share_from p n i (x ∷ xs))) 0 n (λ i. kept-times t x (m == i) (share_from (p + 1) n i xs)) in
    let b = below-one m (once (x == t)) 0 n (omega arith) (let z : p % n < n = omega arith in omega arith) in
    let c = shares-add t n (p + 1) xs l in
    let d = times-cons t x xs in
    omega arith

pub fixeds-add : (t : ℕ) (tasks : List ℕ) (fixeds : List Fixed) → 0 < length fixeds → AreShares tasks fixeds → sum_by (λ p. times t p.share) fixeds ≡ times t tasks
fixeds-add t tasks fixeds l shares = below-list (λ (p : Fixed). times t p.share) (λ i. times t (share_of tasks (length fixeds) i)) 0 fixeds (λ i p e. ap (times t) (shares i p e ∙ ap (share_of tasks (length fixeds)) (let z : i ≡ 0 + i = omega arith in z))) ∙ shares-add t (length fixeds) 0 tasks l

pub shares-once : (t : ℕ) (tasks : List ℕ) (n : ℕ) (hands : List HandView) → length hands ≡ n → 0 < n
    → ((i : ℕ) (h : HandView) → get_elem? hands i ≡ some h → h.fixed.share ≡ share_of tasks n i)
    → sum_by (λ (h : HandView). times t h.fixed.share) hands ≡ times t tasks
shares-once t tasks n hands count some_hand shares =
    let a = below-list (λ (h : HandView). times t h.fixed.share) (λ i. times t (share_of tasks n i)) 0 hands
    (λ i h e. ap (times t) (shares i h e ∙ ap (share_of tasks n) (let z : i ≡ 0 + i = omega arith in z))) in
    a ∙ ap (below (λ i. times t (share_of tasks n i)) 0) count ∙ shares-add t n 0 tasks some_hand
