-- Sums over the numbers below a bound.
use Rattle.std.proofs.Common.{◌≡◌, ℕ, zero, suc, ◌+◌, ◌<◌, ◌≤◌, Bool, true, false, refl, arith, ap, sym, ◌∙◌, ◌≢◌, inl, inr}
use Rattle.std.proofs.lemmas.Bool.Decides.{eqb_tells}
use Rattle.tree_sums.specs.Sums.{total, gated}

pub total-cong : (f g : ℕ → ℕ) (n : ℕ) → ((t : ℕ) → t < n → f t ≡ g t) → total f n ≡ total g n
total-cong f g zero equal = refl
total-cong f g (suc n) equal =
    let before = total-cong f g n (λ t less. equal t (omega arith)) in
    let last : f n ≡ g n = equal n (omega arith) in
    omega arith

pub total-add : (f g : ℕ → ℕ) (n : ℕ) → total (λ t. f t + g t) n ≡ total f n + total g n
total-add f g zero = refl
total-add f g (suc n) = let before = total-add f g n in omega arith

pub total-zero : (n : ℕ) → total (λ t. 0) n ≡ 0
total-zero zero = refl
total-zero (suc n) = let before = total-zero n in omega arith

pub total-none : (f : ℕ → ℕ) (n : ℕ) → ((t : ℕ) → t < n → f t ≡ 0) → total f n ≡ 0
total-none f n none = total-cong f (λ _. 0) n none ∙ total-zero n

pub total-swap : (f : ℕ → ℕ → ℕ) (m n : ℕ) → total (λ t. total (λ c. f t c) n) m ≡ total (λ c. total (λ t. f t c) m) n
total-swap f zero n = sym (total-zero n)
total-swap f (suc m) n =
    let before = total-swap f m n in
    let split = total-add (λ c. total (λ t. f t c) m) (λ c. f m c) n in
    omega arith

pub gated-total : (b : Bool) (f : ℕ → ℕ) (n : ℕ) → total (λ t. gated b (f t)) n ≡ gated b (total f n)
gated-total true f n = refl
gated-total false f n = total-zero n

pub total-le : (f g : ℕ → ℕ) (n : ℕ) → ((t : ℕ) → t < n → f t ≤ g t) → total f n ≤ total g n
total-le f g zero below = omega arith
total-le f g (suc n) below =
    let before = total-le f g n (λ t less. below t (omega arith)) in
    let last : f n ≤ g n = below n (omega arith) in
    omega arith

-- only the term at k counts
pub total-one : (f : ℕ → ℕ) (k n : ℕ) → k < n → ((t : ℕ) → t < n → t ≢ k → f t ≡ 0) → total f n ≡ f k
total-one f k zero within none = absurd (omega arith)
total-one f k (suc n) within none =
    elim (eqb_tells n k) [
      | inl last ↦
          let here = last.1 in
          let rest : total f n ≡ 0 = total-none f n (λ t less. none t (omega arith) (omega arith)) in
          let same : f n ≡ f k = ap f here in
          omega arith
      | inr other ↦
          let apart = other.1 in
          let rest : total f n ≡ f k = total-one f k n (omega arith) (λ t less. none t (omega arith)) in
          let nothing : f n ≡ 0 = none n (omega arith) apart in
          omega arith
    ]

-- where each term is at most the other's, and their sum is at least the others', the terms are equal
pub total-tight : (f g : ℕ → ℕ) (n : ℕ) → ((t : ℕ) → t < n → f t ≤ g t) → total g n ≤ total f n
    → (t : ℕ) → t < n → f t ≡ g t
total-tight f g zero below tight t less = absurd (omega arith)
total-tight f g (suc n) below tight t less =
    let all = total-le f g n (λ u under. below u (omega arith)) in
    let last : f n ≤ g n = below n (omega arith) in
    elim (eqb_tells t n) [
      | inl equal ↦ ap f equal.1 ∙ (let same : f n ≡ g n = omega arith in same) ∙ ap g (sym equal.1)
      | inr other ↦
          let differ = other.1 in
          total-tight f g n (λ u under. below u (omega arith)) (omega arith) t (omega arith)
    ]
