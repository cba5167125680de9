-- The first cheapest of many offers.
use Rattle.std.proofs.Common.{◌≡◌, ℕ, zero, suc, ◌+◌, ◌<◌, ◌≤◌, Option, Some, None, refl, ap, sym, ◌∙◌, subst, arith, inl, inr, add-one}
use Rattle.std.proofs.lemmas.Bool.{cases_lt}
use Rattle.std.proofs.lemmas.Bool.Decides.{eqb_tells, nat_tests}
use Rattle.std.proofs.lemmas.Option.{none-some, same_Some}
use Rattle.fan_choice.specs.FirstCheapest.{cheaper, first_cheapest}

-- it is offered below n, none there is cheaper, and each before it is more expensive
pub record IsFirstCheapest {X : Type 0} (price : X → ℕ) (offer : ℕ → Option X) (n : ℕ) (best : X) : Type 0 where
  pub at : ℕ
  pub below : at < n
  pub is : offer at ≡ Some best
  pub least : (k : ℕ) → k < n → (x : X) → offer k ≡ Some x → price best ≤ price x
  pub first : (k : ℕ) → k < at → (x : X) → offer k ≡ Some x → price best < price x

-- what holds below n and at n
below_next : (P : ℕ → Type 0) (n : ℕ) → ((k : ℕ) → k < n → P k) → P n → (k : ℕ) → k < suc n → P k
below_next P n before here k below = elim (eqb_tells k n) [
  | inl same ↦ subst P (sym same.1) here
  | inr other ↦ (let differ = other.1 in before k (omega arith))
]

module _ {X : Type 0} (price : X → ℕ) where
  cheaper-taken : (best next : X) → price next < price best → cheaper price (Some best) (Some next) ≡ Some next
  cheaper-taken best next less = grind (arith, nat_tests)

  cheaper-kept : (best next : X) → price best ≤ price next → cheaper price (Some best) (Some next) ≡ Some best
  cheaper-kept best next more = grind (arith, nat_tests)

  cheaper-none : (best : Option X) → cheaper price best None ≡ best
  cheaper-none None = refl
  cheaper-none (Some best) = refl

  -- where the cheaper of two isn't there neither is
  pub both-none : (best next : Option X) → cheaper price best next ≡ None → (best ≡ None) × (next ≡ None)
  both-none None next none = (refl, none)
  both-none (Some best) None none = absurd (cc)
  both-none (Some best) (Some next) none = elim (cases_lt (price next) (price best)) [
    | inl less ↦ absurd (none-some next (sym none ∙ cheaper-taken best next less))
    | inr more ↦ absurd (none-some best (sym none ∙ cheaper-kept best next more))
  ]

  -- what the cheaper of two has to be shown of: the first and no greater, or the second and less
  pub cheaper-cases : (P : X → Type 0) (best next : Option X) (x : X) → cheaper price best next ≡ Some x
      → ((b : X) → best ≡ Some b → ((y : X) → next ≡ Some y → price b ≤ price y) → P b)
      → ((y : X) → next ≡ Some y → ((b : X) → best ≡ Some b → price y < price b) → P y)
      → P x
  cheaper-cases P None next x is kept taken = taken x is (λ b here. absurd (none-some b here))
  cheaper-cases P (Some best) None x is kept taken =
      subst P (same_Some best x is) (kept best refl (λ y here. absurd (none-some y here)))
  cheaper-cases P (Some best) (Some next) x is kept taken = elim (cases_lt (price next) (price best)) [
    | inl less ↦
        subst P (same_Some next x (sym (cheaper-taken best next less) ∙ is))
        (taken next refl (λ b here. subst (λ d. price next < price d) (same_Some best b here) less))
    | inr more ↦
        subst P (same_Some best x (sym (cheaper-kept best next more) ∙ is))
        (kept best refl (λ y here. subst (λ d. price best ≤ price d) (same_Some next y here) more))
  ]

  module _ (offer : ℕ → Option X) where
    pub first_cheapest-more : (n : ℕ)
        → first_cheapest price offer (n + 1) ≡ cheaper price (first_cheapest price offer n) (offer n)
    first_cheapest-more n = rw add-one refl

    pub first_cheapest-none : (n : ℕ) → first_cheapest price offer n ≡ None → (k : ℕ) → k < n → offer k ≡ None
    first_cheapest-none zero none k below = absurd (omega arith)
    first_cheapest-none (suc n) none k below =
        let both = both-none (first_cheapest price offer n) (offer n) none in
        below_next (λ k. offer k ≡ None) n (first_cheapest-none n both.0) both.1 k below

    kept : (n : ℕ) (best : X) → IsFirstCheapest price offer n best
        → ((y : X) → offer n ≡ Some y → price best ≤ price y)
        → IsFirstCheapest price offer (suc n) best
    kept n best so_far more = record {
      at = so_far.at;
      below = (let less = so_far.below in omega arith);
      is = so_far.is;
      least = below_next (λ k. (x : X) → offer k ≡ Some x → price best ≤ price x) n so_far.least more;
      first = so_far.first;
    }

    -- the last is taken where each before it is more expensive
    taken : (n : ℕ) (next : X) → offer n ≡ Some next
        → ((k : ℕ) → k < n → (x : X) → offer k ≡ Some x → price next < price x)
        → IsFirstCheapest price offer (suc n) next
    taken n next last less = record {
      at = n;
      below = omega arith;
      is = last;
      least = below_next (λ k. (x : X) → offer k ≡ Some x → price next ≤ price x) n
          (λ k below x is. (let low = less k below x is in omega arith))
          (λ x is. subst (λ y. price next ≤ price y) (same_Some next x (sym last ∙ is)) (omega arith));
      first = less;
    }

    -- where so far nothing is cheaper than what is less than the best so far
    all_less : (n : ℕ) (cost : ℕ) → ((b : X) → first_cheapest price offer n ≡ Some b → IsFirstCheapest price offer
        n b)
        → ((b : X) → first_cheapest price offer n ≡ Some b → cost < price b)
        → (k : ℕ) → k < n → (x : X) → offer k ≡ Some x → cost < price x
    all_less n cost so_far less k below x is = go (first_cheapest price offer n) refl where
      go : (o : Option X) → first_cheapest price offer n ≡ o → cost < price x
      go None none = absurd (none-some x (sym (first_cheapest-none n none k below) ∙ is))
      go (Some b) here =
          let low = (so_far b here).least k below x is in
          let under = less b here in
          omega arith

    pub first_cheapest-some : (n : ℕ) (best : X) → first_cheapest price offer n ≡ Some best
        → IsFirstCheapest price offer n best
    first_cheapest-some zero best is = absurd (none-some best is)
    first_cheapest-some (suc n) best is =
        cheaper-cases (IsFirstCheapest price offer (suc n)) (first_cheapest price offer n) (offer n) best is
        (λ b here more. kept n b (first_cheapest-some n b here) more)
        (λ y last less. taken n y last (all_less n (price y) (first_cheapest-some n) less))

    -- offers alike have one first cheapest
    pub first_cheapest-alike : (other : ℕ → Option X) (n : ℕ) → ((k : ℕ) → k < n → offer k ≡ other k)
        → first_cheapest price offer n ≡ first_cheapest price other n
    first_cheapest-alike other zero alike = refl
    first_cheapest-alike other (suc n) alike =
        ap (λ best. cheaper price best (offer n)) (first_cheapest-alike other n (λ k below. alike k (omega arith)))
        ∙ ap (cheaper price (first_cheapest price other n)) (alike n (omega arith))

    -- places without an offer at the end change nothing
    pub first_cheapest-end : (m n : ℕ) → m ≤ n → ((k : ℕ) → m ≤ k → offer k ≡ None)
        → first_cheapest price offer n ≡ first_cheapest price offer m
    first_cheapest-end m zero few none = let same : zero ≡ m = omega arith in ap (first_cheapest price offer) same
    first_cheapest-end m (suc n) few none = elim (eqb_tells m (suc n)) [
      | inl same ↦ ap (first_cheapest price offer) (sym same.1)
      | inr other ↦
          (let differ = other.1 in
          let before : m ≤ n = omega arith in
          ap (cheaper price (first_cheapest price offer n)) (none n before)
          ∙ cheaper-none (first_cheapest price offer n)
          ∙ first_cheapest-end m n before none)
    ]
