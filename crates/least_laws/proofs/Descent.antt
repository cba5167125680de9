-- The descent that takes the first size with the least price gives the first of all sizings with the least price.
use Rattle.std.proofs.Common.{◌≡◌, ℕ, zero, suc, ◌+◌, ◌-◌, ◌<◌, ◌≤◌, refl, arith, ap, sym, ◌∙◌, inl, inr, subst, Option}
use Rattle.std.proofs.lemmas.Bool.Decides.{leb_tells}
use Rattle.duct_units.specs.declared.side.Side.{Side}
use Rattle.duct_definitions.specs.Designs.{loss_of}
use Rattle.tree_sums.specs.Route.{Place, Fan, At, Falls}
use Rattle.tree_sums.proofs.Climb.{climb}
use Rattle.least_laws.proofs.Ducts.{Ducts, size_at, chosen, loss, AreLeastSums}
use Rattle.least_laws.proofs.Optimal.{IsOptimal, AttainsSum, optimal-divides, optimal-joins}

-- left is what the sections towards the fan leave of the side's budget
pub record IsLeft (net : Ducts) (budget : Side → ℕ) (f left : ℕ → ℕ) : Type 0 where
  pub fan : (t : ℕ) (x : Side) → t < net.count → net.next t ≡ Fan x → left t ≡ budget x
  pub more : (t p : ℕ) → t < net.count → net.next t ≡ At p → left t ≡ left p - loss net f p

-- each section takes the first size that attains its least
pub record TakesFirst (net : Ducts) (leasts : ℕ → ℕ → ℕ → Option ℕ) (left f : ℕ → ℕ) : Type 0 where
  pub attains : (t : ℕ) → t < net.count → AttainsSum net leasts t (size_at f (net.next t)) (left t) (f t)
  pub first : (t k : ℕ) → t < net.count → k < f t → AttainsSum net leasts t (size_at f (net.next t)) (left t) k → ⊥

-- f costs the least from each section at the fan on, within the side's budget
abbrev pub IsBestSizing : Ducts → (Side → ℕ) → (ℕ → ℕ) → Type 0
IsBestSizing net budget f = (x : Side) (r : ℕ) → r < net.count → net.next r ≡ Fan x → IsOptimal net r 0 (budget x) f

module _ (net : Ducts) (falls : Falls net.next) (leasts : ℕ → ℕ → ℕ → Option ℕ)
    (known : (s : ℕ) → s < net.count → AreLeastSums net s leasts) (budget : Side → ℕ) where
  beside-fan : (f : ℕ → ℕ) (t : ℕ) (x : Side) → net.next t ≡ Fan x → size_at f (net.next t) ≡ 0
  beside-fan f t x is = ap (size_at f) is

  -- taking sizes that attain the least costs the least from each section on
  attaining-optimal : (f left : ℕ → ℕ) → IsLeft net budget f left
      → ((t : ℕ) → t < net.count → AttainsSum net leasts t (size_at f (net.next t)) (left t) (f t))
      → (k t : ℕ) → t < net.count → net.count ≤ t + k → IsOptimal net t (size_at f (net.next t)) (left t) f
  attaining-optimal f left remains attains zero t within enough = absurd (omega arith)
  attaining-optimal f left remains attains (suc k) t within enough =
      optimal-joins net falls leasts t within (known t within) (size_at f (net.next t)) (left t) (beside-fan f t) f refl
      (record {
        attains = attains t within;
        child = λ c less child.
            let before = falls c t child in
            let optimal = attaining-optimal f left remains attains k c less (omega arith) in
            subst (λ g. IsOptimal net c g (left t - loss net f t) f) (ap (size_at f) child)
            (subst (λ r. IsOptimal net c (size_at f (net.next c)) r f) (remains.more c t less child) optimal);
      })

  pub first-best : (f left : ℕ → ℕ) → IsLeft net budget f left → TakesFirst net leasts left f
      → IsBestSizing net budget f
  first-best f left remains takes x r less root =
      subst (λ g. IsOptimal net r g (budget x) f) (beside-fan f r x root)
      (subst (λ b. IsOptimal net r (size_at f (net.next r)) b f) (remains.fan r x less root)
      (attaining-optimal f left remains takes.attains net.count r less (omega arith)))

  -- a sizing that costs the least does so from each section on
  best-everywhere : (f left : ℕ → ℕ) → IsLeft net budget f left → IsBestSizing net budget f
      → (t : ℕ) → t < net.count → IsOptimal net t (size_at f (net.next t)) (left t) f
  best-everywhere f left remains best =
      climb net.next falls (λ t. t < net.count → IsOptimal net t (size_at f (net.next t)) (left t) f)
      (λ t x is within.
      subst (λ g. IsOptimal net t g (left t) f) (sym (beside-fan f t x is))
      (subst (λ r. IsOptimal net t 0 r f) (sym (remains.fan t x within is)) (best x t within is)))
      (λ t p is rest within.
      let before = falls t p is in
      let inside : p < net.count = omega arith in
      let divided = optimal-divides net falls leasts p inside (known p inside) (size_at f (net.next p)) (left p)
      (beside-fan f p) f (rest inside) in
      subst (λ g. IsOptimal net t g (left t) f) (sym (ap (size_at f) is))
      (subst (λ r. IsOptimal net t (f p) r f) (sym (remains.more t p within is)) (divided.child t within is)))

  -- two sizings that agree below t have the same size next to t, and leave as much
  same-beside : (f g : ℕ → ℕ) (t : ℕ) → ((u : ℕ) → u < t → f u ≡ g u)
      → (o : Place) → net.next t ≡ o → size_at f o ≡ size_at g o
  same-beside f g t agree (Fan x) is = refl
  same-beside f g t agree (At p) is = agree p (falls t p is)

  same-left : (f g left rest : ℕ → ℕ) → IsLeft net budget f left → IsLeft net budget g rest
      → (t : ℕ) → t < net.count → ((u : ℕ) → u < t → f u ≡ g u) → left t ≡ rest t
  same-left f g left rest one other =
      climb net.next falls (λ t. t < net.count → ((u : ℕ) → u < t → f u ≡ g u) → left t ≡ rest t)
      (λ t x is within agree. one.fan t x within is ∙ sym (other.fan t x within is))
      (λ t p is before within agree.
      let less = falls t p is in
      let below : (u : ℕ) → u < p → f u ≡ g u = λ u under. agree u (omega arith) in
      let same_chosen : chosen net f p ≡ chosen net g p =
      ap (λ k. net.pair p k (size_at f (net.next p))) (agree p less)
      ∙ ap (λ z. net.pair p (g p) z) (same-beside f g p below (net.next p) refl) in
      one.more t p within is
      ∙ ap (λ r. r - loss net f p) (before (omega arith) below)
      ∙ ap (λ o. rest p - loss_of o) same_chosen
      ∙ sym (other.more t p within is))

  -- where another sizing with the least price differs first, it has the greater size
  pub descent-first : (f g left rest : ℕ → ℕ) → IsLeft net budget f left → IsLeft net budget g rest
      → TakesFirst net leasts left f → IsBestSizing net budget g
      → (t : ℕ) → t < net.count → ((u : ℕ) → u < t → f u ≡ g u) → f t ≤ g t
  descent-first f g left rest one other takes best t within agree =
      elim (leb_tells (f t) (g t)) [
        | inl less ↦ less.1
        | inr more ↦
            let optimal = best-everywhere g rest other best t within in
            let divided = optimal-divides net falls leasts t within (known t within) (size_at g (net.next t)) (rest t)
            (beside-fan g t) g optimal in
            let beside = same-beside f g t agree (net.next t) refl in
            let as_much = same-left f g left rest one other t within agree in
            absurd (takes.first t (g t) within more.1
            (subst (λ z. AttainsSum net leasts t z (left t) (g t)) (sym beside)
            (subst (λ r. AttainsSum net leasts t (size_at g (net.next t)) r (g t)) (sym as_much) divided.attains)))
      ]
