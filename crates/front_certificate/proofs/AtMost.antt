-- Prices that are there wherever others are, and no higher.
use Rattle.std.proofs.Common.{◌≡◌, ℕ, ◌+◌, ◌≤◌, refl, arith, ap, ◌∙◌, Option, Some, None, List, [], ◌∷◌, inl, inr}
use Rattle.std.specs.Prelude.{IsSomeAnd}
use Rattle.std.proofs.lemmas.Option.{same_Some}
use Rattle.duct_units.specs.Prices.{both_of}
use Rattle.design_laws.proofs.Among.{Among}
use Rattle.least_laws.specs.Prices.{sum_of}

-- where the high price is there, the low one is, and no higher
abbrev pub AtMost : Option ℕ → Option ℕ → Type 0
AtMost low high = (v : ℕ) → high ≡ Some v → (u : ℕ) × (low ≡ Some u) × (u ≤ v)

pub some_and : (o : Option ℕ) (P : ℕ → Type 0) → IsSomeAnd o P → (u : ℕ) × (o ≡ Some u) × P u
some_and None P is = absurd is
some_and (Some u) P is = (u, refl, is)

pub both_of-at_most : (a b c d : Option ℕ) → AtMost a b → AtMost c d → AtMost (both_of a c) (both_of b d)
both_of-at_most a None c d one other v is = absurd (cc is)
both_of-at_most a (Some x) c None one other v is = absurd (cc is)
both_of-at_most a (Some x) c (Some y) one other v is =
    let first = one x refl in
    let second = other y refl in
    let same = same_Some (x + y) v is in
    let low = first.2 in
    let less = second.2 in (
      first.0 + second.0,
      ap (λ o. both_of o c) first.1 ∙ ap (λ o. both_of (Some first.0) o) second.1,
      omega arith,
    )

pub sum_of-at_most : (low high : ℕ → Option ℕ) (xs : List ℕ) → ((x : ℕ) → Among x xs → AtMost (low x) (high x))
    → AtMost (sum_of low xs) (sum_of high xs)
sum_of-at_most low high [] each v is = (v, is, omega arith)
sum_of-at_most low high (x ∷ xs) each v is =
    both_of-at_most (low x) (high x) (sum_of low xs) (sum_of high xs) (each x (inl refl))
    (sum_of-at_most low high xs (λ y later. each y (inr later))) v is
