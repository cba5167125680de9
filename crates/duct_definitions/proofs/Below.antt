-- A test of every number below a bound.
use Rattle.std.proofs.Common.{◌≡◌, ℕ, zero, suc, ◌<◌, Bool, true, ◌&&◌, refl, inl, inr, subst, sym, arith}
use Rattle.std.proofs.lemmas.Bool.{and_parts, and_from, cases_eq}
use Rattle.std.specs.Prelude.{IsTrue}

abbrev pub all_below : ℕ → (ℕ → Bool) → Bool
all_below zero test = true
all_below (suc n) test = test n && all_below n test

pub all_below-holds : (n : ℕ) (test : ℕ → Bool) → all_below n test ≡ true → (k : ℕ) → k < n → test k ≡ true
all_below-holds zero test all k within = absurd (omega arith)
all_below-holds (suc n) test all k within =
    let parts = and_parts (test n) (all_below n test) all in
    elim (cases_eq k n) [
      | inl same ↦ subst (λ m. test m ≡ true) (sym same) parts.0
      | inr other ↦ all_below-holds n test parts.1 k (omega arith)
    ]

pub all_below-from : (n : ℕ) (test : ℕ → Bool) → ((k : ℕ) → k < n → IsTrue (test k)) → all_below n test ≡ true
all_below-from zero test each = refl
all_below-from (suc n) test each =
    and_from (test n) (all_below n test) (each n (omega arith))
    (all_below-from n test (λ k within. each k (omega arith)))
