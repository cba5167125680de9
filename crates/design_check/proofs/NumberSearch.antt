-- The first number that passes, looked for from 0 on.
use Rattle.std.proofs.Common.{◌≡◌, ℕ, suc, ◌+◌, ◌-◌, ◌<◌, ◌≤◌, Bool, true, false, Some, None, refl, sym, ap, ◌∙◌, arith}
use Rattle.std.specs.List.{find, list_all, range_with_len}
use Rattle.design_check.specs.Named.{first_number}

-- none of the numbers below i passes
abbrev pub NotBelow : (ℕ → Bool) → ℕ → ℕ → Type 0
NotBelow test n i = first_number test n ≡ find test (range_with_len i (n - i))

pub none_below : (test : ℕ → Bool) (n : ℕ) → NotBelow test n 0
none_below test n = ap (λ (k : ℕ). find test (range_with_len 0 k)) (let e : n ≡ n - 0 = omega arith in e)

pub not_here : (test : ℕ → Bool) (n i : ℕ) → i < n → test i ≡ false → NotBelow test n i → NotBelow test n (i + 1)
not_here test n i within fails so_far =
    let k : n - i ≡ suc (n - (i + 1)) = omega arith in
    so_far ∙ rw (k, fails) refl

pub first_here : (test : ℕ → Bool) (n i : ℕ) → i < n → test i ≡ true → NotBelow test n i → Some i ≡ first_number test n
first_here test n i within passes so_far =
    let k : n - i ≡ suc (n - (i + 1)) = omega arith in
    let here : find test (range_with_len i (n - i)) ≡ Some i = rw (k, passes) refl in
    sym here ∙ sym so_far

pub none_at_all : (test : ℕ → Bool) (n i : ℕ) → n ≤ i → NotBelow test n i → None ≡ first_number test n
none_at_all test n i past so_far =
    let k : n - i ≡ 0 = omega arith in
    let none : find test (range_with_len i (n - i)) ≡ None = rw k refl in
    sym none ∙ sym so_far

-- each of the numbers below i passes
abbrev pub AllBelow : (ℕ → Bool) → ℕ → ℕ → Type 0
AllBelow test n i = list_all test (range_with_len 0 n) ≡ list_all test (range_with_len i (n - i))

pub passes_here : (test : ℕ → Bool) (n i : ℕ) → i < n → test i ≡ true → AllBelow test n i → AllBelow test n (i + 1)
passes_here test n i within passes so_far =
    let k : n - i ≡ suc (n - (i + 1)) = omega arith in
    so_far ∙ rw (k, passes) refl

pub fails_here : (test : ℕ → Bool) (n i : ℕ) → i < n → test i ≡ false → AllBelow test n i → false ≡ list_all test (range_with_len 0 n)
fails_here test n i within fails so_far =
    let k : n - i ≡ suc (n - (i + 1)) = omega arith in
    let here : list_all test (range_with_len i (n - i)) ≡ false = rw (k, fails) refl in
    sym here ∙ sym so_far

pub all_pass : (test : ℕ → Bool) (n i : ℕ) → n ≤ i → AllBelow test n i → true ≡ list_all test (range_with_len 0 n)
all_pass test n i past so_far =
    let k : n - i ≡ 0 = omega arith in
    let none : list_all test (range_with_len i (n - i)) ≡ true = rw k refl in
    sym none ∙ sym so_far
