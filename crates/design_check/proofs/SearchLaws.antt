-- What is known of a search's answer: the number that was found passes, and where none was found none does.
use Rattle.std.proofs.Common.{◌≡◌, ◌⊎◌, inl, inr, ℕ, zero, suc, ◌+◌, ◌<◌, ◌≤◌, Bool, true, false, cond, not, Option, Some, None, refl, sym, ap, subst, arith}
use Rattle.std.specs.List.{find, list_all, range_with_len}
use Rattle.std.proofs.Math.Nat.{eq-or-lt_of_le}
use Rattle.std.proofs.lemmas.Bool.{cases_Bool, and_parts}
use Rattle.std.proofs.lemmas.Option.{same_Some}
use Rattle.duct_definitions.specs.Tree.{section_count, sections}
use Rattle.duct_definitions.specs.Network.{Network}
use Rattle.design_check.specs.Named.{first_number}
use Rattle.design_check.specs.Verdicts.{first_failing}

-- the number that was found, of the n numbers from a on
record IsFound (test : ℕ → Bool) (a n i : ℕ) : Type 0 where
  low : a ≤ i
  high : i < a + n
  passes : test i ≡ true

split : {A : Type 0} (b : Bool) (x y z : A) → cond b x y ≡ z → ((b ≡ true) × (x ≡ z)) ⊎ ((b ≡ false) × (y ≡ z))
split true x y z e = inl (refl, e)
split false x y z e = inr (refl, e)

find_is : (test : ℕ → Bool) (a n i : ℕ) → find test (range_with_len a n) ≡ Some i → IsFound test a n i
find_is test a zero i e = absurd cc
find_is test a (suc n) i e =
    elim (split (test a) (Some a) (find test (range_with_len (a + 1) n)) (Some i) e) [
      | inl here ↦
          let same = same_Some a i here.1 in
          record { low = omega (arith, same); high = omega (arith, same); passes = subst (λ x. test x ≡ true) same here.0 }
      | inr later ↦
          let found = find_is test (a + 1) n i later.1 in
          record { low = omega (arith, found.low); high = omega (arith, found.high); passes = found.passes }
    ]

pub found_number : (test : ℕ → Bool) (n i : ℕ) → first_number test n ≡ Some i → (i < n) × (test i ≡ true)
found_number test n i e = let found = find_is test 0 n i e in (omega (arith, found.high), found.passes)

none_passes : (test : ℕ → Bool) (a n i : ℕ) → find test (range_with_len a n) ≡ None → a ≤ i → i < a + n → test i ≡ false
none_passes test a zero i e low high = absurd (omega (arith, low, high))
none_passes test a (suc n) i e low high =
    elim (split (test a) (Some a) (find test (range_with_len (a + 1) n)) None e) [
      | inl here ↦ absurd (let no : ◌≡◌ {A = Option ℕ} (Some a) None = here.1 in cc)
      | inr later ↦ elim (eq-or-lt_of_le low) [
        | inl same ↦ subst (λ x. test x ≡ false) same later.0
        | inr past ↦ none_passes test (a + 1) n i later.1 (omega (arith, past)) (omega (arith, high))
      ]
    ]

not_false : (b : Bool) → not b ≡ false → b ≡ true
not_false true e = refl
not_false false e = absurd cc

-- where no section fails, every one passes
pub every_section : (net : Network) (test : ℕ → Bool) → first_failing net test ≡ None → (s : ℕ) → s < section_count net.tree → test s ≡ true
every_section net test e s within = not_false (test s) (none_passes (λ x. not (test x)) 0 (section_count net.tree) s e (omega arith) (omega (arith, within)))

pub none_found : (test : ℕ → Bool) (n i : ℕ) → first_number test n ≡ None → i < n → test i ≡ false
none_found test n i e within = none_passes test 0 n i e (omega arith) (omega (arith, within))

-- where every number passes, the search finds none that fails
fails_nowhere : (test : ℕ → Bool) (a n : ℕ) → ((i : ℕ) → a ≤ i → i < a + n → test i ≡ true) → find (λ x. not (test x)) (range_with_len a n) ≡ None
fails_nowhere test a zero each = refl
fails_nowhere test a (suc n) each =
    rw (each a (omega arith) (omega arith)) (fails_nowhere test (a + 1) n (λ i low high. each i (omega (arith, low)) (omega (arith, high))))

pub no_section_fails : (net : Network) (test : ℕ → Bool) → ((s : ℕ) → s < section_count net.tree → test s ≡ true) → first_failing net test ≡ None
no_section_fails net test each = fails_nowhere test 0 (section_count net.tree) (λ i low high. each i (omega (arith, high)))

-- what holds of all numbers from a on
all_of : (test : ℕ → Bool) (a n i : ℕ) → list_all test (range_with_len a n) ≡ true → a ≤ i → i < a + n → test i ≡ true
all_of test a zero i e low high = absurd (omega (arith, low, high))
all_of test a (suc n) i e low high =
    let parts = and_parts (test a) (list_all test (range_with_len (a + 1) n)) e in
    elim (eq-or-lt_of_le low) [
      | inl same ↦ subst (λ x. test x ≡ true) same parts.0
      | inr past ↦ all_of test (a + 1) n i parts.1 (omega (arith, past)) (omega (arith, high))
    ]

pub all_sections : (net : Network) (test : ℕ → Bool) → list_all test (sections net.tree) ≡ true → (s : ℕ) → s < section_count net.tree → test s ≡ true
all_sections net test e s within = all_of test 0 (section_count net.tree) s e (omega arith) (omega (arith, within))

all_from : (test : ℕ → Bool) (a n : ℕ) → ((i : ℕ) → a ≤ i → i < a + n → test i ≡ true) → list_all test (range_with_len a n) ≡ true
all_from test a zero each = refl
all_from test a (suc n) each =
    rw (each a (omega arith) (omega arith)) (all_from test (a + 1) n (λ i low high. each i (omega (arith, low)) (omega (arith, high))))

pub sections_all : (net : Network) (test : ℕ → Bool) → ((s : ℕ) → s < section_count net.tree → test s ≡ true) → list_all test (sections net.tree) ≡ true
sections_all net test each = all_from test 0 (section_count net.tree) (λ i low high. each i (omega (arith, high)))

-- the only number that passes is the one that is found
find_only : (test : ℕ → Bool) (a n i : ℕ) → a ≤ i → i < a + n → test i ≡ true → ((k : ℕ) → k < i → test k ≡ false) → find test (range_with_len a n) ≡ Some i
find_only test a zero i low high passes others = absurd (omega (arith, low, high))
find_only test a (suc n) i low high passes others =
    elim (eq-or-lt_of_le low) [
      | inl same ↦ rw (subst (λ x. test x ≡ true) (sym same) passes) (ap (λ (x : ℕ). Some x) same)
      | inr past ↦ rw (others a past) (find_only test (a + 1) n i (omega (arith, past)) (omega (arith, high)) passes others)
    ]

other_fails : (test : ℕ → Bool) (i k : ℕ) → k < i → (test k ≡ true → k ≡ i) → test k ≡ false
other_fails test i k below only = elim (cases_Bool (test k)) [
  | inl passes ↦ absurd (let same = only passes in omega (arith, below, same))
  | inr fails ↦ fails
]

pub only_passing : (test : ℕ → Bool) (n i : ℕ) → i < n → test i ≡ true → ((k : ℕ) → k < n → test k ≡ true → k ≡ i) → first_number test n ≡ Some i
only_passing test n i within passes only =
    find_only test 0 n i (omega arith) (omega (arith, within)) passes (λ k below. other_fails test i k below (only k (omega (arith, below, within))))
