-- The sum of the prices in a list: one more price, one more list, and how great it can be.
use Rattle.std.proofs.Common.{◌≡◌, ℕ, zero, suc, ◌+◌, refl, arith, ap, sym, ◌∙◌, cond, true, false, Option, List, [], ◌∷◌, ◌++◌, ◌*◌, ◌<◌, ◌≤◌, inl, inr, subst, length, take, get_or}
use Rattle.std.specs.Prelude.{filter, IfSome}
use Rattle.std.specs.List.{range_with_len}
use Rattle.tree_sums.specs.Route.{Place, same}
use Rattle.duct_units.specs.Prices.{lesser, both_of}
use Rattle.least_laws.specs.Prices.{least_below, sum_of}
use Rattle.least_laws.proofs.Ducts.{joined}
use Rattle.duct_definitions.proofs.SectionLists.{chosen-suc}
use Rattle.design_laws.proofs.Among.{Among}
use Rattle.least_laws.proofs.PriceLaws.{both_of-zero, zero-both_of, both_of-again, both_of-le}
use Rattle.std.proofs.lemmas.List.{take_more}

pub sum_of-append : (price : ℕ → Option ℕ) (xs ys : List ℕ)
    → sum_of price (xs ++ ys) ≡ both_of (sum_of price xs) (sum_of price ys)
sum_of-append price [] ys = sym (zero-both_of (sum_of price ys))
sum_of-append price (x ∷ xs) ys =
    ap (both_of (price x)) (sum_of-append price xs ys)
    ∙ sym (both_of-again (price x) (sum_of price xs) (sum_of price ys))

-- one price more at the end, as a loop adds it
pub sum_of-last : (price : ℕ → Option ℕ) (xs : List ℕ) (x : ℕ)
    → sum_of price (xs ++ x ∷ []) ≡ both_of (sum_of price xs) (price x)
sum_of-last price xs x = sum_of-append price xs (x ∷ []) ∙ ap (both_of (sum_of price xs)) (both_of-zero (price x))

-- one number more, as a loop counts it
pub least_below-next : (price : ℕ → Option ℕ) (n : ℕ)
    → least_below price (n + 1) ≡ lesser (least_below price n) (price n)
least_below-next price n = ap (least_below price) (let same : n + 1 ≡ suc n = omega arith in same)

-- the sum over the sections next to a place, as a list
pub joined-sum_of : (next : ℕ → Place) (o : Place) (price : ℕ → Option ℕ) (n : ℕ)
    → joined next o price n ≡ sum_of price (filter (λ c. same (next c) o) (range_with_len 0 n))
joined-sum_of next o price zero = refl
joined-sum_of next o price (suc n) =
    let so_far : List ℕ = filter (λ c. same (next c) o) (range_with_len 0 n) in
    let last : cond (same (next n) o) (both_of (joined next o price n) (price n)) (joined next o price n)
    ≡ sum_of price (so_far ++ cond (same (next n) o) (n ∷ []) []) =
    elim (same (next n) o) as
    (λ b. cond b (both_of (joined next o price n) (price n)) (joined next o price n)
    ≡ sum_of price (so_far ++ cond b (n ∷ []) [])) [
      | true ↦ ap (λ z. both_of z (price n)) (joined-sum_of next o price n) ∙ sym (sum_of-last price so_far n)
      | false ↦ joined-sum_of next o price n
          ∙ sym (sum_of-append price so_far [] ∙ both_of-zero (sum_of price so_far))
    ] in
    last ∙ sym (ap (sum_of price) (chosen-suc (λ c. same (next c) o) n))

-- the sum of one more price of a list, as a loop adds it
pub sum_of-take_get_or : (price : ℕ → Option ℕ) (xs : List ℕ) (i d : ℕ) → i < length xs
    → sum_of price (take (i + 1) xs) ≡ both_of (sum_of price (take i xs)) (price (get_or xs i d))
sum_of-take_get_or price xs i d within =
    ap (sum_of price) (take_more xs i d within) ∙ sum_of-last price (take i xs) (get_or xs i d)

-- a sum of prices of which each is at most m
pub sum_of-le : (price : ℕ → Option ℕ) (m : ℕ) (xs : List ℕ) → ((x : ℕ) → Among x xs → IfSome (price x) (λ v. v ≤ m))
    → IfSome (sum_of price xs) (λ v. v ≤ length xs * m)
sum_of-le price m [] each = omega arith
sum_of-le price m (x ∷ xs) each =
    let both : IfSome (sum_of price (x ∷ xs)) (λ v. v ≤ m + length xs * m) =
    both_of-le (price x) (sum_of price xs) m (length xs * m) (each x (inl refl))
    (sum_of-le price m xs (λ y later. each y (inr later))) in
    let same : m + length xs * m ≡ length (x ∷ xs) * m = omega arith in
    subst (λ n. IfSome (sum_of price (x ∷ xs)) (λ v. v ≤ n)) same both
