-- Lists over the numbers from 0 on, as a loop makes them.
use Rattle.std.proofs.Common.{◌≡◌, ℕ, suc, ◌+◌, ◌≤◌, List, [], ◌∷◌, ◌++◌, length, map, filter, count_by, sum_by, Bool, true, false, cond, length-append, ap, ◌∙◌, arith}
use Rattle.std.specs.List.{range_with_len, flat_map}
use Rattle.std.proofs.lemmas.List.{append-nil}
use Rattle.std.proofs.lemmas.List.Concat.{flat_map-append}
use Rattle.std.proofs.lemmas.List.Elements.{filter-append}
use Rattle.std.proofs.lemmas.List.FromFn.{map-range_with_len_more, length-range_with_len}
use Rattle.std.proofs.lemmas.List.Sums.{sum_by_push, length-filter, count_by-le-length}
use Rattle.std.proofs.lemmas.Grind.{common_steps}
use Rattle.duct_definitions.proofs.SectionLists.{range-push}

-- one number more
range_more : (k : ℕ) → range_with_len 0 (k + 1) ≡ range_with_len 0 k ++ k ∷ []
range_more k = next (k + 1) (suc k) (omega arith) ∙ range-push 0 k ∙ last (0 + k) k (omega arith)
  where
    next : (a b : ℕ) → a ≡ b → range_with_len 0 a ≡ range_with_len 0 b
    next a b e = ap (range_with_len 0) e

    last : (a b : ℕ) → a ≡ b → range_with_len 0 k ++ a ∷ [] ≡ range_with_len 0 k ++ b ∷ []
    last a b e = ap (λ n. range_with_len 0 k ++ n ∷ []) e

pub map_more : {X : Type 0} (f : ℕ → X) (k : ℕ) → map f (range_with_len 0 (k + 1)) ≡ map f (range_with_len 0 k) ++ f k ∷ []
map_more f k = map-range_with_len_more f 0 k k (omega arith)

pub flat_more : {X : Type 0} (f : ℕ → List X) (k : ℕ) → flat_map f (range_with_len 0 (k + 1)) ≡ flat_map f (range_with_len 0 k) ++ f k
flat_more f k =
    ap (flat_map f) (range_more k)
    ∙ flat_map-append f (range_with_len 0 k) (k ∷ [])
    ∙ ap (λ xs. flat_map f (range_with_len 0 k) ++ xs) (append-nil (f k))

pub sum_more : (f : ℕ → ℕ) (k : ℕ) → sum_by f (range_with_len 0 (k + 1)) ≡ sum_by f (range_with_len 0 k) + f k
sum_more f k = ap (sum_by f) (range_more k) ∙ sum_by_push f (range_with_len 0 k) k

count_one : (p : ℕ → Bool) (k n : ℕ) → cond (p k) 1 0 ≡ n → length (filter p (k ∷ [])) ≡ n
count_one p k n e = grind (arith, common_steps)

count_push : (p : ℕ → Bool) (xs : List ℕ) (k n : ℕ) → cond (p k) 1 0 ≡ n → count_by p (xs ++ k ∷ []) ≡ count_by p xs + n
count_push p xs k n e =
    let parts : length (filter p (xs ++ k ∷ [])) ≡ length (filter p xs) + length (filter p (k ∷ [])) =
    ap length (filter-append p xs (k ∷ [])) ∙ length-append (filter p xs) (filter p (k ∷ [])) in
    omega (arith, parts, count_one p k n e, length-filter p (xs ++ k ∷ []), length-filter p xs)

pub count_more_yes : (p : ℕ → Bool) (k : ℕ) → p k ≡ true → count_by p (range_with_len 0 (k + 1)) ≡ count_by p (range_with_len 0 k) + 1
count_more_yes p k e = ap (count_by p) (range_more k) ∙ count_push p (range_with_len 0 k) k 1 (ap (λ b. cond b 1 0) e)

pub count_more_no : (p : ℕ → Bool) (k : ℕ) → p k ≡ false → count_by p (range_with_len 0 (k + 1)) ≡ count_by p (range_with_len 0 k)
count_more_no p k e = (let more = count_push p (range_with_len 0 k) k 0 (ap (λ b. cond b 1 0) e) in ap (count_by p) (range_more k) ∙ more ∙ omega arith)

pub count_few : (p : ℕ → Bool) (k : ℕ) → count_by p (range_with_len 0 k) ≤ k
count_few p k = omega (arith, count_by-le-length p (range_with_len 0 k), length-range_with_len 0 k)
