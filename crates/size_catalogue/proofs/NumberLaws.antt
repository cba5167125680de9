-- The numbers of the sizes of a list, in a catalogue that grows at its end.
use Rattle.std.proofs.Common.{◌≡◌, ℕ, zero, suc, ◌+◌, ◌*◌, ◌<◌, ◌≤◌, List, [], ◌∷◌, ◌++◌, length, Bool, true, false, cond, Some, slice_get, All, refl, sym, ap, ◌∙◌, add-zero, arith}
use Rattle.std.specs.Prelude.{◌==◌, nat_lt, if◌then◌else◌}
use Rattle.std.proofs.lemmas.List.Elements.{All-head, All-tail}
use Rattle.std.proofs.lemmas.Bool.Decides.{nat_tests}
use Rattle.size_catalogue.specs.declared.row.Size.{Size}
use Rattle.size_catalogue.specs.Numbers.{with_number}
use Rattle.size_catalogue.specs.Catalogue.{numbers_from, numbers_of}

with_number-cons : (of_list : Bool) (i : ℕ) (numbers : List ℕ) (n : ℕ) → i ∷ with_number of_list numbers n ≡ with_number of_list (i ∷ numbers) n
with_number-cons true i numbers n = refl
with_number-cons false i numbers n = refl

numbers_from-push : (j i : ℕ) (sizes : List Size) (last : Size) (n : ℕ) → n ≡ i + length sizes
    → numbers_from j i (sizes ++ last ∷ []) ≡ with_number (last.list == j) (numbers_from j i sizes) n
numbers_from-push j i [] last n e = ap (λ k. with_number (last.list == j) [] k) (sym (add-zero i) ∙ sym e)
numbers_from-push j i (size ∷ sizes) last n e =
    let later = numbers_from-push j (i + 1) sizes last n (omega arith) in
    elim (size.list == j) as (λ b. cond b (i ∷ numbers_from j (i + 1) (sizes ++ last ∷ [])) (numbers_from j (i + 1) (sizes ++ last ∷ [])) ≡ with_number (last.list == j) (cond b (i ∷ numbers_from j (i + 1) sizes) (numbers_from j (i + 1) sizes)) n) [
      | true ↦ ap (λ ns. i ∷ ns) later ∙ with_number-cons (last.list == j) i (numbers_from j (i + 1) sizes) n
      | false ↦ later
    ]

pub numbers_of-push : (j : ℕ) (sizes : List Size) (last : Size) → numbers_of j (sizes ++ last ∷ []) ≡ with_number (last.list == j) (numbers_of j sizes) (length sizes)
numbers_of-push j sizes last = numbers_from-push j 0 sizes last (length sizes) (omega arith)

-- a number is one of the catalogue
below_step : (b : Bool) (i n k : ℕ) (later : List ℕ) (m : ℕ) → ((q : ℕ) → slice_get later q ≡ Some n → n < m) → i < m → slice_get (cond b (i ∷ later) later) k ≡ Some n → n < m
below_step true i n zero later m more less e = let same : i ≡ n = cc in omega arith
below_step true i n (suc k) later m more less e = more k e
below_step false i n k later m more less e = more k e

numbers_from-below : (j i : ℕ) (sizes : List Size) (k n : ℕ) → slice_get (numbers_from j i sizes) k ≡ Some n → n < i + length sizes
numbers_from-below j i [] k n e = cc
numbers_from-below j i (size ∷ sizes) k n e =
    below_step (size.list == j) i n k (numbers_from j (i + 1) sizes) (i + length (size ∷ sizes)) (λ q at. omega (arith, numbers_from-below j (i + 1) sizes q n at)) (omega arith) e

pub numbers_of-below : (j : ℕ) (sizes : List Size) (k n : ℕ) → slice_get (numbers_of j sizes) k ≡ Some n → n < length sizes
numbers_of-below j sizes k n e = omega (arith, numbers_from-below j 0 sizes k n e)

-- ---- how many sizes there are in all lists

-- the sizes of the lists below n
abbrev pub count_below : ℕ → List Size → ℕ
count_below n [] = 0
count_below n (size ∷ sizes) = (if nat_lt size.list n then 1 else 0) + count_below n sizes

length-numbers : (b : Bool) (i : ℕ) (later : List ℕ) → length (cond b (i ∷ later) later) ≡ cond b 1 0 + length later
length-numbers true i later = omega arith
length-numbers false i later = omega arith

one_list : (list n : ℕ) → (if nat_lt list (suc n) then 1 else 0) ≡ (if nat_lt list n then 1 else 0) + (if list == n then 1 else 0)
one_list list n = grind (arith, nat_tests)

count_below-suc : (n i : ℕ) (sizes : List Size) → count_below (suc n) sizes ≡ count_below n sizes + length (numbers_from n i sizes)
count_below-suc n i [] = refl
count_below-suc n i (size ∷ sizes) =
    omega (arith, one_list size.list n, count_below-suc n (i + 1) sizes, length-numbers (size.list == n) i (numbers_from n (i + 1) sizes))

none_below : (list : ℕ) → ◌≡◌ {A = ℕ} (if nat_lt list 0 then 1 else 0) 0
none_below list = grind (arith, nat_tests)

count_below-zero : (sizes : List Size) → count_below zero sizes ≡ 0
count_below-zero [] = refl
count_below-zero (size ∷ sizes) = omega (arith, none_below size.list, count_below-zero sizes)

count_below-most : (n most : ℕ) (sizes : List Size) → ((j : ℕ) → length (numbers_of j sizes) ≤ most) → count_below n sizes ≤ most * n
count_below-most zero most sizes each = omega (arith, count_below-zero sizes)
count_below-most (suc n) most sizes each = omega (arith, count_below-suc n 0 sizes, count_below-most n most sizes each, each n)

one_there : (list n : ℕ) → list < n → ◌≡◌ {A = ℕ} (if nat_lt list n then 1 else 0) 1
one_there list n less = grind (arith, nat_tests)

count_below-all : (n : ℕ) (sizes : List Size) → All (λ size. size.list < n) sizes → count_below n sizes ≡ length sizes
count_below-all n [] all = refl
count_below-all n (size ∷ sizes) all =
    omega (arith, one_there size.list n (All-head (λ size. size.list < n) size sizes all), count_below-all n sizes (All-tail (λ size. size.list < n) size sizes all))

-- with so many lists at most, each of so many sizes at most
pub few_sizes : (n most : ℕ) (sizes : List Size) → All (λ size. size.list < n) sizes → ((j : ℕ) → length (numbers_of j sizes) ≤ most) → length sizes ≤ most * n
few_sizes n most sizes all each = omega (arith, count_below-all n sizes all, count_below-most n most sizes each)
