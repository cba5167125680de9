-- What a comparison by numbers in turn comes from.
use Rattle.std.proofs.Common.{◌≡◌, ℕ, zero, suc, ◌<◌, ◌≤◌, ◌⊎◌, inl, inr, refl, arith, ap, sym, ◌∙◌, List, [], ◌∷◌, length}
use Rattle.std.proofs.lemmas.Bool.{cases_order}
use Rattle.std.specs.Prelude.{slice_index}
use Rattle.duct_definitions.specs.Order.{Earlier, LessOr}

-- a number that is at most another comes before it, or leaves the order to what follows
pub le_then : (m n : ℕ) (Same Then : Type 0) → m ≤ n → (m ≡ n → Same ⊎ Then) → Same ⊎ LessOr m n Then
le_then m n Same Then most next =
    elim (cases_order m n) [
      | inl equal ↦ elim (next equal) [ inl same ↦ inl same | inr after ↦ inr (inr (equal, after)) ]
      | inr apart ↦ elim apart [ inl less ↦ inr (inl less) | inr more ↦ absurd (omega arith) ]
    ]

agree_more : (x y : ℕ) (xs ys : List ℕ) (i : ℕ) → x ≡ y
    → ((j : ℕ) → j < i → slice_index xs j ≡ slice_index ys j)
    → (j : ℕ) → j < suc i → slice_index (x ∷ xs) j ≡ slice_index (y ∷ ys) j
agree_more x y xs ys i equal agree zero less = equal
agree_more x y xs ys i equal agree (suc j) less = agree j (omega arith)

-- where at the first difference the first list has the smaller number, the lists are one or the first is earlier
pub Earlier-from : (xs ys : List ℕ) → length xs ≡ length ys
    → ((i : ℕ) → i < length xs → ((j : ℕ) → j < i → slice_index xs j ≡ slice_index ys j)
    → slice_index xs i ≤ slice_index ys i)
    → (ys ≡ xs) ⊎ Earlier xs ys
Earlier-from [] [] same first = inl refl
Earlier-from [] (y ∷ ys) same first = absurd (omega arith)
Earlier-from (x ∷ xs) [] same first = absurd (omega arith)
Earlier-from (x ∷ xs) (y ∷ ys) same first =
    let head : x ≤ y = first 0 (omega arith) (λ j less. absurd (omega arith)) in
    elim (cases_order x y) [
      | inr apart ↦ elim apart [ inl less ↦ inr (inl less) | inr more ↦ absurd (omega arith) ]
      | inl equal ↦
          let rest : (i : ℕ) → i < length xs
          → ((j : ℕ) → j < i → slice_index xs j ≡ slice_index ys j) → slice_index xs i ≤ slice_index ys i =
          λ i less agree. first (suc i) (omega arith) (agree_more x y xs ys i equal agree) in
          elim (Earlier-from xs ys (omega arith) rest) [
            | inl tail ↦ inl (ap (λ z. z ∷ ys) (sym equal) ∙ ap (λ zs. x ∷ zs) tail)
            | inr before ↦ inr (inr (equal, before))
          ]
    ]
