-- What stands in a list after one more.
use Rattle.std.proofs.Common.{◌≡◌, ℕ, ◌+◌, List, [], ◌∷◌, ◌++◌, Bool, true, false, cond, refl, ap, sym, ◌∙◌, arith, inl, inr, subst}
use Rattle.std.proofs.lemmas.Bool.{eq-eqb, ne_eqb, cases_eq, or_right}
use Rattle.std.proofs.lemmas.List.Folds.{list_any-append}
use Rattle.std.proofs.lemmas.List.Sums.{sum_by-cons}
use Rattle.std.specs.Prelude.{◌==◌, ◌||◌, ◌&&◌, not, count_by, length}
use Rattle.std.specs.List.{list_all}
use Rattle.schedule_core.specs.Schedule.{is_in}

or-false : (b : Bool) → (b || false) ≡ b
or-false true = refl
or-false false = refl

-- what stands in a list with one more at its end
pub is_in-push : (xs : List ℕ) (s x : ℕ) → is_in (xs ++ s ∷ []) x ≡ (is_in xs x || (x == s))
is_in-push xs s x =
    list_any-append (λ y. x == y) xs (s ∷ []) ∙ ap (λ b. is_in xs x || b) (or-false (x == s))

pub is_in-last : (xs : List ℕ) (s : ℕ) → is_in (xs ++ s ∷ []) s ≡ true
is_in-last xs s = is_in-push xs s s ∙ or_right (is_in xs s) (s == s) (eq-eqb s s refl)

pub is_in-other : (xs : List ℕ) (s x : ℕ) → (x ≡ s → ⊥) → is_in (xs ++ s ∷ []) x ≡ is_in xs x
is_in-other xs s x differs =
    is_in-push xs s x ∙ ap (λ b. is_in xs x || b) (ne_eqb x s differs) ∙ or-false (is_in xs x)

-- what stands there stood there before, or is the last
pub in-push : (P : ℕ → Type 0) (xs : List ℕ) (s : ℕ) → ((x : ℕ) → is_in xs x ≡ true → P x) → P s
    → (x : ℕ) → is_in (xs ++ s ∷ []) x ≡ true → P x
in-push P xs s before last x is =
    elim (cases_eq x s) [
      | inl same ↦ subst P (sym same) last
      | inr differs ↦ before x (sym (is_in-other xs s x differs) ∙ is)
    ]

-- one more that is done is one less that isn't, wherever it stands among these
pub not_in-push : (done : List ℕ) (s : ℕ) (xs : List ℕ) → is_in done s ≡ false
    → count_by (λ c. not (is_in (done ++ s ∷ []) c)) xs + count_by (λ c. c == s) xs ≡ count_by (λ c. not (is_in done c)) xs
not_in-push done s [] new = refl
not_in-push done s (x ∷ xs) new =
    let rest = not_in-push done s xs new in
    let after = sum_by-cons (λ c. cond (not (is_in (done ++ s ∷ []) c)) 1 0) x xs in
    let here = sum_by-cons (λ c. cond (c == s) 1 0) x xs in
    let before = sum_by-cons (λ c. cond (not (is_in done c)) 1 0) x xs in
    let first : cond {A = ℕ} (not (is_in (done ++ s ∷ []) x)) 1 0 + cond (x == s) 1 0 ≡ cond (not (is_in done x)) 1 0 =
    elim (cases_eq x s) [
      | inl same ↦
          let one : cond {A = ℕ} (not (is_in (done ++ s ∷ []) x)) 1 0 ≡ 0 =
          ap (λ y. cond (not (is_in (done ++ s ∷ []) y)) 1 0) same ∙ ap (λ b. cond (not b) 1 0) (is_in-last done s) in
          let two : cond {A = ℕ} (x == s) 1 0 ≡ 1 = ap (λ b. cond b 1 0) (eq-eqb x s same) in
          let three : cond {A = ℕ} (not (is_in done x)) 1 0 ≡ 1 =
          ap (λ y. cond (not (is_in done y)) 1 0) same ∙ ap (λ b. cond (not b) 1 0) new in
          omega arith
      | inr differs ↦
          let one : cond {A = ℕ} (not (is_in (done ++ s ∷ []) x)) 1 0 ≡ cond (not (is_in done x)) 1 0 =
          ap (λ b. cond (not b) 1 0) (is_in-other done s x differs) in
          let two : cond {A = ℕ} (x == s) 1 0 ≡ 0 = ap (λ b. cond b 1 0) (ne_eqb x s differs) in
          omega arith
    ] in
    omega arith

-- none is counted exactly where all pass
pub none_counted : (p : ℕ → Bool) (xs : List ℕ) → (count_by (λ x. not (p x)) xs == 0) ≡ list_all p xs
none_counted p [] = refl
none_counted p (x ∷ xs) =
    let rest = none_counted p xs in
    let all = sum_by-cons (λ y. cond (not (p y)) 1 0) x xs in
    ap (λ n. n == 0) all
    ∙ elim (p x) as (λ b. (cond (not b) 1 0 + count_by (λ y. not (p y)) xs == 0) ≡ (b && list_all p xs)) [
      | true ↦ ap (λ n. n == 0) (let same : 0 + count_by (λ y. not (p y)) xs ≡ count_by (λ y. not (p y)) xs = omega arith in same) ∙ rest
      | false ↦ ne_eqb (1 + count_by (λ y. not (p y)) xs) 0 (λ is. omega arith)
    ]

-- all are counted where none is in the list
pub all_counted : (xs : List ℕ) → count_by (λ x. true) xs ≡ length xs
all_counted [] = refl
all_counted (x ∷ xs) = sum_by-cons (λ y. 1) x xs ∙ ap (λ n. 1 + n) (all_counted xs) ∙ omega arith
