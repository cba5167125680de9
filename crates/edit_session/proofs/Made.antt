-- Lists whose touched entries are made again, from the first on.
use Rattle.std.proofs.Common.{◌≡◌, ℕ, zero, suc, ◌+◌, ◌<◌, ◌≤◌, List, [], ◌∷◌, map, length, set, Bool, false, Some, slice_get, refl, ap, sym, ◌∙◌, inl, inr, arith}
use Rattle.std.specs.List.{range_with_len}
use Rattle.std.proofs.lemmas.Bool.{cases_eq}
use Rattle.std.proofs.lemmas.List.{length-set}
use Rattle.project_edit.proofs.Rows.{get-set-same, get-set-other}
use Rattle.edit_session.specs.Rebuilt.{AreMadeBut}

-- the entries before s are made, and so are those from s on that aren't touched
pub record AreMadeTo {X : Type 0} (make : ℕ → X) (touched : ℕ → Bool) (n s : ℕ) (things : List X) : Type 0 where
  pub count : length things ≡ n
  pub done : (k : ℕ) → k < s → slice_get things k ≡ Some (make k)
  pub rest : (k : ℕ) → s ≤ k → k < n → touched k ≡ false → slice_get things k ≡ Some (make k)

pub made-start : {X : Type 0} (make : ℕ → X) (touched : ℕ → Bool) (n : ℕ) (things : List X) → AreMadeBut make touched n things → AreMadeTo make touched n 0 things
made-start make touched n things are = record {
  count = are.count;
  done = λ k less. absurd (omega arith);
  rest = λ k from within off. are.each k within off;
}

pub made-kept : {X : Type 0} (make : ℕ → X) (touched : ℕ → Bool) (n s : ℕ) (things : List X) → s < n → touched s ≡ false → AreMadeTo make touched n s things → AreMadeTo make touched n (s + 1) things
made-kept make touched n s things within off are = record {
  count = are.count;
  done = λ k less. elim (cases_eq k s) [
    | inl same ↦ are.rest k (omega arith) (omega arith) (ap touched same ∙ off)
    | inr other ↦ are.done k (omega arith)
  ];
  rest = λ k from below away. are.rest k (omega arith) below away;
}

pub made-again : {X : Type 0} (make : ℕ → X) (touched : ℕ → Bool) (n s : ℕ) (things : List X) (x : X) → s < n → x ≡ make s → AreMadeTo make touched n s things → AreMadeTo make touched n (s + 1) (set things s x)
made-again make touched n s things x within is are = record {
  count = length-set things s x ∙ are.count;
  done = λ k less. elim (cases_eq k s) [
    | inl same ↦ ap (slice_get (set things s x)) same ∙ get-set-same things s x (let e = are.count in omega arith) ∙ ap (λ y. Some y) is ∙ ap (λ i. Some (make i)) (sym same)
    | inr other ↦ get-set-other things s k x other ∙ are.done k (omega arith)
  ];
  rest = λ k from below away. get-set-other things s k x (λ e. absurd (omega arith)) ∙ are.rest k (omega arith) below away;
}

listed : {X : Type 0} (make : ℕ → X) (a n : ℕ) (things : List X) → length things ≡ n → ((k : ℕ) → k < n → slice_get things k ≡ Some (make (a + k))) → things ≡ map make (range_with_len a n)
listed make a zero [] count each = refl
listed make a zero (x ∷ xs) count each = absurd (omega arith)
listed make a (suc n) [] count each = absurd (omega arith)
listed make a (suc n) (x ∷ xs) count each =
    (let at : Some x ≡ Some (make (a + 0)) = each 0 (omega arith) in
    let first : x ≡ make (a + 0) = cc in
    let here : make (a + 0) ≡ make a = ap make (omega arith) in
    ap (λ y. y ∷ xs) (first ∙ here)
    ∙ ap (λ ys. make a ∷ ys) (listed make (a + 1) n xs (omega arith) (λ k less. each (suc k) (omega arith) ∙ ap (λ i. Some (make i)) (let e : a + suc k ≡ a + 1 + k = omega arith in e))))

-- all are made
pub made-all : {X : Type 0} (make : ℕ → X) (touched : ℕ → Bool) (n s : ℕ) (things : List X) → n ≤ s → AreMadeTo make touched n s things → things ≡ map make (range_with_len 0 n)
made-all make touched n s things all are = listed make 0 n things are.count (λ k less. are.done k (omega arith) ∙ ap (λ i. Some (make i)) (let e : k ≡ 0 + k = omega arith in e))
