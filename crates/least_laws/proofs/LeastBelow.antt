-- What the least of many prices says of each.
use Rattle.std.proofs.Common.{◌≡◌, ℕ, zero, suc, ◌<◌, ◌≤◌, min, refl, arith, ap, sym, ◌∙◌, inl, inr, subst, Option, Some, None}
use Rattle.std.proofs.lemmas.Option.{same_Some}
use Rattle.std.proofs.lemmas.Bool.Decides.{eqb_tells, leb_tells}
use Rattle.duct_units.specs.Prices.{lesser}
use Rattle.least_laws.specs.Prices.{least_below}

abbrev pub value : Option ℕ → ℕ
value None = 0
value (Some x) = x

-- v is the price at some number below n, and the least of these
pub record IsLeastBelow (h : ℕ → Option ℕ) (n v : ℕ) : Type 0 where
  pub at : ℕ
  pub below : at < n
  pub is : h at ≡ Some v
  pub least : (k y : ℕ) → k < n → h k ≡ Some y → v ≤ y

pub least_below-none : (h : ℕ → Option ℕ) (n : ℕ) → least_below h n ≡ None → (k : ℕ) → k < n → h k ≡ None
least_below-none h zero none k less = absurd (omega arith)
least_below-none h (suc n) none k less =
    elim (least_below h n) as (λ a. least_below h n ≡ a → lesser a (h n) ≡ None → h k ≡ None) [
      | None ↦ λ before last. elim (eqb_tells k n) [
        | inl same ↦ ap h same.1 ∙ last
        | inr other ↦ least_below-none h n before k (let differ = other.1 in omega arith)
      ]
      | Some x ↦ λ before last. elim (h n) as (λ d. lesser (Some x) d ≡ None → h k ≡ None) [
        | None ↦ λ is. absurd (cc is)
        | Some y ↦ λ is. absurd (cc is)
      ] last
    ] refl none

-- the least of one more price, where the one before is not there
least_below-first : (h : ℕ → Option ℕ) (n v : ℕ) → least_below h n ≡ None → h n ≡ Some v → IsLeastBelow h (suc n) v
least_below-first h n v none last = record {
  at = n;
  below = omega arith;
  is = last;
  least = λ k y less is. elim (eqb_tells k n) [
    | inl same ↦ let equal : v ≡ y = same_Some v y (sym last ∙ ap h (sym same.1) ∙ is) in omega arith
    | inr other ↦
        let no : None ≡ Some y = sym (least_below-none h n none k (let differ = other.1 in omega arith)) ∙ is in
        absurd (cc no)
  ];
}

-- the least so far stays, where the next price is not lower
least_below-kept : (h : ℕ → Option ℕ) (n v : ℕ) → IsLeastBelow h n v → ((y : ℕ) → h n ≡ Some y → v ≤ y)
    → IsLeastBelow h (suc n) v
least_below-kept h n v so_far more = record {
  at = so_far.at;
  below = (let less = so_far.below in omega arith);
  is = so_far.is;
  least = λ k y less is. elim (eqb_tells k n) [
    | inl same ↦ more y (ap h (sym same.1) ∙ is)
    | inr other ↦ so_far.least k y (let differ = other.1 in omega arith) is
  ];
}

-- the next price is the least, where it is lower
least_below-new : (h : ℕ → Option ℕ) (n v u : ℕ) → IsLeastBelow h n v → h n ≡ Some u → u ≤ v → IsLeastBelow h (suc n) u
least_below-new h n v u so_far last lower = record {
  at = n;
  below = omega arith;
  is = last;
  least = λ k y less is. elim (eqb_tells k n) [
    | inl same ↦ let equal : u ≡ y = same_Some u y (sym last ∙ ap h (sym same.1) ∙ is) in omega arith
    | inr other ↦ let least = so_far.least k y (let differ = other.1 in omega arith) is in omega arith
  ];
}

pub least_below-some : (h : ℕ → Option ℕ) (n v : ℕ) → least_below h n ≡ Some v → IsLeastBelow h n v
least_below-some h zero v some = absurd (cc some)
least_below-some h (suc n) v some =
    elim (least_below h n) as (λ a. least_below h n ≡ a → lesser a (h n) ≡ Some v → IsLeastBelow h (suc n) v) [
      | None ↦ λ before last. least_below-first h n v before last
      | Some x ↦ λ before last.
          let so_far = least_below-some h n x before in
          elim (h n) as (λ d. h n ≡ d → lesser (Some x) d ≡ Some v → IsLeastBelow h (suc n) v) [
            | None ↦ λ none is.
                subst (IsLeastBelow h (suc n)) (same_Some x v is)
                (least_below-kept h n x so_far (λ y at. let no : None ≡ Some y = sym none ∙ at in absurd (cc no)))
            | Some u ↦ λ at is.
                let least : min x u ≡ v = same_Some (min x u) v is in
                elim (leb_tells x u) [
                  | inl order ↦
                      let lower = order.1 in
                      subst (IsLeastBelow h (suc n)) (let equal : x ≡ v = omega arith in equal)
                      (least_below-kept h n x so_far
                      (λ y again. let equal : u ≡ y = same_Some u y (sym at ∙ again) in omega arith))
                  | inr order ↦
                      let higher = order.1 in
                      subst (IsLeastBelow h (suc n)) (let equal : u ≡ v = omega arith in equal)
                      (least_below-new h n x u so_far at (omega arith))
                ]
          ] refl last
    ] refl some
