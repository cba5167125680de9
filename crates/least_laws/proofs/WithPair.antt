-- What the price of a pair and of the rest is made of.
use Rattle.std.proofs.Common.{◌≡◌, ℕ, ◌+◌, ◌-◌, ◌≤◌, refl, arith, ap, sym, ◌∙◌, cond, inl, inr, Option, Some, None}
use Rattle.std.proofs.lemmas.Option.{same_Some}
use Rattle.std.proofs.lemmas.Bool.Decides.{leb_tells}
use Rattle.duct_definitions.specs.declared.design.Pair.{Pair}
use Rattle.duct_units.specs.Prices.{both_of}
use Rattle.least_laws.specs.Prices.{with_pair}

pub with_pair-is : (o : Option Pair) (p : Pair) (b : ℕ) (rest : ℕ → Option ℕ) → o ≡ Some p → p.loss ≤ b
    → with_pair o b rest ≡ both_of (Some p.price) (rest (b - p.loss))
with_pair-is o p b rest is within =
    ap (λ z. with_pair z b rest) is
    ∙ elim (leb_tells p.loss b) [
      | inl yes_less ↦ ap (λ test. cond test (both_of (Some p.price) (rest (b - p.loss))) None) yes_less.0
      | inr more ↦ let above = more.1 in absurd (omega arith)
    ]

-- v is made of the price of a pair within b, and the price u of the rest
pub record IsMade (o : Option Pair) (b v : ℕ) (rest : ℕ → Option ℕ) : Type 0 where
  pub p : Pair
  pub u : ℕ
  pub pair : o ≡ Some p
  pub fits : p.loss ≤ b
  pub rest_is : rest (b - p.loss) ≡ Some u
  pub sum : p.price + u ≡ v

pub made : (o : Option Pair) (b v : ℕ) (rest : ℕ → Option ℕ) → with_pair o b rest ≡ Some v → IsMade o b v rest
made None b v rest is = absurd (cc is)
made (Some p) b v rest is =
    let whole : Option ℕ = both_of (Some p.price) (rest (b - p.loss)) in
    elim (leb_tells p.loss b) [
      | inl less ↦
          let both : whole ≡ Some v = ap (λ test. cond test whole None) (sym less.0) ∙ is in
          elim (rest (b - p.loss)) as
          (λ o. rest (b - p.loss) ≡ o → both_of (Some p.price) o ≡ Some v → IsMade (Some p) b v rest) [
            | None ↦ λ at no_sum. absurd (cc no_sum)
            | Some u ↦ λ at sum_is.
                record {
                  p = p;
                  u = u;
                  pair = refl;
                  fits = less.1;
                  rest_is = at;
                  sum = same_Some (p.price + u) v sum_is;
                }
          ] refl both
      | inr more ↦
          let nothing : None ≡ Some v = ap (λ test. cond test whole None) (sym more.0) ∙ is in absurd (cc nothing)
    ]
