-- The place of a section is the number of sections of its side that stand before it.
use Rattle.std.proofs.Common.{◌≡◌, ℕ, zero, suc, ◌+◌, ◌-◌, ◌/◌, count_by, Bool, true, false, inl, inr, refl, ap, sym, ◌∙◌, arith}
use Rattle.std.specs.Prelude.{if◌then◌else◌}
use Rattle.std.specs.List.{range_with_len}
use Rattle.std.proofs.lemmas.Bool.{cases_Bool}
use Rattle.std.proofs.lemmas.Bool.Decides.{nat_tests}
use Rattle.duct_units.specs.declared.side.Side.{Side}
use Rattle.duct_units.specs.declared.side.Side.TheVariants.{Supply, Return}
use Rattle.duct_units.specs.Side.{same_side}
use Rattle.duct_load.specs.Made.{is_return, side_of, place_of}
use Rattle.duct_load.proofs.RangeLaws.{count_more_yes, count_more_no}

-- how many sections of the side are among the first i
among : Side → ℕ → ℕ
among x i = count_by (λ k. same_side (side_of k) x) (range_with_len 0 i)

on_side : (x : Side) (b : Bool) (i : ℕ) → is_return i ≡ b → same_side (side_of i) x ≡ same_side (if b then Return else Supply) x
on_side x b i e = ap (λ c. same_side (if c then Return else Supply) x) e

next : (x : Side) (i : ℕ) → among x (suc i) ≡ among x (i + 1)
unfolding among
next x i = (let e : suc i ≡ i + 1 = omega arith in ap (λ (n : ℕ). count_by (λ k. same_side (side_of k) x) (range_with_len 0 n)) e)

one_more : (x : Side) (i : ℕ) → same_side (side_of i) x ≡ true → among x (suc i) ≡ among x i + 1
unfolding among
one_more x i e = next x i ∙ count_more_yes (λ k. same_side (side_of k) x) i e

no_more : (x : Side) (i : ℕ) → same_side (side_of i) x ≡ false → among x (suc i) ≡ among x i
unfolding among
no_more x i e = next x i ∙ count_more_no (λ k. same_side (side_of k) x) i e

returns_before : (i : ℕ) → among Return i ≡ i / 3
unfolding among
returns_before zero = refl
returns_before (suc i) =
    let before = returns_before i in
    elim (cases_Bool (is_return i)) [
      | inl back ↦ (let more = one_more Return i (on_side Return true i back) in grind (arith, nat_tests))
      | inr front ↦ (let same = no_more Return i (on_side Return false i front) in grind (arith, nat_tests))
    ]

supplies_before : (i : ℕ) → among Supply i ≡ i - i / 3
unfolding among
supplies_before zero = refl
supplies_before (suc i) =
    let before = supplies_before i in
    elim (cases_Bool (is_return i)) [
      | inl back ↦ (let same = no_more Supply i (on_side Supply true i back) in grind (arith, nat_tests))
      | inr front ↦ (let more = one_more Supply i (on_side Supply false i front) in grind (arith, nat_tests))
    ]

pub place_counts : (i : ℕ) → place_of i ≡ count_by (λ k. same_side (side_of k) (side_of i)) (range_with_len 0 i)
unfolding among
place_counts i =
    elim (cases_Bool (is_return i)) [
      | inl back ↦ ap (λ b. if b then i / 3 else i - i / 3) back ∙ sym (returns_before i) ∙ ap (λ b. among (if b then Return else Supply) i) (sym back)
      | inr front ↦ ap (λ b. if b then i / 3 else i - i / 3) front ∙ sym (supplies_before i) ∙ ap (λ b. among (if b then Return else Supply) i) (sym front)
    ]
