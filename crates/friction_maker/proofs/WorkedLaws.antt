-- Rates worked by hand.
use Rattle.std.proofs.Common.{◌≡◌, ℕ, ◌+◌, ◌<◌, pos, sym, ap, subst, arith}
use Rattle.std.specs.Int.{div_ceil}
use Rattle.std.proofs.lemmas.Int.{ints}
use Rattle.duct_units.specs.Ceiling.{IsCeiling}
use Rattle.duct_units.proofs.CeilingLaws.{is_ceiling, ceiling_alone}
use Rattle.friction_maker.specs.declared.air.Duct.{Duct}
use Rattle.friction_maker.specs.declared.air.Air.{Air}
use Rattle.friction_maker.specs.Rate.{IsEnough, IsRoot, IsMadeRate, HasRate, corrected, rate_num, rate_den}
use Rattle.friction_maker.proofs.RootLaws.{IsShort, root_is, root_alone}

-- a root is the only one, and so is its rate
pub has_rate : (duct : Duct) (air : Air) (flow root f rate : ℕ) → root ≡ f + 1 → IsEnough duct air flow root → IsShort duct air flow f → 0 < rate_den duct
    → rate ≡ div_ceil (rate_num (corrected root) air flow) (rate_den duct) → HasRate duct air flow root rate
has_rate duct air flow root f rate next enough short wide is = (
  (λ g. ((λ other. root_alone duct air flow g root other here), (λ same. subst (IsRoot duct air flow) (sym same) here))),
  (λ n. (only n, (λ same. subst (IsMadeRate duct air flow) (sym same) made))),
)
  where
    here : IsRoot duct air flow root
    here = root_is duct air flow root f next enough short

    made : IsMadeRate duct air flow rate
    made = record { root = root; is_root = here; is_rate = is_ceiling _ _ (pos rate) (omega (arith, ints, wide)) (ap (λ (k : ℕ). pos k) is) }

    only : (n : ℕ) → IsMadeRate duct air flow n → n ≡ rate
    only n other =
        let same : other.root ≡ root = root_alone duct air flow other.root root other.is_root here in
        let ceiling : IsCeiling (pos (rate_num (corrected root) air flow)) (pos (rate_den duct)) (pos n) =
        subst (λ (r : ℕ). IsCeiling (pos (rate_num (corrected r) air flow)) (pos (rate_den duct)) (pos n)) same other.is_rate in
        let one = ceiling_alone _ (pos (rate_den duct)) (pos n) (omega (arith, ints, wide)) ceiling in
        omega (arith, ints, is, one)
