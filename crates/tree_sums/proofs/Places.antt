-- Equality of places, and tests that gate a number.
use Rattle.std.proofs.Common.{◌≡◌, ℕ, ◌+◌, Bool, true, false, refl, arith, ap, sym, ◌≢◌, inl, inr, ◌||◌}
use Rattle.std.proofs.lemmas.Bool.{false_from_ne_true}
use Rattle.std.proofs.lemmas.Bool.Decides.{nat_tests, eqb_tells}
use Rattle.tree_sums.specs.Route.{Place, Fan, At, same}
use Rattle.duct_units.proofs.SideLaws.{same_side-same, same_side-true, same_side-swap}
use Rattle.tree_sums.specs.Sums.{gated}

pub same-refl : (o : Place) → same o o ≡ true
same-refl (Fan x) = same_side-same x
same-refl (At s) = grind (arith, nat_tests)

pub same-true : (o u : Place) → same o u ≡ true → o ≡ u
same-true (Fan x) (Fan y) is = ap Fan (same_side-true x y is)
same-true (At s) (At t) is = elim (eqb_tells s t) [ inl equal ↦ ap At equal.1 | inr other ↦ cc ]
same-true (Fan x) (At t) is = cc
same-true (At s) (Fan y) is = cc

pub same-sym : (o u : Place) → same o u ≡ same u o
same-sym (Fan x) (Fan y) = same_side-swap x y
same-sym (At s) (At t) = grind (arith, nat_tests)
same-sym (Fan x) (At t) = refl
same-sym (At s) (Fan y) = refl

pub at-number : (s t : ℕ) → At s ≡ At t → s ≡ t
at-number s t is = cc

pub same-other : (s t : ℕ) → t ≢ s → same (At s) (At t) ≡ false
same-other s t other =
    false_from_ne_true (same (At s) (At t)) (λ is. other (sym (at-number s t (same-true (At s) (At t) is))))

pub or-false : (b : Bool) → (b || false) ≡ b
or-false true = refl
or-false false = refl

-- where the two tests are never both true
pub gated-or : (a b : Bool) (x : ℕ) → (a ≡ true → b ≡ true → ⊥) → gated (a || b) x ≡ gated a x + gated b x
gated-or true true x never = absurd (never refl refl)
gated-or true false x never = omega arith
gated-or false b x never = omega arith

pub gated-zero : (b : Bool) → gated b 0 ≡ 0
gated-zero true = refl
gated-zero false = refl

pub gated-add : (b : Bool) (x y : ℕ) → gated b (x + y) ≡ gated b x + gated b y
gated-add true x y = refl
gated-add false x y = refl

pub gated-cong : (b : Bool) (x y : ℕ) → (b ≡ true → x ≡ y) → gated b x ≡ gated b y
gated-cong true x y equal = equal refl
gated-cong false x y equal = refl
