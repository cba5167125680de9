-- The test of two sides: it holds of each side and itself alone, and is the same the other way round.
use Rattle.std.proofs.Common.{◌≡◌, true, refl}
use Rattle.duct_units.specs.declared.side.Side.{Side}
use Rattle.duct_units.specs.declared.side.Side.TheVariants.{Supply, Return}
use Rattle.duct_units.specs.Side.{same_side}

pub same_side-same : (x : Side) → same_side x x ≡ true
same_side-same Supply = refl
same_side-same Return = refl

pub same_side-true : (x y : Side) → same_side x y ≡ true → x ≡ y
same_side-true Supply Supply is = refl
same_side-true Return Return is = refl
same_side-true Supply Return is = cc
same_side-true Return Supply is = cc

pub same_side-swap : (x y : Side) → same_side x y ≡ same_side y x
same_side-swap Supply Supply = refl
same_side-swap Supply Return = refl
same_side-swap Return Supply = refl
same_side-swap Return Return = refl
