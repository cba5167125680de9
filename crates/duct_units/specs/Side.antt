-- The two sides of the fan.
use Rattle.std.specs.Prelude.{Bool, true, false}
use Rattle.duct_units.specs.declared.side.Side.{Side}
use Rattle.duct_units.specs.declared.side.Side.TheVariants.{Supply, Return}

-- both are supply, or both are return
abbrev pub same_side : Side → Side → Bool
same_side Supply Supply = true
same_side Return Return = true
same_side a b = false
