-- The fans with the look-up of their names.
use Rattle.std.specs.Prelude.{◌≡◌}
use Rattle.fan_points.specs.declared.fans.Fans.TheInside.{Inside}
use Rattle.fan_points.specs.Fans.{IsFans, names_of}

-- the names are those of the fans, which meet their limits and bounds
pub record IsIndexed (fans : Inside) : Type 0 where
  pub names : fans.names ≡ names_of fans.fans.items
  pub is : IsFans fans.fans.items
