-- One more section, counted with those of its size.
use Rattle.std.specs.Prelude.{◌+◌, List, [], ◌∷◌, if◌then◌else◌}
use Rattle.std.specs.Str.{bytes_eq}
use Rattle.material_takeoff.specs.declared.record.SizeUse.{SizeUse}
use Rattle.material_takeoff.specs.Uses.{Measured}

-- what one section takes of its size
abbrev pub section_use : Measured → SizeUse
section_use s = record { name = s.0.size; count = 1; length = s.1; price = s.0.price }

-- what two uses of one size take together
abbrev pub together : SizeUse → SizeUse → SizeUse
together u more = record {
  name = u.name;
  count = u.count + more.count;
  length = u.length + more.length;
  price = u.price + more.price;
}

-- one use more, with those of its size, or behind all where its size is new
abbrev pub with_use : List SizeUse → SizeUse → List SizeUse
with_use [] more = more ∷ []
with_use (u ∷ us) more = if bytes_eq u.name more.name then together u more ∷ us else u ∷ with_use us more
