-- The design that a text names.
--   first_number test n   the first number below n that passes, or none
--   line_at l s           what the text says of section s
--   size_named, fan_named the number of the size, or of the fan, that has this name
--   named net l           the design of these names
use Rattle.std.specs.Prelude.{ℕ, List, [], Bool, length, map, Option, Some, None, slice_get, unwrap_or}
use Rattle.std.specs.List.{find, range_with_len}
use Rattle.std.specs.Str.{bytes_eq}
use Rattle.duct_definitions.specs.declared.design.Design.{Design}
use Rattle.duct_definitions.specs.declared.design.NetFan.{NetFan}
use Rattle.duct_definitions.specs.declared.listed.Listed.{Listed}
use Rattle.duct_definitions.specs.declared.listed.ListedFan.{ListedFan}
use Rattle.duct_definitions.specs.declared.listed.ListedSection.{ListedSection}
use Rattle.duct_definitions.specs.Tree.{sections}
use Rattle.duct_definitions.specs.Network.{Network, size_count, size_name, no_fan}

-- the first number below n that passes, or none
abbrev pub first_number : (ℕ → Bool) → ℕ → Option ℕ
first_number test n = find test (range_with_len 0 n)

-- what stands in place of a line that is not there
abbrev pub no_line : ListedSection
no_line = record { name = []; size = []; loss = 0; price = 0; damper = 0 }

-- what the text says of section s
abbrev pub line_at : Listed → ℕ → ListedSection
line_at l s = unwrap_or (slice_get l.sections s) no_line

-- the number of the section's size of this name
abbrev pub size_named : Network → ℕ → List ℕ → Option ℕ
size_named net s name = first_number (λ k. bytes_eq (size_name net s k) name) (size_count net s)

-- the number of the section's listed size, 0 where the section has no such size
abbrev pub size_of : Network → Listed → ℕ → ℕ
size_of net l s = unwrap_or (size_named net s (line_at l s).size) 0

-- the fan of a list at a place
abbrev pub fan_of : List NetFan → ℕ → NetFan
fan_of fans i = unwrap_or (slice_get fans i) no_fan

-- the number of the fan of this name in the list
abbrev pub fan_named : List NetFan → List ℕ → Option ℕ
fan_named fans name = first_number (λ i. bytes_eq (fan_of fans i).name name) (length fans)

-- the number of the listed fan, 0 where there is no such fan
abbrev pub fan_number : List NetFan → List ℕ → ℕ
fan_number fans name = unwrap_or (fan_named fans name) 0

-- the number of the listed return fan, where one is listed
abbrev pub back_number : List NetFan → Option ListedFan → Option ℕ
back_number fans None = None
back_number fans (Some fan) = Some (fan_number fans fan.name)

-- the design of the listed names
abbrev pub named : Network → Listed → Design
named net l = record {
  fan = fan_number net.fans l.fan;
  back = back_number net.return_fans l.back;
  sizes = map (size_of net l) (sections net.tree);
}
