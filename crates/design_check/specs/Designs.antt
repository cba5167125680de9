-- Texts of designs that meet the rules.
use Rattle.std.specs.Prelude.{◌≡◌}
use Rattle.duct_definitions.specs.declared.design.Design.{Design}
use Rattle.duct_definitions.specs.declared.listed.Listed.{Listed}
use Rattle.duct_definitions.specs.Network.{Network}
use Rattle.duct_definitions.specs.Designs.{Meets}
use Rattle.duct_definitions.specs.DesignText.{listed}

-- the fields are those of a design that meets the rules
abbrev pub IsOfDesign : Network → Listed → Type 0
IsOfDesign net l = (d : Design) × Meets net d × (l ≡ listed net d)
