-- Fronts that outlive their network.
--   IsKeptOf net kept   the kept fronts are exact for their section in this network
use Rattle.std.specs.Prelude.{ℕ, List}
use Rattle.pareto_front.specs.declared.point.Point.{Point}
use Rattle.duct_definitions.specs.Network.{Network}
use Rattle.contract_join.specs.SectionFronts.{AreExact}

-- a section, and its fronts beside the sizes of its neighbour
pub record KeptData : Type 0 where
  pub section : ℕ
  pub fronts : List (List Point)

-- exact fronts of the section in this network
abbrev pub IsKeptOf : Network → KeptData → Type 0
IsKeptOf net kept = AreExact net kept.section kept.fronts
