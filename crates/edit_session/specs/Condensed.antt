-- A network with its exact fronts and its best design, and what is left of them after an edit.
--   AreKeptOf net kept              the fronts of each section of the network, in order
--   CondensedData, IsCondensed      a network, the fronts of its sections, and its best design if it has one
--   AreKeptBut net touched kept     the same fronts, but for those of touched sections, of which nothing is known
--   AreLater net s fronts           the fronts of all sections after s, the last first
use Rattle.std.specs.Prelude.{◌≡◌, ℕ, ◌+◌, List, length, Bool, false, Option, Some, slice_get, IfSome, IfNone}
use Rattle.duct_definitions.specs.declared.design.Design.{Design}
use Rattle.duct_definitions.specs.Network.{Network}
use Rattle.duct_definitions.specs.Order.{IsBest, NoneMeets}
use Rattle.duct_definitions.specs.Tree.{section_count}
use Rattle.contract_join.specs.Kept.{KeptData, IsKeptOf}
use Rattle.contract_join.specs.SectionFronts.{SectionData}

-- the fronts of each section of the network, in order
pub record AreKeptOf (net : Network) (kept : List KeptData) : Type 0 where
  pub count : length kept ≡ section_count net.tree
  pub each : (s : ℕ) (k : KeptData) → slice_get kept s ≡ Some k → (k.section ≡ s) × IsKeptOf net k

-- a network, the fronts of its sections, and a design of it
pub record CondensedData : Type 0 where
  pub net : Network
  pub kept : List KeptData
  pub best : Option Design

-- the fronts are exact, and the design is the best one; none where no design meets the rules
pub record IsCondensed (a : CondensedData) : Type 0 where
  pub kept : AreKeptOf a.net a.kept
  pub some : IfSome a.best (IsBest a.net)
  pub none : IfNone a.best (NoneMeets a.net)

-- fronts for each section, which are exact in the network where the section isn't touched
pub record AreKeptBut (net : Network) (touched : ℕ → Bool) (kept : List KeptData) : Type 0 where
  pub count : length kept ≡ section_count net.tree
  pub each : (s : ℕ) (k : KeptData) → slice_get kept s ≡ Some k → touched s ≡ false → (k.section ≡ s) × IsKeptOf net k

-- the fronts of all sections from s on, the last first
pub record AreLater (net : Network) (s : ℕ) (fronts : List SectionData) : Type 0 where
  pub count : length fronts + s ≡ section_count net.tree
  pub each : (j : ℕ) (entry : SectionData) → slice_get fronts j ≡ Some entry
      → (entry.net ≡ net) × (entry.section + j + 1 ≡ section_count net.tree)
