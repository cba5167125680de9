-- A network that is the project's but for the pairs of some sections.
--   IsBuiltBut p c rules names touched net counts      the network's pairs and the counts are those of the project, but
--                                                     for touched sections
use Rattle.std.specs.Prelude.{◌≡◌, ℕ, ◌<◌, List, length, Bool, false, Some, slice_get, All}
use Rattle.duct_definitions.specs.declared.listed.RuleCount.{RuleCount}
use Rattle.duct_definitions.specs.Network.{Network}
use Rattle.duct_definitions.specs.Tree.{section_count}
use Rattle.project_file.specs.declared.project.Project.{Project}
use Rattle.design_rules.specs.Meanings.{Meaning}
use Rattle.net_build.specs.Built.{section_pairs, with_pairs_and_fans}
use Rattle.net_build.specs.Catalogues.{Catalogues}
use Rattle.net_build.specs.Refusals.{section_refusals, CountsWithin}
use Rattle.net_build.specs.declared.limits.TheConstants.{MAX_SECTION_ASKED}

-- a list of n things, one for each number, which are made of it where it isn't touched
pub record AreMadeBut {X : Type 0} (make : ℕ → X) (touched : ℕ → Bool) (n : ℕ) (things : List X) : Type 0 where
  pub count : length things ≡ n
  pub each : (s : ℕ) → s < n → touched s ≡ false → slice_get things s ≡ Some (make s)

-- the network has the project's sections with their sizes; and of each section that isn't touched the project's pairs,
-- and the rules' counts
pub record IsBuiltBut (p : Project) (c : Catalogues) (rules : List Meaning) (names : List (List ℕ)) (touched : ℕ → Bool) (net : Network) (counts : List (List RuleCount)) : Type 0 where
  pub frame : net ≡ with_pairs_and_fans p c net.pairs net.fans
  pub pairs : AreMadeBut (section_pairs p c rules) touched (section_count p.tree) net.pairs
  pub refusals : AreMadeBut (section_refusals p c rules names) touched (section_count p.tree) counts
  pub most : All (CountsWithin MAX_SECTION_ASKED) counts
