-- The end of the counters: what came of each section, and the lists of the passes.
--   AreOutcomesOf net outcomes   one outcome for each section, in order
--   fronts_among outcomes        the fronts of those that have fronts, in order
--   refused_among outcomes       the sections of the others, in order
--   AreWhole t lists             each section stands in one of the lists, once, and children before neighbours
use Rattle.std.specs.Prelude.{◌≡◌, ℕ, ◌+◌, List, [], ◌∷◌, ◌++◌, All, map, length, None, Some, IsTrue, ◌==◌, nat_lt, slice_get}
use Rattle.std.specs.List.{sum_by, count_by, flat_map}
use Rattle.duct_definitions.specs.Network.{Network}
use Rattle.duct_definitions.specs.Tree.{Tree, section_count, is_leaf}
use Rattle.schedule_core.specs.Schedule.{is_in}
use Rattle.contract_join.specs.SectionFronts.{SectionData}
use Rattle.contract_join.specs.declared.outcome.Outcome.{Outcome}
use Rattle.contract_join.specs.declared.outcome.Outcome.TheVariants.{Fronts, NoMemory}
use Rattle.contract_join.specs.Outcomes.{IsOutcomeOf}
use Rattle.child_counter.specs.declared.view.PassView.{PassView}
use Rattle.child_counter.specs.Shown.{AreChildrenBefore, one_if}
use Rattle.child_counter.specs.Public.{PassData, noted_by}

-- the one pass that is left: it has all parts, has no turn, and has noted every leaf as found claimed
pub record IsLast (net : Network) (passes : ℕ) (v : PassView) : Type 0 where
  pub parts : v.parts ≡ passes
  pub free : v.turn ≡ None
  pub noted : (s : ℕ) → IsTrue (is_leaf net.tree s) → IsTrue (is_in v.noted s)

-- w is v after it took in these passes
pub record TookIn (v : PassView) (passes : List PassData) (w : PassView) : Type 0 where
  pub net : w.net ≡ v.net
  pub own : w.own ≡ v.own
  pub turn : w.turn ≡ v.turn
  pub joined : w.joined ≡ v.joined ++ map (λ pass. pass.view.own) passes
  pub noted : w.noted ≡ v.noted ++ noted_by passes
  pub parts : w.parts ≡ v.parts + sum_by (λ pass. pass.view.parts) passes

-- the outcomes of all passes, one pass after the other
abbrev pub outcomes_by : List PassData → List Outcome
outcomes_by passes = flat_map (λ pass. pass.view.own) passes

-- one outcome for each section of the network, in order
pub record AreOutcomesOf (net : Network) (outcomes : List Outcome) : Type 0 where
  pub count : length outcomes ≡ section_count net.tree
  pub each : (s : ℕ) (o : Outcome) → slice_get outcomes s ≡ Some o → IsOutcomeOf net s o

-- the fronts of the outcome, if it has fronts
abbrev pub fronts_in : Outcome → List SectionData
fronts_in (Fronts fronts) = fronts ∷ []
fronts_in (NoMemory s) = []

-- the section of the outcome, if it has no fronts
abbrev pub refused_in : Outcome → List ℕ
refused_in (Fronts fronts) = []
refused_in (NoMemory s) = s ∷ []

-- the fronts of those that have fronts, in order
abbrev pub fronts_among : List Outcome → List SectionData
fronts_among outcomes = flat_map fronts_in outcomes

-- the sections of those that have none, in order
abbrev pub refused_among : List Outcome → List ℕ
refused_among outcomes = flat_map refused_in outcomes

-- how often section s stands in the lists
abbrev pub times_in : ℕ → List (List ℕ) → ℕ
times_in s lists = sum_by (λ xs. count_by (λ x. x == s) xs) lists

-- Each section stands in one of the lists, once, and nothing else stands in any. In a list a child stands before its
-- neighbour.
pub record AreWhole (t : Tree) (lists : List (List ℕ)) : Type 0 where
  pub once : (s : ℕ) → times_in s lists ≡ one_if (nat_lt s (section_count t))
  pub ordered : All (AreChildrenBefore t) lists

-- what a contract sees of closed counters
pub record ClosedData : Type 0 where
  pub net : Network
  pub fronts : List SectionData
  pub refused : List ℕ
  pub finished : List (List ℕ)

-- the fronts and the refused sections are those of one outcome for each section
abbrev pub AreSorted : Network → List SectionData → List ℕ → Type 0
AreSorted net fronts refused = (outcomes : List Outcome) × AreOutcomesOf net outcomes
    × (fronts ≡ fronts_among outcomes) × (refused ≡ refused_among outcomes)
