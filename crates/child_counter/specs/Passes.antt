-- What passes know, each and together.
--   all_of v           what came of the sections that a pass finished, itself or by the passes that it took in
--   finishes views s   how often section s stands in the lists of all passes
--   turns views s      how many passes have the turn of section s
--   outs views s       how many passes have section s out as a child
--   IsPublished views outcome   the outcome stands in the list of a pass
use Rattle.std.specs.Prelude.{◌≡◌, ℕ, ◌+◌, ◌-◌, List, [], ◌∷◌, ◌++◌, map, Bool, false, ◌==◌, Option, Some, None, slice_get}
use Rattle.std.specs.List.{sum_by, count_by, flat_map}
use mathlib.Core.Option.{some}
use lib.ListN.{get_elem?}
use Rattle.duct_definitions.specs.Network.{Network}
use Rattle.duct_definitions.specs.Tree.{is_number}
use Rattle.contract_join.specs.declared.outcome.Outcome.{Outcome}
use Rattle.contract_join.specs.Outcomes.{section_of}
use Rattle.child_counter.specs.declared.view.PassView.{PassView}

-- the sections of outcomes
abbrev pub sections_of : List Outcome → List ℕ
sections_of outcomes = map section_of outcomes

-- the outcomes of the sections that a pass finished, itself or by the passes that it took in
abbrev pub all_of : PassView → List Outcome
all_of v = flat_map (λ outcomes. outcomes) v.joined ++ v.own

-- how many of the outcomes are of section s
abbrev pub times : ℕ → List Outcome → ℕ
times s outcomes = count_by (λ o. section_of o == s) outcomes

-- the outcome that may be there is of section s
abbrev pub is_of : ℕ → Option Outcome → Bool
is_of s None = false
is_of s (Some o) = section_of o == s

-- how often section s stands in the lists of all passes
abbrev pub finishes : List PassView → ℕ → ℕ
finishes views s = sum_by (λ v. times s (all_of v)) views

-- how many passes have the turn of section s
abbrev pub turns : List PassView → ℕ → ℕ
turns views s = count_by (λ v. is_number s v.turn) views

-- how many passes have section s out as a child
abbrev pub outs : List PassView → ℕ → ℕ
outs views s = count_by (λ v. is_of s v.out) views

-- the outcome stands in the list
abbrev pub StandsIn : List Outcome → Outcome → Type 0
StandsIn outcomes o = (k : ℕ) × (slice_get outcomes k ≡ Some o)

-- the outcome stands in the list of a pass
abbrev pub IsPublished : List PassView → Outcome → Type 0
IsPublished views o = (i : ℕ) × (v : PassView) × (get_elem? views i ≡ some v) × StandsIn (all_of v) o

-- a pass with so many parts, which has done nothing
abbrev pub fresh_view : Network → ℕ → PassView
fresh_view net parts =
    record { net = net; own = []; joined = []; turn = None; noted = []; parts = parts; out = None }

-- a network without sections, which stands for none
abbrev pub no_network : Network
no_network = record {
  name = [];
  tree = record { neighbours = []; sides = [] };
  names = [];
  sizes = [];
  pairs = [];
  fans = [];
  return_fans = [];
}

-- a pass that another took in
abbrev pub spent_view : PassView
spent_view = fresh_view no_network 0

-- the leaf is noted as found claimed, and this is the pass's turn
abbrev pub claimed_view : ℕ → Option ℕ → PassView → PassView
claimed_view leaf turn v = record v { turn = turn; noted = v.noted ++ leaf ∷ [] }

-- one outcome more, if there is one
abbrev pub with_last : Option Outcome → List Outcome → List Outcome
with_last None outcomes = outcomes
with_last (Some o) outcomes = outcomes ++ o ∷ []

-- the turn's section is finished with this outcome, the child that was out is home, and the next turn is this one
abbrev pub finished_view : Option Outcome → Option ℕ → PassView → PassView
finished_view outcome next v = record v { own = with_last outcome v.own; turn = next; out = None }

-- this child is out
abbrev pub out_view : Option Outcome → PassView → PassView
out_view child v = record v { out = child }

-- a pass that gave one part away
abbrev pub less_view : PassView → PassView
less_view v = record v { parts = v.parts - 1 }

-- the pass that gets the part
abbrev pub part_view : PassView → PassView
part_view v = fresh_view v.net 1

-- a pass that took another in, whose lists are kept apart
abbrev pub both_views : PassView → PassView → PassView
both_views v w = record v {
  joined = v.joined ++ w.own ∷ w.joined;
  noted = v.noted ++ w.noted;
  parts = v.parts + w.parts;
}
