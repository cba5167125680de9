-- Airflow: what each section carries, from the airflows at the leaves and the leaks of the ducts. Airflows are in l/s,
-- leaks in thousandths of the air that is to pass the section.
--   Airflows               the airflow at each leaf, and the leak of each section
--   flow t air s           what section s carries: what is to pass it and its leak, rounded up to a whole number
--   side_flow t air x      what the sections at the fan carry on side x, 0 for a side without sections
--   flow_rules t air       the rules of airflows, in the order in which they are tested
--   flows_of t air         the flows of all sections and of both sides
use Rattle.std.specs.Prelude.{ℕ, zero, suc, ◌+◌, ◌*◌, max, List, ◌∷◌, [], ◌++◌, map, sum_by, Bool, not, ◌||◌, nat_le, Option, None, is_some, is_none, slice_get, slice_index, unwrap_or, if◌then◌else◌}
use Rattle.std.specs.Int.{div_ceil}
use Rattle.std.specs.List.{flat_map}
use Rattle.duct_units.specs.declared.fault.Reason.TheVariants.{FlowMissing, FlowGiven, FlowTooLarge}
use Rattle.duct_units.specs.declared.side.Side.{Side}
use Rattle.duct_units.specs.declared.side.Side.TheVariants.{Supply, Return}
use Rattle.duct_units.specs.Rules.{Rule, at_section}
use Rattle.duct_definitions.specs.declared.airflow.TheConstants.{MAX_FLOW, THOUSANDTHS}
use Rattle.duct_definitions.specs.Tree.{Tree, section_count, sections, children, is_leaf, roots}

-- the airflow at each leaf, none at the other sections; and the leak of each section
pub record Airflows : Type 0 where
  pub at_leaves : List (Option ℕ)
  pub leaks : List ℕ

-- the airflow that is given at section s, if one is
abbrev pub given_at : List (Option ℕ) → ℕ → Option ℕ
given_at at_leaves s = unwrap_or (slice_get at_leaves s) None

-- the airflow at leaf s, 0 where none is given
abbrev pub leaf_flow : Airflows → ℕ → ℕ
leaf_flow air s = unwrap_or (given_at air.at_leaves s) 0

-- the leak of section s
abbrev pub leak_at : Airflows → ℕ → ℕ
leak_at air s = slice_index air.leaks s

-- what a section carries where so much is to pass it: with its leak, rounded up
abbrev pub with_leak : ℕ → ℕ → ℕ
with_leak leak q = div_ceil (q * (THOUSANDTHS + leak)) THOUSANDTHS

-- what is to pass section s: a leaf's airflow, or what the children carry
abbrev pub passing : (ℕ → ℕ) → Tree → Airflows → ℕ → ℕ
passing carried t air s = if is_leaf t s then leaf_flow air s else sum_by carried (children t s)

-- what section s carries, as many sections deep as the number says at most
abbrev pub flow_within : ℕ → Tree → Airflows → ℕ → ℕ
flow_within zero t air s = 0
flow_within (suc n) t air s = with_leak (leak_at air s) (passing (flow_within n t air) t air s)

-- children have greater numbers, so no way outwards is longer than the tree has sections
unfoldable pub flow : Tree → Airflows → ℕ → ℕ
flow t air s = flow_within (section_count t) t air s

-- what the sections at the fan carry on a side, 0 for a side without sections
abbrev pub side_flow : Tree → Airflows → Side → ℕ
side_flow t air x = sum_by (flow t air) (roots t x)

-- a leaf has an airflow, and no other section has one
abbrev pub leaf_rules : Tree → List (Option ℕ) → ℕ → List Rule
leaf_rules t at_leaves s =
    at_section (s + 1) (not (is_leaf t s) || is_some (given_at at_leaves s)) FlowMissing
    ∷ at_section (s + 1) (is_leaf t s || is_none (given_at at_leaves s)) FlowGiven ∷ []

-- a section carries no more than a section may
abbrev pub bound_rules : (ℕ → ℕ) → ℕ → List Rule
bound_rules carried s = at_section (s + 1) (nat_le (carried s) MAX_FLOW) FlowTooLarge ∷ []

-- the rules of airflows, in the order in which they are tested
abbrev pub flow_rules : Tree → Airflows → List Rule
flow_rules t air =
    flat_map (leaf_rules t air.at_leaves) (sections t) ++ flat_map (bound_rules (flow t air)) (sections t)

-- what each section and each side carries
pub record Flows : Type 0 where
  pub sections : List ℕ
  pub supply : ℕ
  pub back : ℕ

-- the flows of a tree with these airflows
abbrev pub flows_of : Tree → Airflows → Flows
flows_of t air = record {
  sections = map (flow t air) (sections t);
  supply = side_flow t air Supply;
  back = side_flow t air Return;
}

-- what a side carries
abbrev pub flow_on : Flows → Side → ℕ
flow_on flows Supply = flows.supply
flow_on flows Return = flows.back

-- what a fan for both sides has to carry: the greater of the two sides' flows
abbrev pub fan_flow : Flows → ℕ
fan_flow flows = max flows.supply flows.back
