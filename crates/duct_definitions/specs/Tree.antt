-- The tree of sections towards the fan, and the rules that make it one.
--   neighbour t s   the next section towards the fan; none at the fan
--   children t s    the sections whose neighbour is s, in rising number
--   leaves t x      the sections of side x without children, in rising number
--   all_leaves t    the leaves of both sides, in rising number
--   roots t x       the sections of side x at the fan, in rising number
--   way t s         the sections from s to the fan, s first
--   passes t s x    the way of x passes s
use Rattle.std.specs.Prelude.{◌≡◌, ℕ, zero, suc, ◌+◌, List, [], ◌∷◌, ◌++◌, length, filter, Bool, true, false, ◌&&◌, ◌==◌, Option, Some, None, is_none, slice_get, unwrap_or, nat_lt, nat_le}
use Rattle.std.specs.List.{range_with_len, list_any, flat_map}
use Rattle.duct_units.specs.declared.fault.Reason.TheVariants.{Empty, TooMany, NotBefore, OtherSide, NoSupply}
use Rattle.duct_units.specs.declared.side.Side.{Side}
use Rattle.duct_units.specs.declared.side.Side.TheVariants.{Supply}
use Rattle.duct_units.specs.Side.{same_side}
use Rattle.duct_units.specs.Rules.{Rule, at_file, at_section, first_broken}
use Rattle.duct_definitions.specs.declared.limits.TheConstants.{MAX_SECTIONS}

-- of each section its neighbour towards the fan, none at the fan, and its side
pub record Tree : Type 0 where
  pub neighbours : List (Option ℕ)
  pub sides : List Side

-- how many sections the tree has
abbrev pub section_count : Tree → ℕ
section_count t = length t.neighbours

-- the numbers of all sections, rising
abbrev pub sections : Tree → List ℕ
sections t = range_with_len 0 (section_count t)

-- the next section towards the fan, or none
abbrev pub neighbour : Tree → ℕ → Option ℕ
neighbour t s = unwrap_or (slice_get t.neighbours s) None

-- the side of the fan on which the section stands
abbrev pub side : Tree → ℕ → Side
side t s = unwrap_or (slice_get t.sides s) Supply

-- a number of the neighbour, 0 at the fan
abbrev pub at_neighbour : (ℕ → ℕ) → Option ℕ → ℕ
at_neighbour number None = 0
at_neighbour number (Some n) = number n

-- the section that may be there is section s
abbrev pub is_number : ℕ → Option ℕ → Bool
is_number s None = false
is_number s (Some n) = n == s

-- the sections whose neighbour is s, rising
abbrev pub children : Tree → ℕ → List ℕ
children t s = filter (λ c. is_number s (neighbour t c)) (sections t)

-- a section without children
abbrev pub is_leaf : Tree → ℕ → Bool
is_leaf t s = nat_lt s (section_count t) && length (children t s) == 0

-- the sections of the side without children, rising
abbrev pub leaves : Tree → Side → List ℕ
leaves t x = filter (λ s. same_side (side t s) x && is_leaf t s) (sections t)

-- the leaves of both sides
abbrev pub all_leaves : Tree → List ℕ
all_leaves t = filter (is_leaf t) (sections t)

-- a section at the fan
abbrev pub is_root : Tree → ℕ → Bool
is_root t s = nat_lt s (section_count t) && is_none (neighbour t s)

-- the sections of the side at the fan, rising
abbrev pub roots : Tree → Side → List ℕ
roots t x = filter (λ s. same_side (side t s) x && is_root t s) (sections t)

-- the way from the neighbour, empty at the fan
abbrev pub from_neighbour : (ℕ → List ℕ) → Option ℕ → List ℕ
from_neighbour way_from None = []
from_neighbour way_from (Some n) = way_from n

-- the first sections of the way, at most so many
abbrev pub way_within : ℕ → Tree → ℕ → List ℕ
way_within zero t s = []
way_within (suc n) t s = s ∷ from_neighbour (way_within n t) (neighbour t s)

-- neighbours have smaller numbers, so s + 1 sections are all of the way
abbrev pub way : Tree → ℕ → List ℕ
way t s = way_within (suc s) t s

-- the way of section x passes section s
abbrev pub passes : Tree → ℕ → ℕ → Bool
passes t s x = list_any (λ y. y == s) (way t x)

-- the neighbour, where there is one, has a smaller number than s
abbrev pub is_before : ℕ → Option ℕ → Bool
is_before s None = true
is_before s (Some n) = nat_lt n s

-- the neighbour, where there is one, is of the side
abbrev pub is_on_side : Tree → Side → Option ℕ → Bool
is_on_side t x None = true
is_on_side t x (Some n) = same_side (side t n) x

-- a neighbour stands earlier and is of the same side
abbrev pub section_rules : Tree → ℕ → List Rule
section_rules t s =
    at_section (s + 1) (is_before s (neighbour t s)) NotBefore
    ∷ at_section (s + 1) (is_on_side t (side t s) (neighbour t s)) OtherSide ∷ []

-- the rules of a tree, in the order in which they are tested
abbrev pub tree_rules : Tree → List Rule
tree_rules t =
    at_file (nat_le 1 (section_count t)) Empty
    ∷ at_file (nat_le (section_count t) MAX_SECTIONS) TooMany
    ∷ (flat_map (section_rules t) (sections t)
    ++ (at_file (list_any (λ x. same_side x Supply) t.sides) NoSupply ∷ []))

-- one side for each section, and no rule is broken
pub record IsTree (t : Tree) : Type 0 where
  pub sides : length t.sides ≡ length t.neighbours
  pub rules : first_broken (tree_rules t) ≡ None
