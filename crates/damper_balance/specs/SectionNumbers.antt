-- Lists with one number for each section.
--   ListsEach t f numbers       the number of section s is f s
--   sum_on_way t numbers s      the numbers of the sections from s to the fan, added
--   greatest_at numbers ss      the greatest number of the sections, 0 of none
--   least_at numbers ss         the least number of the sections, none of none
--   slack_by t heads losses s   the slack of section s, where losses lists the path losses
--   damper_by t heads losses s  what the damper of section s takes, where losses lists the path losses
use Rattle.std.specs.Prelude.{◌≡◌, ℕ, ◌-◌, ◌<◌, max, List, length, map, fold, sum_by, Option, Some, None, slice_index}
use Rattle.duct_units.specs.declared.side.Side.{Side}
use Rattle.duct_units.specs.declared.side.Side.TheVariants.{Supply, Return}
use Rattle.duct_units.specs.Prices.{lesser}
use Rattle.duct_definitions.specs.Tree.{Tree, section_count, neighbour, at_neighbour, side, way}
use Rattle.duct_definitions.specs.Dampers.{least_of, leaves_beyond}
use Rattle.damper_balance.specs.declared.passes.Heads.{Heads}

-- one number for each section, in order, and that of section s is f s
pub record ListsEach (t : Tree) (f : ℕ → ℕ) (numbers : List ℕ) : Type 0 where
  pub count : length numbers ≡ section_count t
  pub each : (s : ℕ) → s < section_count t → slice_index numbers s ≡ f s

-- the numbers of the sections from s to the fan, added
abbrev pub sum_on_way : Tree → List ℕ → ℕ → ℕ
sum_on_way t numbers s = sum_by (λ x. slice_index numbers x) (way t s)

-- the greatest number of the sections, 0 of none
abbrev pub greatest_at : List ℕ → List ℕ → ℕ
greatest_at numbers ss = fold max 0 (map (λ s. slice_index numbers s) ss)

-- the least number of the sections, none of none
abbrev pub least_at : List ℕ → List ℕ → Option ℕ
least_at numbers ss = fold (λ least s. lesser least (Some (slice_index numbers s))) None ss

-- the head of a side
abbrev pub head_on : Heads → Side → ℕ
head_on heads Supply = heads.supply
head_on heads Return = heads.back

-- the least that is left of the side's head at a leaf beyond the section
abbrev pub slack_by : Tree → Heads → List ℕ → ℕ → ℕ
slack_by t heads losses s =
    least_of (map (λ leaf. head_on heads (side t s) - slice_index losses leaf) (leaves_beyond t s))

-- the slack that the neighbour's damper doesn't take
abbrev pub damper_by : Tree → Heads → List ℕ → ℕ → ℕ
damper_by t heads losses s = slack_by t heads losses s - at_neighbour (slack_by t heads losses) (neighbour t s)
