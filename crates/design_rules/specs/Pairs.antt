-- What the four rules say of a section in one of its sizes, beside one of its neighbour's.
--   is_preset            the size is the one that the section is to have
--   is_slow_enough       the air is no faster than the limit
--   is_low_enough        the size is no higher than the limit
--   is_tapered           the section's area is no greater than its neighbour's, where the project asks for it
use Rattle.std.specs.Prelude.{ℕ, ◌*◌, ◌==◌, nat_le, Bool, true, not, ◌||◌}
use Rattle.std.specs.Option.{option_map_or}
use Rattle.design_rules.specs.declared.facts.PairFacts.{PairFacts}
use Rattle.design_rules.specs.declared.limits.TheConstants.{VELOCITY_UNITS}

-- the size is the preset; without a preset any size is allowed
abbrev pub is_preset : PairFacts → Bool
is_preset facts = option_map_or (λ preset. facts.size == preset) facts.preset true

-- the airflow through the area is no faster than the limit in mm/s: the airflow in l/s, as mm3, is at most the velocity
-- by the area in mm2
abbrev pub is_within_velocity : ℕ → ℕ → ℕ → Bool
is_within_velocity flow area limit = nat_le (flow * VELOCITY_UNITS) (limit * area)

-- the air is no faster than the limit; without a limit it may be as fast as it is
abbrev pub is_slow_enough : PairFacts → Bool
is_slow_enough facts = option_map_or (is_within_velocity facts.flow facts.area) facts.velocity_limit true

-- the size is no higher than the limit; without a limit it may have any height
abbrev pub is_low_enough : PairFacts → Bool
is_low_enough facts = option_map_or (λ limit. nat_le facts.height limit) facts.height_limit true

-- the section's area is no greater than its neighbour's; at the fan, and in a project that doesn't ask for it, any is
-- allowed
abbrev pub is_tapered : PairFacts → Bool
is_tapered facts = facts.at_fan || not facts.taper || nat_le facts.area facts.beside_area
