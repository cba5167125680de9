-- Values that nest a few times at most, and whose dates a text can write.
use Rattle.std.specs.Prelude.{◌≡◌, ℕ, ◌≤◌, true}
use Rattle.toml.specs.Data.{Data, Items, Members, depth, items_depth, members_depth, has_valid_dates, items_have_valid_dates, members_have_valid_dates}

-- the value nests so often at most, and a text can write each date in it
abbrev pub IsShallow : ℕ → Data → Type 0
IsShallow n d = (depth d ≤ n) × (has_valid_dates d ≡ true)

-- the same of items
abbrev pub ItemsShallow : ℕ → Items → Type 0
ItemsShallow n ds = (items_depth ds ≤ n) × (items_have_valid_dates ds ≡ true)

-- the same of members
abbrev pub AreShallow : ℕ → Members → Type 0
AreShallow n ms = (members_depth ms ≤ n) × (members_have_valid_dates ms ≡ true)
