-- The keys of a table ascend, so that each stands once.
use Rattle.std.specs.Prelude.{◌≡◌, ℕ, List}
use Rattle.std.specs.Ordering.{nat_cmp}
use Rattle.std.specs.declared.cmp.Ordering.TheVariants.{Less}
use Rattle.std.specs.Cmp.Lexicographic.{slice_cmp}
use Rattle.toml.specs.Data.{Members, no_members, member}

-- the key comes before each key of the members
abbrev pub IsBefore : List ℕ → Members → Type 0
IsBefore key no_members = Unit {0}
IsBefore key (member other value rest) = (slice_cmp nat_cmp key other ≡ Less) × IsBefore key rest

-- each key comes before those behind it
abbrev pub KeysAscend : Members → Type 0
KeysAscend no_members = Unit {0}
KeysAscend (member key value rest) = IsBefore key rest × KeysAscend rest
