-- A network: a tree of sections, the sizes of each, what each pair of sizes loses and costs, and the fans on offer.
-- A fan of the first list serves both sides, or the supply side alone beside a return fan.
use Rattle.std.specs.Prelude.{◌≡◌, ◌≢◌, ℕ, ◌+◌, ◌*◌, ◌<◌, ◌≤◌, max, List, [], length, map, fold, Option, Some, None, IsTrue, slice_get, unwrap_or, All}
use Rattle.duct_units.specs.Name.{is_name}
use Rattle.duct_definitions.specs.declared.design.Pair.{Pair}
use Rattle.duct_definitions.specs.declared.design.NetFan.{NetFan}
use Rattle.duct_definitions.specs.declared.limits.TheConstants.{MAX_SIZES, MAX_FANS, MAX_PRESSURE, MAX_FAN_COST, MAX_LOSS, MAX_PRICE}
use Rattle.duct_definitions.specs.Tree.{Tree, neighbour, section_count, IsTree}

-- The pair of size k beside size g of the neighbour stands at k * columns + g; at the fan g is 0.
pub record Network : Type 0 where
  pub name : List ℕ
  pub tree : Tree
  pub names : List (List ℕ)
  pub sizes : List (List (List ℕ))
  pub pairs : List (List (Option Pair))
  pub fans : List NetFan
  pub return_fans : List NetFan

-- the name of section s
abbrev pub section_name : Network → ℕ → List ℕ
section_name net s = unwrap_or (slice_get net.names s) []

-- the names of the sizes of section s
abbrev pub sizes_of : Network → ℕ → List (List ℕ)
sizes_of net s = unwrap_or (slice_get net.sizes s) []

-- how many sizes section s can have
abbrev pub size_count : Network → ℕ → ℕ
size_count net s = length (sizes_of net s)

-- the name of size k of section s
abbrev pub size_name : Network → ℕ → ℕ → List ℕ
size_name net s k = unwrap_or (slice_get (sizes_of net s) k) []

-- the number of sizes of what is next towards the fan, 1 at the fan
abbrev pub columns_beside : Network → Option ℕ → ℕ
columns_beside net None = 1
columns_beside net (Some n) = size_count net n

-- the neighbour's number of sizes, and 1 at the fan
abbrev pub columns : Network → ℕ → ℕ
columns net s = columns_beside net (neighbour net.tree s)

-- all pairs of a section
abbrev pub pairs_of : Network → ℕ → List (Option Pair)
pairs_of net s = unwrap_or (slice_get net.pairs s) []

-- the pair of section s in size k beside size g of its neighbour, or none
abbrev pub pair_at : Network → ℕ → ℕ → ℕ → Option Pair
pair_at net s k g = unwrap_or (slice_get (pairs_of net s) (k * columns net s + g)) None

-- what stands in place of a fan that is not there
abbrev pub no_fan : NetFan
no_fan = record { name = []; pressure = 0; cost = 0 }

-- fan i
abbrev pub fan_at : Network → ℕ → NetFan
fan_at net i = unwrap_or (slice_get net.fans i) no_fan

-- return fan i
abbrev pub return_fan_at : Network → ℕ → NetFan
return_fan_at net i = unwrap_or (slice_get net.return_fans i) no_fan

-- the greatest pressure of the fans in a list, 0 of none
abbrev pub greatest_pressure : List NetFan → ℕ
greatest_pressure fans = fold max 0 (map (λ fan. fan.pressure) fans)

-- the greatest pressure of all fans, 0 without fans
abbrev pub cap : Network → ℕ
cap net = max (greatest_pressure net.fans) (greatest_pressure net.return_fans)

-- each is a name, and no two are equal
pub record AreNames (names : List (List ℕ)) : Type 0 where
  pub form : All (λ name. IsTrue (is_name name)) names
  pub distinct : (i j : ℕ) → i < j → j < length names → slice_get names i ≢ slice_get names j

-- the fan's pressure and cost are within their bounds
pub record IsFan (fan : NetFan) : Type 0 where
  pub some_pressure : 1 ≤ fan.pressure
  pub pressure : fan.pressure ≤ MAX_PRESSURE
  pub cost : fan.cost ≤ MAX_FAN_COST

-- fans with names of their own, no more than may be on offer
pub record AreFans (fans : List NetFan) : Type 0 where
  pub names : AreNames (map (λ fan. fan.name) fans)
  pub bounds : All IsFan fans
  pub few : length fans ≤ MAX_FANS

-- a pair that is there is within the bounds of a loss and a price
abbrev pub IsBounded : Option Pair → Type 0
IsBounded None = Unit {0}
IsBounded (Some pair) = (pair.loss ≤ MAX_LOSS) × (pair.price ≤ MAX_PRICE)

-- some sizes, no more than a section may have, with names of their own; and a place for each pair
pub record IsSection (net : Network) (s : ℕ) : Type 0 where
  pub some : 1 ≤ size_count net s
  pub few : size_count net s ≤ MAX_SIZES
  pub sizes : AreNames (sizes_of net s)
  pub pairs : length (pairs_of net s) ≡ size_count net s * columns net s
  pub bounds : All IsBounded (pairs_of net s)

-- one entry for each section in each list, and every field within its bounds
pub record IsNetwork (net : Network) : Type 0 where
  pub name : IsTrue (is_name net.name)
  pub tree : IsTree net.tree
  pub names : AreNames net.names
  pub name_count : length net.names ≡ section_count net.tree
  pub size_lists : length net.sizes ≡ section_count net.tree
  pub pair_lists : length net.pairs ≡ section_count net.tree
  pub sections : (s : ℕ) → s < section_count net.tree → IsSection net s
  pub fans : AreFans net.fans
  pub return_fans : AreFans net.return_fans
