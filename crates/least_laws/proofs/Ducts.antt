-- A network as functions, over which the laws are proved: the fan's sides and the sections are places of one kind, and
-- sums go over all numbers below the number of sections.
use Rattle.std.specs.Prelude.{◌≡◌, ◌≢◌, ℕ, zero, suc, ◌<◌, ◌≤◌, true, Option, Some, None, if◌then◌else◌}
use Rattle.duct_units.specs.declared.side.Side.{Side}
use Rattle.duct_definitions.specs.declared.design.Pair.{Pair}
use Rattle.duct_definitions.specs.Designs.{loss_of, price_of}
use Rattle.tree_sums.specs.Route.{Place, Fan, At, same, goes_by}
use Rattle.tree_sums.specs.Sums.{along, beyond}
use Rattle.duct_units.specs.Prices.{both_of}
use Rattle.least_laws.specs.Prices.{least_below, with_pair}

-- the number of sections; of each what stands next to it, its number of sizes, and the pair of its size beside a size
-- of its neighbour
pub record Ducts : Type 0 where
  pub count : ℕ
  pub next : ℕ → Place
  pub sizes : ℕ → ℕ
  pub pair : ℕ → ℕ → ℕ → Option Pair

-- the size at a place, where f gives each section's; 0 at the fan
abbrev pub size_at : (ℕ → ℕ) → Place → ℕ
size_at f (Fan x) = 0
size_at f (At p) = f p

abbrev pub chosen : Ducts → (ℕ → ℕ) → ℕ → Option Pair
chosen net f t = net.pair t (f t) (size_at f (net.next t))

abbrev pub loss : Ducts → (ℕ → ℕ) → ℕ → ℕ
loss net f t = loss_of (chosen net f t)

abbrev pub price : Ducts → (ℕ → ℕ) → ℕ → ℕ
price net f t = price_of (chosen net f t)

-- no section stands beyond t
abbrev pub IsEnd : Ducts → ℕ → Type 0
IsEnd net t = (c : ℕ) → c < net.count → net.next c ≢ At t

-- g is a size beside section s: at the fan it is 0
abbrev pub IsBeside : Ducts → ℕ → ℕ → Type 0
IsBeside net s g = (x : Side) → net.next s ≡ Fan x → g ≡ 0

-- sizes of all sections whose route goes by o: each is in range, each pair is there, and the losses on each route from
-- an end to o add to at most b
pub record IsSizing (net : Ducts) (o : Place) (b : ℕ) (f : ℕ → ℕ) : Type 0 where
  pub in_range : (t : ℕ) → t < net.count → goes_by net.next o t ≡ true → f t < net.sizes t
  pub there : (t : ℕ) → t < net.count → goes_by net.next o t ≡ true → (p : Pair) × (chosen net f t ≡ Some p)
  pub within : (t : ℕ) → t < net.count → IsEnd net t → goes_by net.next o t ≡ true → along net.next (loss net f) o t ≤ b

-- the prices of all sections whose route goes by o
abbrev pub price_sum : Ducts → (ℕ → ℕ) → Place → ℕ
price_sum net f o = beyond net.next (price net f) net.count o

-- v is the least price of the sizings from section s on, beside size g of its neighbour; None where there is none
abbrev pub IsLeastSum : Ducts → ℕ → ℕ → ℕ → Option ℕ → Type 0
IsLeastSum net s g b None = (f : ℕ → ℕ) → size_at f (net.next s) ≡ g → IsSizing net (At s) b f → ⊥
IsLeastSum net s g b (Some v) =
    ((f : ℕ → ℕ) × (size_at f (net.next s) ≡ g) × IsSizing net (At s) b f × (price_sum net f (At s) ≡ v))
    × ((f : ℕ → ℕ) → size_at f (net.next s) ≡ g → IsSizing net (At s) b f → v ≤ price_sum net f (At s))

-- the sum over the sections below m next to o, where all are there
abbrev pub joined : (ℕ → Place) → Place → (ℕ → Option ℕ) → ℕ → Option ℕ
joined next o h zero = Some 0
joined next o h (suc m) = if same (next m) o then both_of (joined next o h m) (h m) else joined next o h m

-- the least of section s in size k, from the leasts of its children: leasts c k b is that of child c beside size k
abbrev pub sum_with : Ducts → (ℕ → ℕ → ℕ → Option ℕ) → ℕ → ℕ → ℕ → ℕ → Option ℕ
sum_with net leasts s g b k =
    with_pair (net.pair s k g) b (λ r. joined net.next (At s) (λ c. leasts c k r) net.count)

abbrev pub sum_from : Ducts → (ℕ → ℕ → ℕ → Option ℕ) → ℕ → ℕ → ℕ → Option ℕ
sum_from net leasts s g b = least_below (sum_with net leasts s g b) (net.sizes s)

abbrev pub AreLeastSums : Ducts → ℕ → (ℕ → ℕ → ℕ → Option ℕ) → Type 0
AreLeastSums net s leasts =
    (c k r : ℕ) → c < net.count → net.next c ≡ At s → k < net.sizes s → IsLeastSum net c k r (leasts c k r)
