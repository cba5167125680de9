-- The made network of n sections. Sections, places, sizes and fans count from 0; the numbers in their names count from 1.
--   side_of i          the side of section i
--   place_of i         how many sections of its side stand before it
--   section_at x p     the section of side x in place p
--   neighbour_of i     the section next towards the fan, which has about half the place; none at the fan
--   pair_of i k g      what section i loses and costs in size k beside size g of its neighbour, 0 at the fan
--   made n             the network
use Rattle.std.specs.Prelude.{ℕ, ◌+◌, ◌-◌, ◌*◌, ◌/◌, ◌%◌, List, [], ◌∷◌, codes, map, Bool, ◌&&◌, ◌||◌, ◌==◌, nat_lt, Option, Some, None, is_none, if◌then◌else◌}
use Rattle.std.specs.Fmt.{decimal}
use Rattle.std.specs.List.{range_with_len, flat_map}
use Rattle.duct_units.specs.declared.side.Side.{Side}
use Rattle.duct_units.specs.declared.side.Side.TheVariants.{Supply, Return}
use Rattle.duct_definitions.specs.declared.design.Pair.{Pair}
use Rattle.duct_definitions.specs.declared.design.NetFan.{NetFan}
use Rattle.duct_definitions.specs.Tree.{Tree}
use Rattle.duct_definitions.specs.Network.{Network}

-- of each three sections the last is of the return side
abbrev pub is_return : ℕ → Bool
is_return i = i % 3 == 2

-- the side of section i
abbrev pub side_of : ℕ → Side
side_of i = if is_return i then Return else Supply

-- the place of section i in its side: how many sections of the side stand before it
abbrev pub place_of : ℕ → ℕ
place_of i = if is_return i then i / 3 else i - i / 3

-- the section of a side in a place
abbrev pub section_at : Side → ℕ → ℕ
section_at Supply p = p + p / 2
section_at Return p = 3 * p + 2

-- the first section of a side stands at the fan; that in place p behind the one in place (p - 1) / 2
abbrev pub neighbour_of : ℕ → Option ℕ
neighbour_of i = if place_of i == 0 then None else Some (section_at (side_of i) ((place_of i - 1) / 2))

-- the section stands at the fan
abbrev pub is_at_fan : ℕ → Bool
is_at_fan i = is_none (neighbour_of i)

-- how many sizes stand beside it: the neighbour's 8, and 1 at the fan
abbrev pub columns_of : ℕ → ℕ
columns_of i = if is_at_fan i then 1 else 8

-- about one pair in eleven is left out; those of the first and the last size are all there
abbrev pub is_left_out : ℕ → ℕ → ℕ → Bool
is_left_out i k g = (nat_lt 0 k && nat_lt k 7) && (i + 3 * k + 5 * g) % 11 == 0

-- what the change of size loses, dPa: nothing at the fan or beside the same size
abbrev pub change_loss : ℕ → ℕ → ℕ → ℕ
change_loss i k g = if is_at_fan i || k == g then 0 else 5

-- what it loses, dPa: less in a greater size
abbrev pub loss_of : ℕ → ℕ → ℕ → ℕ
loss_of i k g = 10 + (37 * i) % 23 + 20 * (7 - k) + change_loss i k g

-- what it costs, cents: more in a greater size
abbrev pub price_of : ℕ → ℕ → ℕ → ℕ
price_of i k g = 100 + 60 * k + (53 * i + 17 * k + 7 * g) % 41

-- what section i loses and costs in size k beside size g of its neighbour; none where the pair is left out
abbrev pub pair_of : ℕ → ℕ → ℕ → Option Pair
pair_of i k g = if is_left_out i k g then None else Some (record { loss = loss_of i k g; price = price_of i k g })

-- the pairs of section i in size k
abbrev pub pairs_in_size : ℕ → ℕ → List (Option Pair)
pairs_in_size i k = map (pair_of i k) (range_with_len 0 (columns_of i))

-- the pairs of section i, by its own size and then by its neighbour's
abbrev pub pairs_of : ℕ → List (Option Pair)
pairs_of i = flat_map (pairs_in_size i) (range_with_len 0 8)

-- the name of thing i of a kind: the letter of the kind, and the number, which counts from 1
abbrev pub numbered : ℕ → ℕ → List ℕ
numbered letter i = letter ∷ decimal (i + 1)

-- the names of the first things of a kind
abbrev pub names_with : ℕ → ℕ → List (List ℕ)
names_with letter count = map (numbered letter) (range_with_len 0 count)

-- fan j: each gives 250 dPa more than the one before, and costs 2000 cents more
abbrev pub fan_of : ℕ → NetFan
fan_of j = record { name = numbered 102 j; pressure = 250 * (j + 1); cost = 2000 * (j + 1) }

-- the tree of n sections
abbrev pub tree_of : ℕ → Tree
tree_of n = record {
  neighbours = map neighbour_of (range_with_len 0 n);
  sides = map side_of (range_with_len 0 n);
}

-- the network of n sections: s1 to sn in the sizes k1 to k8, and the fans f1 to f8
abbrev pub made : ℕ → Network
made n = record {
  name = codes "made";
  tree = tree_of n;
  names = names_with 115 n;
  sizes = map (λ i. names_with 107 8) (range_with_len 0 n);
  pairs = map pairs_of (range_with_len 0 n);
  fans = map fan_of (range_with_len 0 8);
  return_fans = [];
}
