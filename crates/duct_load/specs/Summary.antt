-- What is printed of a network and of the design that was found for it, or of none.
--   pair_count net        how many pairs of sizes are there
--   summary net design    the text; a field is parted from the next by one space
use Rattle.std.specs.Prelude.{ℕ, List, [], ◌∷◌, ◌++◌, codes, length, sum_by, count_by, Option, Some, None, is_some}
use Rattle.std.specs.Fmt.{decimal}
use Rattle.std.specs.List.{range_with_len}
use Rattle.duct_units.specs.Lines.{line}
use Rattle.duct_units.specs.declared.side.Side.TheVariants.{Supply, Return}
use Rattle.duct_definitions.specs.declared.design.Design.{Design}
use Rattle.duct_definitions.specs.Tree.{section_count, sections, all_leaves}
use Rattle.duct_definitions.specs.Network.{Network, size_count, columns, pair_at, fan_at}
use Rattle.duct_definitions.specs.Designs.{worst, cost}

-- how many pairs of section s in size k are there
abbrev pub pairs_in_size : Network → ℕ → ℕ → ℕ
pairs_in_size net s k = count_by (λ g. is_some (pair_at net s k g)) (range_with_len 0 (columns net s))

-- how many pairs of section s are there
abbrev pub pairs_of_section : Network → ℕ → ℕ
pairs_of_section net s = sum_by (pairs_in_size net s) (range_with_len 0 (size_count net s))

-- how many pairs of all sections are there
abbrev pub pair_count : Network → ℕ
pair_count net = sum_by (pairs_of_section net) (sections net.tree)

-- the fan, the worst loss of each side and the cost of the design, or none
abbrev pub found_lines : Network → Option Design → List ℕ
found_lines net None = line (codes "none") []
found_lines net (Some d) =
    line (codes "fan") ((fan_at net d.fan).name ∷ decimal (fan_at net d.fan).pressure ∷ [])
    ++ line (codes "worst") (decimal (worst net d Supply) ∷ decimal (worst net d Return) ∷ [])
    ++ line (codes "cost") (decimal (cost net d) ∷ [])

-- the text of the network with the design, or without one
abbrev pub summary : Network → Option Design → List ℕ
summary net design =
    line (codes "made") (decimal (section_count net.tree) ∷ [])
    ++ line (codes "leaves") (decimal (length (all_leaves net.tree)) ∷ [])
    ++ line (codes "pairs") (decimal (pair_count net) ∷ [])
    ++ found_lines net design
    ++ line (codes "end") []
