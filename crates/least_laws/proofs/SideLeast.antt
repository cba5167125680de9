-- The least of a side, as a sum over places.
use Rattle.std.proofs.Common.{◌≡◌, ℕ, ◌<◌, arith, ap, sym, ◌∙◌}
use Rattle.duct_units.specs.declared.side.Side.{Side}
use Rattle.duct_definitions.specs.Tree.{IsTree, section_count}
use Rattle.duct_definitions.specs.Network.{Network, columns, columns_beside}
use Rattle.tree_sums.specs.Route.{Fan}
use Rattle.least_laws.specs.Prices.{sum_of}
use Rattle.least_laws.specs.LeastFromChildren.{least_in}
use Rattle.least_laws.specs.Choosing.{side_least}
use Rattle.least_laws.proofs.Ducts.{AreLeastSums}
use Rattle.least_laws.proofs.Side.{AreRootSums, side_sum}
use Rattle.least_laws.proofs.TreePlaces.{next_in, neighbour-fan}
use Rattle.least_laws.proofs.TreeLists.{roots-same}
use Rattle.least_laws.proofs.SumOf.{joined-sum_of}
use Rattle.least_laws.proofs.DuctsOf.{ducts_of, sum-from_least, sums-from_leasts}
use Rattle.least_laws.proofs.Leasts.{least_in-is, least_in-children}

pub side_sum-least : (net : Network) (x : Side) (b : ℕ)
    → side_sum (ducts_of net) (least_in net) x b ≡ side_least net x b
side_sum-least net x b =
    joined-sum_of (next_in net.tree) (Fan x) (λ r. least_in net r 0 b) (section_count net.tree)
    ∙ ap (sum_of (λ r. least_in net r 0 b)) (sym (roots-same net.tree x))

pub least_in-sums : (net : Network) → IsTree net.tree → (s : ℕ) → s < section_count net.tree
    → AreLeastSums (ducts_of net) s (least_in net)
least_in-sums net tree s within = sums-from_leasts net tree s (least_in net) (least_in-children net tree s)

pub least_in-roots : (net : Network) → IsTree net.tree → AreRootSums (ducts_of net) (least_in net)
least_in-roots net tree x r b less is =
    let one : columns net r ≡ 1 = ap (columns_beside net) (neighbour-fan net.tree r x is).0 in
    sum-from_least net tree r 0 b (least_in net r 0 b) (least_in-is net tree r 0 b less (omega arith))
