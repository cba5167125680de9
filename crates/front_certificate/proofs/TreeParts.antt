-- The children of a section and the sections at the fan, as members of their lists.
use Rattle.std.proofs.Common.{◌≡◌, ℕ, ◌<◌, Some, None, arith, ap}
use Rattle.std.specs.Prelude.{is_none, nat_lt, ◌&&◌}
use Rattle.std.proofs.lemmas.Bool.{and_parts, ltb-true}
use Rattle.duct_units.specs.declared.side.Side.{Side}
use Rattle.duct_units.specs.Side.{same_side}
use Rattle.duct_definitions.specs.Tree.{Tree, section_count, sections, neighbour, side, is_number, is_root, children, roots}
use Rattle.duct_definitions.specs.Network.{Network, size_count, columns, columns_beside}
use Rattle.duct_definitions.proofs.SectionLists.{is_number-some}
use Rattle.duct_definitions.proofs.Valid.{none_tested}
use Rattle.design_laws.proofs.Among.{Among, Among-filtered, below-range}
use Rattle.least_laws.proofs.DuctsOf.{columns-child}
use Rattle.least_laws.proofs.TreeLists.{All-from_among}
use Rattle.front_certificate.specs.Tests.{AreBeside}

pub child_is : (t : Tree) (s c : ℕ) → Among c (children t s) → (c < section_count t) × (neighbour t c ≡ Some s)
child_is t s c among =
    let found = Among-filtered (λ x. is_number s (neighbour t x)) c (sections t) among in
    let below = below-range 0 (section_count t) c found.0 in
    (omega arith, is_number-some s (neighbour t c) found.1)

pub root_is : (t : Tree) (x : Side) (r : ℕ) → Among r (roots t x) → (r < section_count t) × (neighbour t r ≡ None)
root_is t x r among =
    let found = Among-filtered (λ s. same_side (side t s) x && is_root t s) r (sections t) among in
    let is = (and_parts (same_side (side t r) x) (is_root t r) found.1).1 in
    let (less, none) = and_parts (nat_lt r (section_count t)) (is_none (neighbour t r)) is in
    (ltb-true r (section_count t) less, none_tested (neighbour t r) none)

pub root_beside : (net : Network) (x : Side) (r : ℕ) → Among r (roots net.tree x) → 0 < columns net r
root_beside net x r among =
    let one = ap (columns_beside net) (root_is net.tree x r among).1 in omega arith

pub children-beside : (net : Network) (s k : ℕ) → k < size_count net s → AreBeside net k (children net.tree s)
children-beside net s k size = record {
  in_range = All-from_among (λ c. c < section_count net.tree) (children net.tree s) (λ c among. (child_is net.tree s c among).0);
  sizes = All-from_among (λ c. k < columns net c) (children net.tree s) (λ c among.
      let same = columns-child net c s (child_is net.tree s c among).1 in omega arith);
}

pub roots-beside : (net : Network) (x : Side) → AreBeside net 0 (roots net.tree x)
roots-beside net x = record {
  in_range = All-from_among (λ r. r < section_count net.tree) (roots net.tree x) (λ r among. (root_is net.tree x r among).0);
  sizes = All-from_among (λ r. 0 < columns net r) (roots net.tree x) (λ r among. root_beside net x r among);
}
