-- The sizes of the design that a text names.
use Rattle.std.proofs.Common.{◌≡◌, ℕ, ◌<◌, Some, sym, ap, ◌∙◌, arith}
use Rattle.std.specs.Prelude.{slice_index}
use Rattle.std.proofs.lemmas.List.FromFn.{get_or-map-range_with_len}
use Rattle.duct_definitions.specs.declared.listed.Listed.{Listed}
use Rattle.duct_definitions.specs.Tree.{section_count, neighbour}
use Rattle.duct_definitions.specs.Network.{Network, pair_at}
use Rattle.duct_definitions.specs.Designs.{pair_of, size_beside}
use Rattle.design_check.specs.Named.{size_of, named}

-- the size of a section is its listed one
pub named_size : (net : Network) (l : Listed) (s : ℕ) → s < section_count net.tree → slice_index (named net l).sizes s ≡ size_of net l s
named_size net l s within = get_or-map-range_with_len (size_of net l) 0 (section_count net.tree) s s 0 within (omega arith)

pub beside_is : (net : Network) (l : Listed) (s n k : ℕ) → neighbour net.tree s ≡ Some n → n < section_count net.tree → k ≡ size_of net l n
    → k ≡ size_beside (named net l) (neighbour net.tree s)
beside_is net l s n k next within is = is ∙ sym (named_size net l n within) ∙ ap (size_beside (named net l)) (sym next)

pub pair_is : (net : Network) (l : Listed) (s k g : ℕ) → s < section_count net.tree → k ≡ size_of net l s → g ≡ size_beside (named net l) (neighbour net.tree s)
    → pair_at net s k g ≡ pair_of net (named net l) s
pair_is net l s k g within size beside = ap (λ n. pair_at net s n g) (size ∙ sym (named_size net l s within)) ∙ ap (pair_at net s (slice_index (named net l).sizes s)) beside
