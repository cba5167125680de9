use Rattle.std.proofs.Common.{◌≡◌, ◌*◌, map, All}
use Rattle.std.specs.List.{range_with_len, flat_map}
use Rattle.duct_definitions.specs.Network.{IsBounded}
use Rattle.net_build.specs.Asking.{Asked, added}
use Rattle.net_build.specs.Pairs.{pair_of, pairs_in_size}
use Rattle.net_build.specs.Refusals.{refused_among}
use Rattle.net_build.proofs.asking.section_pairs.Given as goal

abbrev pub invariant-loop-k : goal.invariant-loop-k
invariant-loop-k g l =
    record {
      pairs : l.pairs.items ≡ map (pair_of l.catalogues (map g.R.SizeRule.allows l.fn.rules.items) l.section) (flat_map (pairs_in_size l.section) (range_with_len 0 l.k));
      bounds : All IsBounded l.pairs.items;
      refusals : l.refusals.items ≡ added (refused_among l.catalogues (map g.R.SizeRule.allows l.fn.rules.items) l.section (flat_map (pairs_in_size l.section) (range_with_len 0 l.k))) l.fn.refusals.items;
      asked : Asked g.R.SizeRule.allows g.R.SizeRule.label g.R.SizeRule.count (24 * l.k) l.fn.rules.items l.rules.items;
    }
