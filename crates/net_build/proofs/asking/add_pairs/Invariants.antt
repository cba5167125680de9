use Rattle.std.proofs.Common.{◌≡◌, ◌++◌, map, All}
use Rattle.std.specs.List.{range_with_len}
use Rattle.duct_definitions.specs.Network.{IsBounded}
use Rattle.net_build.specs.Asking.{Asked, added}
use Rattle.net_build.specs.Pairs.{pair_of}
use Rattle.net_build.specs.Refusals.{refused_among}
use Rattle.net_build.proofs.PairLaws.{as_pair}
use Rattle.net_build.proofs.asking.add_pairs.Given as goal

abbrev pub invariant-loop-g : goal.invariant-loop-g
invariant-loop-g g l =
    record {
      pairs : l.pairs.items ≡ l.fn.pairs.items ++ map (pair_of l.catalogues (map g.R.SizeRule.allows l.fn.rules.items) l.section) (map (as_pair l.size.place) (range_with_len 0 l.g));
      bounds : All IsBounded l.pairs.items;
      refusals : l.refusals.items ≡ added (refused_among l.catalogues (map g.R.SizeRule.allows l.fn.rules.items) l.section (map (as_pair l.size.place) (range_with_len 0 l.g))) l.fn.refusals.items;
      asked : Asked g.R.SizeRule.allows g.R.SizeRule.label g.R.SizeRule.count l.g l.fn.rules.items l.rules.items;
    }
