use Rattle.std.proofs.Common.{◌≡◌, ◌*◌, map, take, All}
use Rattle.duct_definitions.specs.Network.{IsBounded}
use Rattle.net_build.specs.Asking.{Asked}
use Rattle.net_build.specs.Built.{pairs_of}
use Rattle.net_build.specs.Refusals.{refusals_of, CountsWithin}
use Rattle.net_build.proofs.by_section.all_built.Given as goal

abbrev pub invariant-loop-s : goal.invariant-loop-s
invariant-loop-s g l =
    record {
      pairs : l.pairs.items ≡ map (pairs_of l.catalogues (map g.R.SizeRule.allows l.fn.rules.items)) (take l.s l.sections);
      bounds : All (All IsBounded) l.pairs.items;
      refusals : l.refusals.items ≡ map (refusals_of l.catalogues (map g.R.SizeRule.allows l.fn.rules.items) (map g.R.SizeRule.label l.fn.rules.items)) (take l.s l.sections);
      most : All (CountsWithin 576) l.refusals.items;
      asked : Asked g.R.SizeRule.allows g.R.SizeRule.label g.R.SizeRule.count (576 * l.s) l.fn.rules.items l.rules.items;
    }
