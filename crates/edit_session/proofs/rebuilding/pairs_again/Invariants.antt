use Rattle.std.proofs.Common.{◌*◌, map, All}
use Rattle.duct_definitions.specs.Network.{IsBounded}
use Rattle.duct_definitions.specs.Tree.{section_count}
use Rattle.net_build.specs.Asking.{Asked}
use Rattle.net_build.specs.Built.{section_pairs}
use Rattle.net_build.specs.Refusals.{section_refusals, CountsWithin}
use Rattle.project_edit.specs.Touched.{is_touched}
use Rattle.edit_session.specs.Current.{catalogues_of}
use Rattle.edit_session.proofs.Made.{AreMadeTo}
use Rattle.edit_session.proofs.rebuilding.pairs_again.Given as goal

abbrev pub invariant-loop-s : goal.invariant-loop-s
invariant-loop-s g l =
    record {
      pairs : AreMadeTo (section_pairs l.project (catalogues_of l.catalogues) (map g.R.SizeRule.allows l.fn.rules.items)) (is_touched l.project.tree l.edit l.is_cap_kept) (section_count l.project.tree) l.s l.pairs.items;
      counts : AreMadeTo (section_refusals l.project (catalogues_of l.catalogues) (map g.R.SizeRule.allows l.fn.rules.items) (map g.R.SizeRule.label l.fn.rules.items)) (is_touched l.project.tree l.edit l.is_cap_kept) (section_count l.project.tree) l.s l.counts.items;
      bounds : All (All IsBounded) l.pairs.items;
      most : All (CountsWithin 576) l.counts.items;
      asked : Asked g.R.SizeRule.allows g.R.SizeRule.label g.R.SizeRule.count (576 * l.s) l.fn.rules.items l.rules.items;
    }
