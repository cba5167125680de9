use Rattle.std.proofs.Common.{map, All, ap, sym, subst}
use Rattle.duct_definitions.specs.Network.{IsBounded}
use Rattle.net_model.specs.declared.network.NetworkParts.{NetworkParts}
use Rattle.edit_session.specs.Current.{catalogues_of}
use Rattle.edit_session.proofs.Remade.{pairs-bounded, remade-is}
use Rattle.edit_session.proofs.rebuilding.rebuilt.Goals as goal

pub pairs_again-requires-clause-bounds : goal.pairs_again-requires-clause-bounds
pairs_again-requires-clause-bounds g c =
    subst (All (All IsBounded)) (sym (ap (λ (x : NetworkParts). x.pairs) c.into_parts-parts.ensures.parts)) (pairs-bounded c.args.net c.into_parts-parts.ensures.network)

pub new-net-requires : goal.new-net-requires
new-net-requires g c =
    remade-is c.args.project.now (catalogues_of c.args.catalogues.now) c.args.catalogues.now.fans (map g.R.SizeRule.allows c.args.rules.now.items) c.args.net c.into_parts-parts.result c.in_ok-pairs.pairs c.args.fans c.into_parts-parts.ensures.parts
    c.requires.built.frame c.in_ok-pairs.ensures.pairs c.requires.offer c.requires.project c.sizes_are_a_catalogue.ensures c.requires.joined c.requires.fans c.in_ok-pairs.ensures.bounds
