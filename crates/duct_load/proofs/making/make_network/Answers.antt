use Rattle.std.proofs.Common.{sym, ◌∙◌, subst}
use Rattle.duct_definitions.specs.Network.{IsNetwork}
use Rattle.duct_load.proofs.NetworkLaws.{made_is_network, made_of_parts}
use Rattle.duct_load.proofs.making.make_network.Goals as goal

pub new-requires : goal.new-requires
new-requires c =
    subst IsNetwork
    (sym (made_of_parts c.args.n _ _ _ _ _ _ c.project_name.ensures c.in_ok-tree_of.ensures c.in_ok-names_with.ensures c.in_ok-all_sizes.ensures c.in_ok-all_pairs.ensures c.in_ok-fans.ensures))
    (made_is_network c.args.n c.requires.some c.requires.few)

pub returns : goal.returns
returns c =
    c.new.ensures
    ∙ made_of_parts c.args.n _ _ _ _ _ _ c.project_name.ensures c.in_ok-tree_of.ensures c.in_ok-names_with.ensures c.in_ok-all_sizes.ensures c.in_ok-all_pairs.ensures c.in_ok-fans.ensures
