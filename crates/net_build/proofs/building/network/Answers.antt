use Rattle.std.proofs.Common.{map, ap, ◌∙◌, sym, subst}
use Rattle.duct_definitions.specs.Network.{IsNetwork}
use Rattle.net_build.proofs.NetworkLaws.{network-is}
use Rattle.net_build.proofs.building.network.Goals as goal

pub new-requires : goal.new-requires
new-requires c =
    subst IsNetwork
    (sym (network-is c.args.project.now c.args.catalogues.now c.in_ok-copy.field-0 c.in_ok-section_names.field-0 c.in_ok-all_size_names.field-0 c.args.pairs c.args.fans c.args.sections.now c.in_ok-copy.ensures
    (c.in_ok-section_names.ensures ∙ ap (map (λ row. row.name)) c.as_slice.ensures) c.in_ok-all_size_names.ensures c.requires.sections))
    c.requires.network

pub returns : goal.returns
returns c =
    c.new.ensures
    ∙ network-is c.args.project.now c.args.catalogues.now c.in_ok-copy.field-0 c.in_ok-section_names.field-0 c.in_ok-all_size_names.field-0 c.args.pairs c.args.fans c.args.sections.now c.in_ok-copy.ensures
    (c.in_ok-section_names.ensures ∙ ap (map (λ row. row.name)) c.as_slice.ensures) c.in_ok-all_size_names.ensures c.requires.sections
