use Rattle.std.proofs.Common.{◌∙◌}
use Rattle.network_file.proofs.NameLaws.{any_is_among}
use Rattle.network_file.proofs.sizes.is_among.Goals as goal

pub returns : goal.returns
returns c = c.contains.ensures.value ∙ any_is_among c.args.name.now c.args.names.now
