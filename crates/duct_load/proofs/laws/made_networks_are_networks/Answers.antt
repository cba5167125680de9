use Rattle.duct_load.proofs.NetworkLaws.{made_is_network}
use Rattle.duct_load.proofs.laws.made_networks_are_networks.Goals as goal

pub returns : goal.returns
returns c = λ n some few. made_is_network n some few
