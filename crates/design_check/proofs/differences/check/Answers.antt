use Rattle.std.proofs.Common.{◌∙◌, sym}
use Rattle.design_check.proofs.YesLaws.{yes_is}
use Rattle.design_check.proofs.ListedLaws.{design_yes}
use Rattle.design_check.proofs.differences.check.Goals as goal

pub returns-clause-yes : goal.returns-clause-yes
returns-clause-yes c = (
  λ e. yes_is c.args.net.now c.args.listed.now c.network_is_valid.ensures (sym c.first_difference.ensures.value ∙ e),
  λ is. c.first_difference.ensures.value ∙ design_yes c.args.net.now c.args.listed.now c.network_is_valid.ensures is,
)
