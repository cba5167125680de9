use Rattle.least_laws.proofs.AgreeingNetworks.{least_agrees, columns-agree}
use Rattle.least_laws.proofs.Exact.{exact_agrees}
use Rattle.least_laws.proofs.least.least_depends_on_pairs_beyond.Goals as goal

pub returns-clause-least : goal.returns-clause-least
returns-clause-least c = least_agrees

pub returns-clause-columns : goal.returns-clause-columns
returns-clause-columns c = columns-agree

pub returns-clause-exact : goal.returns-clause-exact
returns-clause-exact c = exact_agrees
