use Rattle.least_laws.proofs.Leasts.{least_in-is, least_in-unique, least_in-step}
use Rattle.least_laws.proofs.least.least_is_one.Goals as goal

pub returns-clause-there : goal.returns-clause-there
returns-clause-there c = least_in-is

pub returns-clause-value : goal.returns-clause-value
returns-clause-value c = least_in-unique

pub returns-clause-step : goal.returns-clause-step
returns-clause-step c = least_in-step
