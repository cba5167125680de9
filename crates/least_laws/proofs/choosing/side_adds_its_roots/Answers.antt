use Rattle.least_laws.proofs.Exact.{side_least-exact, side_least-le}
use Rattle.least_laws.proofs.choosing.side_adds_its_roots.Goals as goal

pub returns-clause-value : goal.returns-clause-value
returns-clause-value c = side_least-exact

pub returns-clause-bounds : goal.returns-clause-bounds
returns-clause-bounds c net valid x budget = side_least-le net valid.tree x budget valid
