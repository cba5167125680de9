use Rattle.project_edit.proofs.Untouched.{sizes-kept, unchanged-beyond}
use Rattle.project_edit.proofs.laws.an_untouched_section_is_as_before.Goals as goal

pub returns-clause-same : goal.returns-clause-same
returns-clause-same c p all e s is named within off = sizes-kept p all e s is named within off

pub returns-clause-beyond : goal.returns-clause-beyond
returns-clause-beyond c t change x s y tree named within off beyond = unchanged-beyond t change x s y tree named within off beyond
