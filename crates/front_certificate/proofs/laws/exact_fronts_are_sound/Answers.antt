use Rattle.front_certificate.proofs.ExactFronts.{exact-sections, exact-total, exact-none}
use Rattle.front_certificate.proofs.laws.exact_fronts_are_sound.Goals as goal

pub returns-clause-sections : goal.returns-clause-sections
returns-clause-sections c net tree fronts exact = exact-sections net tree fronts exact

pub returns-clause-total : goal.returns-clause-total
returns-clause-total c net tree fronts exact = exact-total net tree fronts exact

pub returns-clause-none : goal.returns-clause-none
returns-clause-none c net tree fronts exact = exact-none net tree fronts exact
