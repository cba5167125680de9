use Rattle.project_file.proofs.MemberLaws.{get_here, get_other}
use Rattle.project_file.proofs.laws.a_value_is_put_at_its_key.Goals as goal

pub returns-clause-here : goal.returns-clause-here
returns-clause-here c = get_here

pub returns-clause-others : goal.returns-clause-others
returns-clause-others c = get_other
