use Rattle.project_file.proofs.ValidLaws.{flow_count}
use Rattle.project_file.proofs.laws.a_project_has_an_airflow_of_each_section.Goals as goal

pub returns : goal.returns
returns c = flow_count
