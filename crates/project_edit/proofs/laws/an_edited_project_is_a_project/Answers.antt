use Rattle.std.proofs.Common.{◌∙◌}
use Rattle.project_edit.proofs.EditedProjects.{edited-is, edited-joins, flows-refused, is-accepted}
use Rattle.project_edit.proofs.laws.an_edited_project_is_a_project.Goals as goal

pub returns-clause-project : goal.returns-clause-project
returns-clause-project c p sizes e is within bounds none =
    let accepted = is-accepted p sizes e none in
    edited-is p e is within bounds (flows-refused p e is within accepted.leaf ∙ accepted.bounds)

pub returns-clause-joined : goal.returns-clause-joined
returns-clause-joined c p all e is within none joined = edited-joins p all e is within (is-accepted p all.sizes e none).listed joined
