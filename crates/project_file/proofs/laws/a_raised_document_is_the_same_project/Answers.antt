use Rattle.project_file.proofs.RaisedReads.{raised_format, raised_reads}
use Rattle.project_file.proofs.laws.a_raised_document_is_the_same_project.Goals as goal

pub returns-clause-format : goal.returns-clause-format
returns-clause-format c = raised_format

pub returns-clause-project : goal.returns-clause-project
returns-clause-project c = raised_reads
