use Rattle.toml.specs.View.{table_view}
use Rattle.project_file.proofs.DepthLaws.{document_nests}
use Rattle.project_file.proofs.depth.nests_twice_at_most.Goals as goal

pub returns : goal.returns
returns c = document_nests (table_view c.args.document.now) c.requires c.keys_ascend.ensures c.keys_ascend_at.ensures c.keys_ascend_at-2.ensures c.keys_ascend_in_sections.ensures
