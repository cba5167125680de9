use Rattle.project_file.proofs.AscendingLaws.{ascend}
use Rattle.project_file.proofs.depth.keys_ascend.Goals as goal

pub returns : goal.returns
returns c = ascend c.args.table.now.entries c.len-count.ensures.ordered
