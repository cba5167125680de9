use Rattle.child_counter.proofs.Opening.{roots-counted}
use Rattle.child_counter.proofs.beginning.root_count.Goals as goal

pub returns : goal.returns
returns c = rw (c.roots.ensures.value, c.roots-2.ensures.value) (roots-counted c.args.tree.now)
