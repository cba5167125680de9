use Rattle.tree_contract.proofs.Deepest.{depths-more}
use Rattle.tree_contract.proofs.dealing.depths_of.Goals as goal

pub loop-s-preserved : goal.loop-s-preserved
loop-s-preserved c =
    depths-more c.args.net.now.tree c.loop-s.s c.depth_of.result c.loop-s.depths.items c.push.new.self.items
    c.in_ok-push.ensures.items c.loop-s.invariant c.depth_of.ensures
