use Rattle.std.proofs.Common.{◌≡◌, ℕ, ◌⊎◌}
use Rattle.std.specs.Prelude.{IsTrue}
use Rattle.duct_definitions.specs.Tree.{is_leaf}
use Rattle.schedule_core.specs.Schedule.{is_in}
use Rattle.tree_contract.specs.Turns.{IsFree}
use Rattle.tree_contract.proofs.worker.answer_all.Given as goal

abbrev pub invariant-loop-task : goal.invariant-loop-task
invariant-loop-task g l = record {
  free : IsFree l.site.counters.now l.pass;
  parts : l.pass.view.parts ≡ l.fn.pass.view.parts;
  hand : l.hand.fixed ≡ l.fn.hand.fixed;
  noted : (s : ℕ) → IsTrue (is_in l.fn.hand.fixed.share s) → IsTrue (is_leaf l.site.counters.now.net.tree s)
      → IsTrue (is_in l.pass.view.noted s) ⊎ IsTrue (is_in l.hand.rest s);
}

abbrev pub decreases-loop-task : goal.decreases-loop-task
decreases-loop-task g l = l.hand.left
