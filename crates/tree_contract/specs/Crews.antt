-- What a worker is before its work, and what it did.
--   NotesLeavesOf t share pass          the pass has noted each leaf of the share as found claimed
--   IsReady which hand pass             the worker has done nothing
--   HasWorked which old new pass        its hand has given all, and each leaf of its share is noted
use Rattle.std.specs.Prelude.{◌≡◌, ℕ, List, IsTrue}
use Rattle.duct_definitions.specs.Tree.{Tree, is_leaf}
use Rattle.schedule_core.specs.Schedule.{is_in}
use Rattle.child_counter.specs.Public.{Which, PassData}
use Rattle.steal_pool.specs.Hands.{HandView}
use Rattle.tree_contract.specs.Turns.{IsFree}

-- each leaf of the share is noted as found claimed
abbrev pub NotesLeavesOf : Tree → List ℕ → PassData → Type 0
NotesLeavesOf t share pass =
    (s : ℕ) → IsTrue (is_in share s) → IsTrue (is_leaf t s) → IsTrue (is_in pass.view.noted s)

-- a worker that has done nothing
pub record IsReady (which : Which) (hand : HandView) (pass : PassData) : Type 0 where
  pub free : IsFree which pass
  pub part : pass.view.parts ≡ 1
  pub fresh : hand.rest ≡ hand.fixed.share

-- a worker whose hand has given all
pub record HasWorked (which : Which) (old new : HandView) (pass : PassData) : Type 0 where
  pub free : IsFree which pass
  pub part : pass.view.parts ≡ 1
  pub hand : new.fixed ≡ old.fixed
  pub noted : NotesLeavesOf which.net.tree old.fixed.share pass
