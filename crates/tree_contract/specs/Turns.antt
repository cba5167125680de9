-- What a worker's pass is between two calls of the counters.
--   IsFree which pass           it has no turn
--   HasTurn which turn pass     it has this turn, and no child is out
--   SameNotes old new           what it noted as found claimed stays, and so do its parts
--   KeepsTurn which turn old new turned   a call hands the turn back as it was, with what the pass noted
use Rattle.std.specs.Prelude.{◌≡◌, ℕ, ◌<◌, false, None, Some}
use Rattle.duct_definitions.specs.Tree.{section_count}
use Rattle.child_counter.specs.Public.{Which, PassData, Belongs}

-- the pass has no turn
pub record IsFree (which : Which) (pass : PassData) : Type 0 where
  pub belongs : Belongs which pass
  pub free : pass.view.turn ≡ None
  pub home : pass.away ≡ false

-- the pass has the turn of this section, and no child is out
pub record HasTurn (which : Which) (turn : ℕ) (pass : PassData) : Type 0 where
  pub belongs : Belongs which pass
  pub its_turn : pass.view.turn ≡ Some turn
  pub within : turn < section_count which.net.tree
  pub home : pass.away ≡ false

-- the leaves noted as found claimed, and the parts, stay
pub record SameNotes (old new : PassData) : Type 0 where
  pub parts : new.view.parts ≡ old.view.parts
  pub noted : new.view.noted ≡ old.view.noted

-- the turn is handed back as it was, no child is out, and what the pass noted stays
pub record KeepsTurn (which : Which) (turn : ℕ) (old : PassData) (turned : ℕ) (new : PassData) : Type 0 where
  pub has_turn : HasTurn which turned new
  pub same : turned ≡ turn
  pub notes : SameNotes old new
