use Rattle.std.proofs.Common.{◌≡◌, take}
use Rattle.std.specs.Prelude.{fold}
use Rattle.damper_balance.proofs.NumberLists.{greater, is_of}
use Rattle.damper_balance.proofs.passes.greatest.Given as goal

abbrev pub invariant-loop-leaf : goal.invariant-loop-leaf
invariant-loop-leaf l = l.most ≡ fold (greater (is_of l.tree l.side) l.numbers) 0 (take l.leaf-index l.leaf-items)
