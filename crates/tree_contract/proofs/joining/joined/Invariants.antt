use Rattle.std.proofs.Common.{◌≡◌}
use Rattle.tree_contract.specs.Turns.{KeepsTurn}
use Rattle.tree_contract.proofs.joining.joined.Given as goal

abbrev pub invariant-loop-j : goal.invariant-loop-j
invariant-loop-j l = record {
  join : l.join ≡ record { net = l.net; section = l.fn.turn; added = l.j };
  turn : KeepsTurn l.counters l.fn.turn l.fn.pass l.turn l.pass;
}
