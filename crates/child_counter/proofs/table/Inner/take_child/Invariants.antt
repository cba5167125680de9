use Rattle.child_counter.proofs.table.Inner.take_child.Given as goal

abbrev pub ghosts-take : goal.ghosts-take
ghosts-take a = record { child = a.c }
