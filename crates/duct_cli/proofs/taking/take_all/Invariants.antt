use Rattle.std.proofs.Common.{◌≡◌, ◌≤◌, ◌++◌, length, take}
use Rattle.std.specs.Prelude.{IfSome}
use Rattle.duct_cli.specs.Taking.{AreWhole, names_seen}
use Rattle.duct_cli.proofs.taking.take_all.Given as goal

abbrev pub invariant-loop-word : goal.invariant-loop-word
invariant-loop-word g l = record {
  count : length l.taken.items ≡ l.word-index;
  names : g.F.Files.asked l.files ≡ g.F.Files.asked l.fn.files ++ names_seen (take l.word-index l.words);
  kept : g.F.Files.held l.files ≡ g.F.Files.held l.fn.files;
  faults : g.F.Files.fault_count l.fn.files ≤ g.F.Files.fault_count l.files;
  whole : IfSome (g.F.Files.held l.fn.files) (λ contents. AreWhole contents (take l.word-index l.words) l.taken.items);
}
