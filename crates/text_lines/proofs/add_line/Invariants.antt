use Rattle.std.proofs.Common.{◌≡◌, ◌++◌, map, drop}
use Rattle.duct_units.specs.Lines.{line, words_after}
use Rattle.text_lines.proofs.add_line.Given as goal

abbrev pub invariant-loop-word : goal.invariant-loop-word
invariant-loop-word l =
    l.fn.bytes.items ++ line l.first (map (λ word. word.now) l.words) ≡ l.bytes.items ++ words_after
    (map (λ word. word.now) (drop l.word-index l.words))
