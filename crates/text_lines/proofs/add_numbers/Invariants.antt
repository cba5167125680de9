use Rattle.std.proofs.Common.{◌≡◌, ◌++◌, map, drop}
use Rattle.std.specs.Fmt.{decimal}
use Rattle.duct_units.specs.Lines.{line, words_after}
use Rattle.text_lines.proofs.add_numbers.Given as goal

abbrev pub invariant-loop-n : goal.invariant-loop-n
invariant-loop-n l =
    l.fn.bytes.items ++ line l.first (map (λ n. decimal n) l.numbers) ≡ l.bytes.items ++ words_after
    (map (λ n. decimal n) (drop l.n-index l.numbers))
