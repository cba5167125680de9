use Rattle.std.proofs.Common.{◌≡◌, ℕ, map, take, Some}
use Rattle.net_build.proofs.sections.all_there.Given as goal

-- the numbers so far are there
abbrev pub invariant-loop-number : goal.invariant-loop-number
invariant-loop-number l = l.there.items ≡ map (λ (number : ℕ). Some number) (take l.number-index l.numbers)
