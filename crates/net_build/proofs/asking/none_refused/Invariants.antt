use Rattle.std.proofs.Common.{◌≡◌, map, take}
use Rattle.net_build.specs.Asking.{none_counted}
use Rattle.net_build.proofs.asking.none_refused.Given as goal

abbrev pub invariant-loop-i : goal.invariant-loop-i
invariant-loop-i g l =
    l.refusals.items ≡ none_counted (map g.R.SizeRule.label (take l.i l.rules.items))
