use Rattle.std.proofs.Common.{◌≡◌, ◌++◌, drop}
use Rattle.std.specs.List.{flat_map}
use Rattle.duct_definitions.specs.DesignText.{refused_line}
use Rattle.design_text.proofs.lines.add_refusals.Given as goal

-- the text so far and the lines of the rules that are left are the whole text
abbrev pub invariant-loop-rule : goal.invariant-loop-rule
invariant-loop-rule l =
    l.fn.text ++ flat_map refused_line l.refusals ≡ l.text ++ flat_map refused_line (drop l.rule-index l.refusals)
