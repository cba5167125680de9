-- The text of the best design of a network, or of none.
use Rattle.std.specs.Prelude.{ℕ, ◌⊎◌, List}
use Rattle.duct_definitions.specs.declared.design.Design.{Design}
use Rattle.duct_definitions.specs.declared.listed.RuleCount.{RuleCount}
use Rattle.duct_definitions.specs.Balance.{IsBalanced}
use Rattle.duct_definitions.specs.DesignText.{text, listed, none_text}
use Rattle.duct_definitions.specs.Network.{Network}
use Rattle.duct_definitions.specs.Order.{IsBest, NoneMeets}
use Rattle.duct_cli.specs.declared.status.TheConstants.{FOUND, NONE_FOUND}
use Rattle.duct_cli.specs.Says.{Says}

-- the text of the best design, whose dampers make every path take its fan's pressure; or the text of none with how many
-- pairs each rule refused, where no design meets the rules
abbrev pub AnswersDesign : Network → List RuleCount → ℕ → List ℕ → Type 0
AnswersDesign net refusals status answer =
    ((d : Design) × IsBest net d × IsBalanced net d × Says FOUND (text (listed net d)) status answer)
    ⊎ (NoneMeets net × Says NONE_FOUND (none_text net.name refusals) status answer)
