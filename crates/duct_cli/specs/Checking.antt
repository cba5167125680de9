-- What `check` answers: what a design text says otherwise than the design of a project that it names.
--   checking rules bytes text      the network of the files with the fields of the text, or the first refusal: of the files
--                                  in the order of the words, the text last, and then the first name that joins nothing
--   verdict_line net verdict       the line of a verdict
--   verdict_status verdict         its status
use Rattle.std.specs.Prelude.{ℕ, List, [], ◌∷◌, codes, Result, Ok}
use Rattle.duct_units.specs.Lines.{line}
use Rattle.duct_definitions.specs.declared.listed.Listed.{Listed}
use Rattle.duct_definitions.specs.Network.{Network, section_name}
use Rattle.design_text.specs.Reading.{reading}
use Rattle.design_check.specs.declared.verdict.Verdict.{Verdict}
use Rattle.design_check.specs.declared.verdict.Verdict.TheVariants.{Yes, Name, Pair, Loss, Fan, Head, Damper, Cost}
use Rattle.duct_cli.specs.declared.status.TheConstants.{FOUND, NONE_FOUND}
use Rattle.command_words.specs.declared.commands.FileKind.TheVariants.{Design as text_file}
use Rattle.duct_cli.specs.declared.designing.Refusal.{Refusal}
use Rattle.command_words.specs.Commands.{DesignFiles}
use Rattle.duct_units.specs.Results.{◌>>=◌}
use Rattle.duct_cli.specs.Designing.{Rules, data_of, joined, of_file}

-- the network of the files and the fields of the text, or the first refusal
abbrev pub checking : Rules → DesignFiles → List ℕ → Result (Network × Listed) Refusal
checking rules bytes text = do
  said ← data_of bytes
  listed ← of_file text_file (reading text)
  found ← joined rules said
  Ok (found.0, listed)

-- the words of a verdict
abbrev pub verdict_words : Network → Verdict → List (List ℕ)
verdict_words net Yes = codes "yes" ∷ []
verdict_words net Name = codes "no" ∷ codes "name" ∷ []
verdict_words net (Pair s) = codes "no" ∷ codes "pair" ∷ section_name net s ∷ []
verdict_words net (Loss s) = codes "no" ∷ codes "loss" ∷ section_name net s ∷ []
verdict_words net Fan = codes "no" ∷ codes "fan" ∷ []
verdict_words net Head = codes "no" ∷ codes "head" ∷ []
verdict_words net (Damper s) = codes "no" ∷ codes "damper" ∷ section_name net s ∷ []
verdict_words net Cost = codes "no" ∷ codes "cost" ∷ []

-- the line of a verdict
abbrev pub verdict_line : Network → Verdict → List ℕ
verdict_line net verdict = line (codes "check") (verdict_words net verdict)

-- the status of a verdict
abbrev pub verdict_status : Verdict → ℕ
verdict_status Yes = FOUND
verdict_status verdict = NONE_FOUND
