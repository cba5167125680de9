-- What a run of the program leaves: the names that it asked for, and what the sink took.
use Rattle.std.specs.Prelude.{◌≡◌, ℕ, ◌⊎◌, List, ◌++◌, Option, IfSome}
use Rattle.std.specs.Io.KnownBytes.{Appends}
use Rattle.duct_ports.specs.Reading.{Contents}
use Rattle.duct_ports.specs.Writing.{AppendsPart}
use Rattle.duct_cli.specs.Answer.{IsAnswer}
use Rattle.duct_cli.specs.Designing.{Rules}
use Rattle.command_words.specs.RefusalText.{fault_line}
use Rattle.command_words.specs.Words.{named_files}

-- the names asked for are the first of the named files, in the order in which they are taken
abbrev pub AsksFor : List (List ℕ) → List (List ℕ) → Type 0
AsksFor words asked = (rest : List (List ℕ)) × (asked ++ rest ≡ named_files words)

-- where the files tell what they hold, the status is the answer's and its whole text was taken
abbrev pub Answers : Rules → List (List ℕ) → Option Contents → ℕ → Option (List ℕ) → Option (List ℕ) → Type 0
Answers rules words held status old new =
    IfSome held (λ contents. (text : List ℕ) × IsAnswer rules words contents status text × Appends old new text)

-- a proper prefix was taken of the answer's text, or of the line of a read fault where there may be one
abbrev pub AnswersPart : Rules → List (List ℕ) → Option Contents → Type 0 → Option (List ℕ) → Option (List ℕ) → Type 0
AnswersPart rules words held MayFault old new =
    IfSome held (λ contents.
    ((status : ℕ) × (text : List ℕ) × IsAnswer rules words contents status text × AppendsPart old new text)
    ⊎ (MayFault × AppendsPart old new fault_line))
