-- What a command replies before anything is written.
use Rattle.std.specs.Prelude.{◌≡◌, ◌≢◌, ℕ, ◌<◌, List, Option, IfSome, MatchOption}
use Rattle.duct_ports.specs.Reading.{Contents}
use Rattle.duct_cli.specs.declared.reply.Reply.{Reply}
use Rattle.duct_cli.specs.declared.reply.Reply.TheVariants as reply
use Rattle.duct_cli.specs.declared.status.TheConstants.{READ_FAULT, REFUSED_WORDS}
use Rattle.duct_cli.specs.Answer.{AnswersCommand}
use Rattle.duct_cli.specs.Designing.{Rules}
use Rattle.command_words.specs.Commands.{Command}
use Rattle.command_words.specs.Words.{command_of}

-- the answer of a command, with a status that neither a fault nor refused words have
pub record IsAnswered (rules : Rules) (command : Command) (held : Option Contents) (status : ℕ) (text : List ℕ) : Type 0 where
  pub status_below : status < READ_FAULT
  pub status_other : status ≢ REFUSED_WORDS
  pub answer : IfSome held (λ contents. AnswersCommand rules contents command status text)

-- a fault of the files where there may be one, the answer, or no memory
abbrev pub IsCommandReply : Rules → Command → Option Contents → Type 0 → Reply → Type 0
IsCommandReply rules command held MayFault reply.RefusedWords = ⊥
IsCommandReply rules command held MayFault reply.ReadFault = MayFault
IsCommandReply rules command held MayFault (reply.Answered a) = IsAnswered rules command held a.status a.text
IsCommandReply rules command held MayFault reply.NoMemory = Unit {0}

-- refused words are told as such, and nothing else is
abbrev pub IsReply : Rules → List (List ℕ) → Option Contents → Type 0 → Reply → Type 0
IsReply rules words held MayFault r =
    MatchOption (command_of words) (r ≡ reply.RefusedWords) (λ command. IsCommandReply rules command held MayFault r)
