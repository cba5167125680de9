-- From what came of taking the files to the reply of a command.
use Rattle.std.proofs.Common.{◌≡◌, ◌≢◌, ℕ, ◌<◌, List, [], ◌∷◌, ◌++◌, Option, Some, None, Result, Ok, Err, IfSome, map, refl, ap, sym, ◌∙◌, subst}
use Rattle.std.specs.Prelude.{IfOk, MatchOption, MatchResult}
use Rattle.duct_units.specs.declared.fault.NoMemory.{NoMemory}
use Rattle.duct_ports.specs.Reading.{Contents}
use Rattle.duct_units.specs.declared.fault.Reason.TheVariants.{TooLong}
use Rattle.duct_units.specs.Rules.{file_fault}
use Rattle.duct_cli.specs.Answer.{AnswersCommand, AnswersFiles}
use Rattle.duct_cli.specs.Says.{Says}
use Rattle.duct_cli.specs.Designing.{Rules}
use Rattle.command_words.specs.RefusalText.{refusal_line}
use Rattle.duct_cli.specs.Reply.{IsCommandReply}
use Rattle.duct_cli.specs.Taking.{AreWhole, AsksOn, first_too_long, names_seen}
use Rattle.command_words.specs.Commands.{Command, NamedFile, files_of, names_of}
use Rattle.command_words.specs.WordsSeen.{file_seen}
use Rattle.duct_cli.specs.declared.answers.Answer.{Answer}
use Rattle.duct_cli.specs.declared.reply.Reply.{Reply}
use Rattle.duct_cli.specs.declared.reply.Reply.TheVariants as reply
use Rattle.duct_cli.specs.declared.status.TheConstants.{READ_FAULT, REFUSED, REFUSED_WORDS}
use Rattle.command_words.specs.declared.commands.FileKind.{FileKind}
use Rattle.command_words.specs.declared.commands.FileWord.{FileWord}

names_of_files : (words : List FileWord) → names_seen words ≡ map (λ (file : NamedFile). file.name) (map file_seen words)
names_of_files [] = refl
names_of_files (word ∷ words) = ap (λ names. word.name.now ∷ names) (names_of_files words)

-- the words name the files of the command
pub names_are : (command : Command) (words : List FileWord) → map file_seen words ≡ files_of command → names_seen words ≡ names_of command
names_are command words are = names_of_files words ∙ ap (map (λ (file : NamedFile). file.name)) are

pub AsksOn-command : (command : Command) (words : List FileWord) (asked new : List (List ℕ)) → map file_seen words ≡ files_of command → asked ≡ []
    → AsksOn asked (names_seen words) new → AsksOn [] (names_of command) new
AsksOn-command command words asked new are none asks =
    subst (λ names. AsksOn [] names new) (names_are command words are) (subst (λ before. AsksOn before (names_seen words) new) none asks)

pub AsksOn-none : (names asked : List (List ℕ)) → asked ≡ [] → AsksOn [] names asked
AsksOn-none names asked none = (names, ap (λ before. before ++ names) none)

-- the answer for the bytes that the files hold is the answer of the command
module _ (rules : Rules) (command : Command) (words : List FileWord) (bytes : List (List ℕ)) (are : map file_seen words ≡ files_of command) (a : Answer) where
  answers : (held : Option Contents) → IfSome held (λ contents. AreWhole contents words bytes)
      → ((contents : Contents) → bytes ≡ map contents (names_of command) → AnswersFiles rules contents command a.status a.text)
      → IfSome held (λ contents. AnswersCommand rules contents command a.status a.text)
  answers None whole says = tt
  answers (Some contents) whole says =
      subst (λ (long : Option FileKind). MatchOption long (AnswersFiles rules contents command a.status a.text) (λ file. Says REFUSED (refusal_line file (file_fault TooLong)) a.status a.text))
      (sym (ap (first_too_long contents) (sym are) ∙ whole.short))
      (says contents (whole.held ∙ ap (map contents) (names_are command words are)))

module _ (rules : Rules) (command : Command) (held : Option Contents) (MayFault : Type 0) (words : List FileWord) (bytes : List (List ℕ)) (are : map file_seen words ≡ files_of command) where
  pub whole_reply : (answer : Result Answer NoMemory) (r : Reply) → IfSome held (λ contents. AreWhole contents words bytes)
      → IfOk answer (λ a. (contents : Contents) → bytes ≡ map contents (names_of command) → AnswersFiles rules contents command a.status a.text)
      → IfOk answer (λ a. (a.status < READ_FAULT) × (a.status ≢ REFUSED_WORDS))
      → MatchResult answer (λ a. r ≡ reply.Answered a) (λ _. r ≡ reply.NoMemory) → IsCommandReply rules command held MayFault r
  whole_reply (Ok a) r whole says below is =
      subst (IsCommandReply rules command held MayFault) (sym is)
      (record { status_below = below.0; status_other = below.1; answer = answers rules command words bytes are a held whole says })
  whole_reply (Err error) r whole says below is = subst (IsCommandReply rules command held MayFault) (sym is) tt
