-- The answer to words and files: a status and a text.
use Rattle.std.specs.Prelude.{◌≡◌, ℕ, ◌⊎◌, List, [], Option, Some, None, option_map, MatchOption, MatchResult}
use Rattle.duct_units.specs.declared.fault.Reason.TheVariants.{TooLong}
use Rattle.duct_units.specs.Rules.{file_fault}
use Rattle.duct_definitions.specs.declared.design.Design.{Design}
use Rattle.duct_definitions.specs.declared.listed.RuleCount.{RuleCount}
use Rattle.duct_definitions.specs.Network.{Network}
use Rattle.duct_definitions.specs.Order.{IsBest, NoneMeets}
use Rattle.duct_definitions.specs.Balance.{IsBalanced}
use Rattle.duct_definitions.specs.DesignText.{text, listed, none_text}
use Rattle.duct_cli.specs.declared.status.TheConstants.{FOUND, REFUSED, REFUSED_WORDS, NONE_FOUND}
use Rattle.command_words.specs.declared.commands.FileKind.TheVariants.{Network as network_file, Project as project_file, Sizes as sizes_file, Ducts as ducts_file}
use Rattle.file_definitions.specs.Document.{document_of}
use Rattle.network_file.specs.NetworkFile.{network_of}
use Rattle.project_file.specs.Raised.{migrating_bytes}
use Rattle.size_catalogue.specs.Catalogue.{Catalogue}
use Rattle.size_catalogue.specs.Reading.{sizes_of}
use Rattle.friction_maker.specs.Making.{air_of}
use Rattle.friction_maker.specs.MadeRows.{made_of}
use Rattle.friction_maker.specs.RowsText.{rows_text}
use Rattle.design_check.specs.Verdicts.{verdict}
use Rattle.duct_load.specs.Made.{made}
use Rattle.duct_load.specs.Summary.{summary}
use Rattle.command_words.specs.RefusalText.{refusal_line, words_line}
use Rattle.duct_cli.specs.declared.designing.Unread.{Unread}
use Rattle.duct_cli.specs.declared.designing.Unread.TheVariants as unread
use Rattle.duct_cli.specs.Designing.{Rules, designing, held_by}
use Rattle.duct_cli.specs.BestDesign.{AnswersDesign}
use Rattle.duct_cli.specs.Certifying.{AnswersCertify, AnswersVerify}
use Rattle.duct_cli.specs.Checking.{checking, verdict_line, verdict_status}
use Rattle.duct_cli.specs.Editing.{AnswersEdit}
use Rattle.duct_cli.specs.Says.{Says}
use Rattle.duct_cli.specs.TakingOff.{AnswersTakeoff}
use Rattle.duct_cli.specs.Taking.{first_too_long}
use Rattle.command_words.specs.Commands.{Command, DesignFiles, FrictionWords, pick, migrate, friction, design, check, make, certify, verify, takeoff, edit, files_of}
use Rattle.command_words.specs.Words.{command_of}

-- the answer for the bytes of a network file
abbrev pub AnswersNetwork : List ℕ → ℕ → List ℕ → Type 0
AnswersNetwork bytes status answer =
    MatchResult (network_of bytes)
    (λ net. AnswersDesign net [] status answer)
    (λ fault. Says REFUSED (refusal_line network_file fault) status answer)

-- the answer for the bytes of a project file that is to be migrated: a text of the migrated document, whose keys stand
-- in any order
abbrev pub AnswersMigration : List ℕ → ℕ → List ℕ → Type 0
AnswersMigration bytes status answer =
    MatchResult (migrating_bytes bytes)
    (λ document. (status ≡ FOUND) × (document_of answer ≡ document))
    (λ fault. Says REFUSED (refusal_line project_file fault) status answer)

-- the answer for the bytes of the ducts of a catalogue: the friction file that is made
abbrev pub AnswersDucts : FrictionWords → Catalogue → List ℕ → ℕ → List ℕ → Type 0
AnswersDucts words catalogue ducts status answer =
    MatchResult (made_of catalogue (air_of words.density words.viscosity) ducts)
    (λ rows. Says FOUND (rows_text catalogue rows) status answer)
    (λ fault. Says REFUSED (refusal_line ducts_file fault) status answer)

-- the answer for the bytes of a catalogue and of its ducts
abbrev pub AnswersFriction : FrictionWords → List ℕ → List ℕ → ℕ → List ℕ → Type 0
AnswersFriction words sizes ducts status answer =
    MatchResult (sizes_of sizes)
    (λ catalogue. AnswersDucts words catalogue ducts status answer)
    (λ fault. Says REFUSED (refusal_line sizes_file fault) status answer)

-- the line of the file that is refused
abbrev pub IsRefusalLine : Unread → ℕ → List ℕ → Type 0
IsRefusalLine (unread.Refused refusal) status answer = Says REFUSED (refusal_line refusal.file refusal.fault) status answer
IsRefusalLine unread.NoMemory status answer = ⊥

-- the answer for the bytes of the files of a design, by the rules that are handed in
abbrev pub AnswersProject : Rules → DesignFiles → ℕ → List ℕ → Type 0
AnswersProject rules bytes status answer =
    MatchResult (designing rules bytes)
    (λ found. AnswersDesign found.0 found.1 status answer)
    (λ refusal. Says REFUSED (refusal_line refusal.file refusal.fault) status answer)

-- the answer for the bytes of the files of a project and of a design text: the first difference, or that there is none
abbrev pub AnswersCheck : Rules → DesignFiles → List ℕ → ℕ → List ℕ → Type 0
AnswersCheck rules bytes text status answer =
    MatchResult (checking rules bytes text)
    (λ found. let found_verdict = verdict found.0 found.1 in
    Says (verdict_status found_verdict) (verdict_line found.0 found_verdict) status answer)
    (λ refusal. Says REFUSED (refusal_line refusal.file refusal.fault) status answer)

-- the summary of a network with its best design, or without one where no design meets the rules
abbrev pub AnswersMade : Network → ℕ → List ℕ → Type 0
AnswersMade net status answer =
    ((d : Design) × IsBest net d × Says FOUND (summary net (Some d)) status answer)
    ⊎ (NoneMeets net × Says NONE_FOUND (summary net None) status answer)

-- what a command says of files that are all short enough
abbrev pub AnswersFiles : Rules → (List ℕ → List ℕ) → Command → ℕ → List ℕ → Type 0
AnswersFiles rules contents (pick network) status answer = AnswersNetwork (contents network) status answer
AnswersFiles rules contents (migrate project) status answer = AnswersMigration (contents project) status answer
AnswersFiles rules contents (friction words) status answer = AnswersFriction words (contents words.sizes) (contents words.ducts) status answer
AnswersFiles rules contents (design files) status answer = AnswersProject rules (held_by contents files) status answer
AnswersFiles rules contents (make n) status answer = AnswersMade (made n) status answer
AnswersFiles rules contents (check files text) status answer = AnswersCheck rules (held_by contents files) (contents text) status answer
AnswersFiles rules contents (certify network) status answer = AnswersCertify (contents network) status answer
AnswersFiles rules contents (verify files) status answer =
    AnswersVerify (contents files.network) (contents files.certificate) (option_map contents files.design) status answer
AnswersFiles rules contents (takeoff files) status answer = AnswersTakeoff (contents files.project) (contents files.design) status answer
AnswersFiles rules contents (edit files script) status answer = AnswersEdit rules (held_by contents files) (contents script) status answer

-- the first file that is too long, or else what the command says
abbrev pub AnswersCommand : Rules → (List ℕ → List ℕ) → Command → ℕ → List ℕ → Type 0
AnswersCommand rules contents command status answer =
    MatchOption (first_too_long contents (files_of command))
    (AnswersFiles rules contents command status answer)
    (λ file. Says REFUSED (refusal_line file (file_fault TooLong)) status answer)

-- refused words are answered whatever the files hold
abbrev pub IsAnswer : Rules → List (List ℕ) → (List ℕ → List ℕ) → ℕ → List ℕ → Type 0
IsAnswer rules words contents status answer =
    MatchOption (command_of words)
    (Says REFUSED_WORDS words_line status answer)
    (λ command. AnswersCommand rules contents command status answer)

-- two texts of one answer are one; two of a migrated project are texts of one document
abbrev pub AreOneText : Option Command → List ℕ → List ℕ → Type 0
AreOneText None one other = one ≡ other
AreOneText (Some (pick network)) one other = one ≡ other
AreOneText (Some (migrate project)) one other = document_of one ≡ document_of other
AreOneText (Some (friction words)) one other = one ≡ other
AreOneText (Some (design files)) one other = one ≡ other
AreOneText (Some (check files text)) one other = one ≡ other
AreOneText (Some (make n)) one other = one ≡ other
AreOneText (Some (certify network)) one other = one ≡ other
AreOneText (Some (verify files)) one other = one ≡ other
AreOneText (Some (takeoff files)) one other = one ≡ other
AreOneText (Some (edit files script)) one other = one ≡ other
