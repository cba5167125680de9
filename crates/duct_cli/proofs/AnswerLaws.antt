-- The answer to words and files is one.
use Rattle.std.proofs.Common.{◌≡◌, ℕ, inl, inr, List, [], Option, Some, None, sym, ◌∙◌, ap}
use Rattle.std.specs.Prelude.{MatchOption, option_map}
use Rattle.duct_definitions.specs.declared.design.Design.{Design}
use Rattle.duct_definitions.specs.declared.listed.RuleCount.{RuleCount}
use Rattle.duct_definitions.specs.Network.{Network}
use Rattle.duct_definitions.specs.DesignText.{text, listed}
use Rattle.duct_definitions.proofs.OrderLaws.{best_is_one}
use Rattle.file_definitions.specs.Document.{document_of}
use Rattle.project_file.specs.Raised.{migrating_bytes}
use Rattle.size_catalogue.specs.Reading.{sizes_of}
use Rattle.friction_maker.specs.Making.{air_of}
use Rattle.friction_maker.specs.MadeRows.{made_of}
use Rattle.duct_load.specs.Made.{made}
use Rattle.duct_load.specs.Summary.{summary}
use Rattle.duct_cli.specs.declared.status.TheConstants.{REFUSED_WORDS}
use Rattle.duct_cli.specs.Checking.{checking}
use Rattle.duct_cli.specs.Designing.{Rules, designing, held_by}
use Rattle.command_words.specs.RefusalText.{words_line}
use Rattle.duct_cli.specs.Taking.{first_too_long}
use Rattle.command_words.specs.Commands.{Command, DesignFiles, FrictionWords, pick, migrate, friction, design, check, make, certify, verify, takeoff, edit, files_of}
use Rattle.command_words.specs.Words.{command_of}
use Rattle.network_file.specs.NetworkFile.{network_of}
use Rattle.duct_cli.specs.Answer.{AnswersProject, AnswersNetwork, AnswersMigration, AnswersFriction, AnswersCheck, AnswersMade, AnswersFiles, AnswersCommand, AreOneText, IsAnswer}
use Rattle.duct_cli.specs.Says.{Says}
use Rattle.duct_cli.proofs.Once.{AreOne, says_once, result_once, option_once}
use Rattle.duct_cli.proofs.BestOnce.{design_once}
use Rattle.duct_cli.proofs.EditingOnce.{edit_once}
use Rattle.duct_cli.proofs.CertifyingOnce.{certify_once, verify_once}
use Rattle.duct_cli.proofs.TakingOffOnce.{takeoff_once}

network_once : (bytes : List ℕ) (s t : ℕ) (one other : List ℕ) → AnswersNetwork bytes s one → AnswersNetwork bytes t other → AreOne s t one other
network_once bytes s t one other =
    result_once (network_of bytes) _ _ _ _ (AreOne s t one other) (λ net. design_once net [] s t one other) (λ fault. says_once _ _ s t one other)

migration_once : (bytes : List ℕ) (s t : ℕ) (one other : List ℕ) → AnswersMigration bytes s one → AnswersMigration bytes t other
    → (s ≡ t) × (document_of one ≡ document_of other)
migration_once bytes s t one other =
    result_once (migrating_bytes bytes) _ _ _ _ ((s ≡ t) × (document_of one ≡ document_of other))
    (λ document says again. (says.0 ∙ sym again.0, says.1 ∙ sym again.1))
    (λ fault says again. let same = says_once _ _ s t one other says again in (same.0, ap document_of same.1))

friction_once : (words : FrictionWords) (sizes ducts : List ℕ) (s t : ℕ) (one other : List ℕ) → AnswersFriction words sizes ducts s one → AnswersFriction words sizes ducts t other
    → AreOne s t one other
friction_once words sizes ducts s t one other =
    result_once (sizes_of sizes) _ _ _ _ (AreOne s t one other)
    (λ catalogue. result_once (made_of catalogue (air_of words.density words.viscosity) ducts) _ _ _ _ (AreOne s t one other)
    (λ rows. says_once _ _ s t one other) (λ fault. says_once _ _ s t one other))
    (λ fault. says_once _ _ s t one other)

project_once : (rules : Rules) (bytes : DesignFiles) (s t : ℕ) (one other : List ℕ) → AnswersProject rules bytes s one → AnswersProject rules bytes t other
    → AreOne s t one other
project_once rules bytes s t one other =
    result_once (designing rules bytes) _ _ _ _ (AreOne s t one other)
    (λ found. design_once found.0 found.1 s t one other) (λ refusal. says_once _ _ s t one other)

check_once : (rules : Rules) (bytes : DesignFiles) (text : List ℕ) (s t : ℕ) (one other : List ℕ) → AnswersCheck rules bytes text s one
    → AnswersCheck rules bytes text t other → AreOne s t one other
check_once rules bytes text s t one other =
    result_once (checking rules bytes text) _ _ _ _ (AreOne s t one other)
    (λ found. says_once _ _ s t one other) (λ refusal. says_once _ _ s t one other)

made_once : (net : Network) (s t : ℕ) (one other : List ℕ) → AnswersMade net s one → AnswersMade net t other → AreOne s t one other
made_once net s t one other (inl best) (inl again) =
    let same : ◌≡◌ {A = List ℕ} (summary net (Some best.0)) (summary net (Some again.0)) = ap (λ (d : Design). summary net (Some d)) (best_is_one net best.0 again.0 best.1 again.1) in
    (best.2.0 ∙ sym again.2.0, best.2.1 ∙ same ∙ sym again.2.1)
made_once net s t one other (inl best) (inr none) = absurd (none.0 best.0 best.1.meets)
made_once net s t one other (inr none) (inl best) = absurd (none.0 best.0 best.1.meets)
made_once net s t one other (inr none) (inr again) = says_once _ _ s t one other none.1 again.1

files_once : (rules : Rules) (contents : List ℕ → List ℕ) (command : Command) (s t : ℕ) (one other : List ℕ)
    → AnswersFiles rules contents command s one → AnswersFiles rules contents command t other → (s ≡ t) × AreOneText (Some command) one other
files_once rules contents (pick network) s t one other = network_once (contents network) s t one other
files_once rules contents (migrate project) s t one other = migration_once (contents project) s t one other
files_once rules contents (friction words) s t one other = friction_once words (contents words.sizes) (contents words.ducts) s t one other
files_once rules contents (design files) s t one other = project_once rules (held_by contents files) s t one other
files_once rules contents (make n) s t one other = made_once (made n) s t one other
files_once rules contents (check files text) s t one other = check_once rules (held_by contents files) (contents text) s t one other
files_once rules contents (certify network) s t one other = certify_once (contents network) s t one other
files_once rules contents (verify files) s t one other =
    verify_once (contents files.network) (contents files.certificate) (option_map contents files.design) s t one other
files_once rules contents (takeoff files) s t one other = takeoff_once (contents files.project) (contents files.design) s t one other
files_once rules contents (edit files script) s t one other = edit_once rules (held_by contents files) (contents script) s t one other

-- one text is one text of any command
one_text : (command : Option Command) (one other : List ℕ) → one ≡ other → AreOneText command one other
one_text None one other same = same
one_text (Some (pick network)) one other same = same
one_text (Some (migrate project)) one other same = ap document_of same
one_text (Some (friction words)) one other same = same
one_text (Some (design files)) one other same = same
one_text (Some (check files text)) one other same = same
one_text (Some (make n)) one other same = same
one_text (Some (certify network)) one other same = same
one_text (Some (verify files)) one other same = same
one_text (Some (takeoff files)) one other same = same
one_text (Some (edit files script)) one other same = same

says_one : (command : Option Command) (status : ℕ) (said : List ℕ) (s t : ℕ) (one other : List ℕ) → Says status said s one → Says status said t other
    → (s ≡ t) × AreOneText command one other
says_one command status said s t one other says again =
    let same = says_once status said s t one other says again in (same.0, one_text command one other same.1)

command_once : (rules : Rules) (contents : List ℕ → List ℕ) (command : Command) (s t : ℕ) (one other : List ℕ)
    → AnswersCommand rules contents command s one → AnswersCommand rules contents command t other → (s ≡ t) × AreOneText (Some command) one other
command_once rules contents command s t one other =
    option_once (first_too_long contents (files_of command)) _ _ _ _ ((s ≡ t) × AreOneText (Some command) one other)
    (files_once rules contents command s t one other) (λ file. says_one (Some command) _ _ s t one other)

words_once : (rules : Rules) (asked : Option Command) (contents : List ℕ → List ℕ) (s t : ℕ) (one other : List ℕ)
    → MatchOption asked (Says REFUSED_WORDS words_line s one) (λ command. AnswersCommand rules contents command s one)
    → MatchOption asked (Says REFUSED_WORDS words_line t other) (λ command. AnswersCommand rules contents command t other)
    → (s ≡ t) × AreOneText asked one other
words_once rules None contents s t one other = says_one None _ _ s t one other
words_once rules (Some command) contents s t one other = command_once rules contents command s t one other

pub answer_once : (rules : Rules) (words : List (List ℕ)) (contents : List ℕ → List ℕ) (s t : ℕ) (one other : List ℕ)
    → IsAnswer rules words contents s one → IsAnswer rules words contents t other → (s ≡ t) × AreOneText (command_of words) one other
answer_once rules words contents s t one other = words_once rules (command_of words) contents s t one other
