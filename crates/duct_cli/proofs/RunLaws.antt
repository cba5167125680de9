-- From the reply of a command to what a failed write leaves.
use Rattle.std.proofs.Common.{◌≡◌, ◌≢◌, ◌⊎◌, ℕ, ◌<◌, ◌≤◌, List, Option, Some, None, IfSome, arith, inl, inr, subst, sym, ◌∙◌, refl}
use Rattle.std.specs.Io.KnownBytes.{Appends}
use Rattle.std.specs.Prelude.{MatchOption}
use Rattle.duct_ports.specs.Reading.{Contents}
use Rattle.duct_ports.specs.Writing.{AppendsPart}
use Rattle.command_words.specs.Commands.{Command}
use Rattle.command_words.specs.Words.{command_of}
use Rattle.duct_cli.specs.Designing.{Rules}
use Rattle.command_words.specs.RefusalText.{words_line, fault_line}
use Rattle.duct_cli.specs.Answer.{IsAnswer, AnswersCommand}
use Rattle.duct_cli.specs.Says.{Says}
use Rattle.duct_cli.specs.Reply.{IsReply, IsCommandReply, IsAnswered}
use Rattle.duct_cli.specs.declared.answers.Answer.{Answer}
use Rattle.duct_cli.specs.declared.status.TheConstants.{REFUSED_WORDS, READ_FAULT, WRITE_FAULT, OUT_OF_MEMORY}
use Rattle.duct_cli.specs.declared.reply.Reply.{Reply}
use Rattle.duct_cli.specs.declared.reply.Reply.TheVariants as reply
use Rattle.duct_cli.specs.Run.{Answers, AnswersPart}

module _ (rules : Rules) where
  -- what the command answers is the answer to its words
  answer_of : (o : Option Command) (held : Option Contents) (a : Answer)
      → MatchOption o (◌≡◌ {A = Reply} (reply.Answered a) reply.RefusedWords) (λ command. IsAnswered rules command held a.status a.text)
      → IfSome held (λ contents. MatchOption o (Says REFUSED_WORDS words_line a.status a.text) (λ command. AnswersCommand rules contents command a.status a.text))
  answer_of None held a other = absurd (cc)
  answer_of (Some command) held a answered = answered.answer

  pub answered_is : (words : List (List ℕ)) (held : Option Contents) (MayFault : Type 0) (a : Answer)
      → IsReply rules words held MayFault (reply.Answered a) → IfSome held (λ contents. IsAnswer rules words contents a.status a.text)
  answered_is words held MayFault a replied = answer_of (command_of words) held a replied

  -- a proper prefix of the answer's text
  pub part_of : (words : List (List ℕ)) (held : Option Contents) (MayFault : Type 0) (old new : Option (List ℕ)) (status : ℕ) (text : List ℕ)
      → IfSome held (λ contents. IsAnswer rules words contents status text) → AppendsPart old new text → AnswersPart rules words held MayFault old new
  part_of words None MayFault old new status text answer prefix = tt
  part_of words (Some contents) MayFault old new status text answer prefix = inl (status, text, answer, prefix)

  -- refused words
  refused_answer : (words : List (List ℕ)) (contents : Contents) → command_of words ≡ None → IsAnswer rules words contents REFUSED_WORDS words_line
  refused_answer words contents none = rw none (refl, refl)

  pub refused_part : (words : List (List ℕ)) (held : Option Contents) (MayFault : Type 0) (old new : Option (List ℕ)) (text : List ℕ)
      → command_of words ≡ None → text ≡ words_line → AppendsPart old new text → AnswersPart rules words held MayFault old new
  refused_part words None MayFault old new text none is prefix = tt
  refused_part words (Some contents) MayFault old new text none is prefix =
      inl (REFUSED_WORDS, words_line, refused_answer words contents none, subst (AppendsPart old new) is prefix)

  -- a fault of the files, where there may be one
  fault_of : (o : Option Command) (held : Option Contents) (MayFault : Type 0)
      → MatchOption o (◌≡◌ {A = Reply} reply.ReadFault reply.RefusedWords) (λ command. IsCommandReply rules command held MayFault reply.ReadFault) → MayFault
  fault_of None held MayFault other = absurd (cc)
  fault_of (Some command) held MayFault may = may

  pub fault_part : (words : List (List ℕ)) (held : Option Contents) (MayFault : Type 0) (old new : Option (List ℕ)) (text : List ℕ)
      → IsReply rules words held MayFault reply.ReadFault → text ≡ fault_line → AppendsPart old new text → AnswersPart rules words held MayFault old new
  fault_part words None MayFault old new text replied is prefix = tt
  fault_part words (Some contents) MayFault old new text replied is prefix =
      inr (fault_of (command_of words) (Some contents) MayFault replied, subst (AppendsPart old new) is prefix)

  none_of : (o : Option Command) (held : Option Contents) (MayFault : Type 0)
      → MatchOption o (◌≡◌ {A = Reply} reply.RefusedWords reply.RefusedWords) (λ command. IsCommandReply rules command held MayFault reply.RefusedWords) → o ≡ None
  none_of None held MayFault replied = refl
  none_of (Some command) held MayFault replied = absurd replied

  -- the whole line of refused words was taken
  pub refused_whole : (words : List (List ℕ)) (held : Option Contents) (old new : Option (List ℕ)) (result : ℕ) (text : List ℕ)
      → command_of words ≡ None → text ≡ words_line → result ≡ REFUSED_WORDS → Appends old new text → Answers rules words held result old new
  refused_whole words None old new result text none is same whole = tt
  refused_whole words (Some contents) old new result text none is same whole =
      (words_line, subst (λ s. IsAnswer rules words contents s words_line) (sym same) (refused_answer words contents none), subst (Appends old new) is whole)

  -- a read fault is told only where there may be one
  pub may_fault : (words : List (List ℕ)) (held : Option Contents) (MayFault : Type 0) → IsReply rules words held MayFault reply.ReadFault → MayFault
  may_fault words held MayFault replied = fault_of (command_of words) held MayFault replied

  -- only refused words are told as such
  pub refused_is : (words : List (List ℕ)) (held : Option Contents) (MayFault : Type 0) → IsReply rules words held MayFault reply.RefusedWords → command_of words ≡ None
  refused_is words held MayFault replied = none_of (command_of words) held MayFault replied

  -- ---- the status that was finished with

  below_of : (o : Option Command) (held : Option Contents) (MayFault : Type 0) (a : Answer)
      → MatchOption o (◌≡◌ {A = Reply} (reply.Answered a) reply.RefusedWords) (λ command. IsAnswered rules command held a.status a.text)
      → (a.status < READ_FAULT) × (a.status ≢ REFUSED_WORDS)
  below_of None held MayFault a other = absurd (cc)
  below_of (Some command) held MayFault a answered = (answered.status_below, answered.status_other)

  -- the status of an answer is neither a fault's nor that of refused words
  pub answered_below : (words : List (List ℕ)) (held : Option Contents) (MayFault : Type 0) (a : Answer)
      → IsReply rules words held MayFault (reply.Answered a) → (a.status < READ_FAULT) × (a.status ≢ REFUSED_WORDS)
  answered_below words held MayFault a replied = below_of (command_of words) held MayFault a replied

  -- the whole text was taken
  pub whole_of : (words : List (List ℕ)) (held : Option Contents) (old new : Option (List ℕ)) (result : ℕ) (a : Answer)
      → IfSome held (λ contents. IsAnswer rules words contents a.status a.text) → result ≡ a.status → Appends old new a.text → Answers rules words held result old new
  whole_of words None old new result a answer same whole = tt
  whole_of words (Some contents) old new result a answer same whole = (a.text, subst (λ s. IsAnswer rules words contents s a.text) (sym same) answer, whole)

module _ (result status : ℕ) (below : status < READ_FAULT) (known : (result ≡ status) ⊎ (result ≡ WRITE_FAULT)) where
  pub known_most : result ≤ OUT_OF_MEMORY
  known_most = elim known [ inl is ↦ omega arith | inr is ↦ omega arith ]

  pub known_status : result < READ_FAULT → result ≡ status
  known_status less = elim known [ inl is ↦ is | inr is ↦ absurd (omega arith) ]

  pub known_other : (n : ℕ) → READ_FAULT ≤ n → n ≢ WRITE_FAULT → result ≡ n → ⊥
  known_other n most other here = elim known [ inl is ↦ omega arith | inr is ↦ other (sym here ∙ is) ]

  pub known_refused : status ≢ REFUSED_WORDS → result ≡ REFUSED_WORDS → ⊥
  known_refused other here = elim known [ inl is ↦ other (sym is ∙ here) | inr is ↦ omega arith ]
