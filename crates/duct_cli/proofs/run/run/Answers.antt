use Rattle.std.proofs.Common.{◌≢◌, ◌<◌, ℕ, List, Option, arith, inl, inr, map, string_bytes, subst, sym}
use Rattle.std.specs.Io.KnownBytes.{Appends}
use Rattle.duct_ports.specs.Faults.{Rose}
use Rattle.duct_ports.specs.Reading.{Contents}
use Rattle.duct_ports.specs.Writing.{AppendsPart}
use Rattle.duct_cli.proofs.RunLaws.{answered_is, answered_below, known_most, known_status, fault_part, known_other, known_refused, may_fault, part_of, refused_is, refused_part, refused_whole, whole_of}
use Rattle.duct_cli.specs.Designing.{rules_of}
use Rattle.duct_cli.specs.declared.status.TheConstants.{READ_FAULT, REFUSED_WORDS}
use Rattle.duct_cli.proofs.run.run.Given as given
use Rattle.duct_cli.proofs.run.run.Goals as goal

pub returns-in-RefusedWords-clause-write_fault : goal.returns-in-RefusedWords-clause-write_fault
returns-in-RefusedWords-clause-write_fault g c = λ five.
    let words : List (List ℕ) = map string_bytes c.args.words.now in
    let held : Option Contents = g.F.Files.held c.args.files.now in
    let MayFault : Type 0 = Rose (g.F.Files.fault_count c.args.files.now) (g.F.Files.fault_count c.reply_to.new.files) in
    let part = c.finish.ensures.part five in
    (part.0, refused_part (rules_of g.R.SizeRule.allows g.R.SizeRule.label c.args.rules.items) words held MayFault _ _ c.words_text.result.now (refused_is (rules_of g.R.SizeRule.allows g.R.SizeRule.label c.args.rules.items) words held MayFault c.in-RefusedWords.ensures.reply) c.words_text.ensures part.1)

pub returns-in-ReadFault-clause-write_fault : goal.returns-in-ReadFault-clause-write_fault
returns-in-ReadFault-clause-write_fault g c = λ five.
    let words : List (List ℕ) = map string_bytes c.args.words.now in
    let held : Option Contents = g.F.Files.held c.args.files.now in
    let MayFault : Type 0 = Rose (g.F.Files.fault_count c.args.files.now) (g.F.Files.fault_count c.reply_to.new.files) in
    let part = c.finish-in-ReadFault.ensures.part five in
    (part.0, fault_part (rules_of g.R.SizeRule.allows g.R.SizeRule.label c.args.rules.items) words held MayFault _ _ c.fault_text.result.now c.in-ReadFault.ensures.reply c.fault_text.ensures part.1)

pub returns-in-Answered-clause-write_fault : goal.returns-in-Answered-clause-write_fault
returns-in-Answered-clause-write_fault g c = λ five.
    let words : List (List ℕ) = map string_bytes c.args.words.now in
    let held : Option Contents = g.F.Files.held c.args.files.now in
    let MayFault : Type 0 = Rose (g.F.Files.fault_count c.args.files.now) (g.F.Files.fault_count c.reply_to.new.files) in
    let part = c.finish-in-Answered.ensures.part five in (
      part.0,
      part_of (rules_of g.R.SizeRule.allows g.R.SizeRule.label c.args.rules.items) words held MayFault _ _ c.in-Answered.answer.status c.in-Answered.answer.text
          (answered_is (rules_of g.R.SizeRule.allows g.R.SizeRule.label c.args.rules.items) words held MayFault c.in-Answered.answer c.in-Answered.ensures.reply)
          (subst (AppendsPart _ _) c.as_slice.ensures part.1),
    )

-- the status of the answer is neither a fault's nor that of refused words
below : (g : given.Over) (c : goal.After-drop-answer g) → (c.in-Answered.answer.status < READ_FAULT) × (c.in-Answered.answer.status ≢ REFUSED_WORDS)
below g c =
    answered_below (rules_of g.R.SizeRule.allows g.R.SizeRule.label c.args.rules.items) (map string_bytes c.args.words.now) (g.F.Files.held c.args.files.now)
    (Rose (g.F.Files.fault_count c.args.files.now) (g.F.Files.fault_count c.reply_to.new.files)) c.in-Answered.answer c.in-Answered.ensures.reply

pub returns-in-Answered-clause-status : goal.returns-in-Answered-clause-status
returns-in-Answered-clause-status g c =
    known_most c.finish-in-Answered.result c.in-Answered.answer.status (below g c).0 c.finish-in-Answered.ensures.known

pub returns-in-Answered-clause-answer : goal.returns-in-Answered-clause-answer
returns-in-Answered-clause-answer g c = λ less.
    let words : List (List ℕ) = map string_bytes c.args.words.now in
    let held : Option Contents = g.F.Files.held c.args.files.now in
    let a = c.in-Answered.answer in
    let is = known_status c.finish-in-Answered.result a.status (below g c).0 c.finish-in-Answered.ensures.known less in
    whole_of (rules_of g.R.SizeRule.allows g.R.SizeRule.label c.args.rules.items) words held _ _ c.finish-in-Answered.result a (answered_is (rules_of g.R.SizeRule.allows g.R.SizeRule.label c.args.rules.items) words held (Rose (g.F.Files.fault_count c.args.files.now) (g.F.Files.fault_count c.reply_to.new.files)) a c.in-Answered.ensures.reply) is
    (subst (Appends _ _) c.as_slice.ensures (c.finish-in-Answered.ensures.written is))

pub returns-in-Answered-clause-refused_words : goal.returns-in-Answered-clause-refused_words
returns-in-Answered-clause-refused_words g c = λ two.
    let low = below g c in
    absurd (known_refused c.finish-in-Answered.result c.in-Answered.answer.status low.0 c.finish-in-Answered.ensures.known low.1 two)

pub returns-in-Answered-clause-read_fault : goal.returns-in-Answered-clause-read_fault
returns-in-Answered-clause-read_fault g c = λ four.
    let low = below g c in
    absurd (known_other c.finish-in-Answered.result c.in-Answered.answer.status low.0 c.finish-in-Answered.ensures.known _ (omega arith) (λ is. omega arith) four)

pub returns-in-Answered-clause-complete : goal.returns-in-Answered-clause-complete
returns-in-Answered-clause-complete g c = λ read written.
    let low = below g c in
    elim c.finish-in-Answered.ensures.known [
      | inl is ↦ inl (subst (λ (s : ℕ). s < READ_FAULT) (sym is) low.0)
      | inr is ↦ absurd (written (c.finish-in-Answered.ensures.part is).0)
    ]

pub returns-in-Answered-clause-memory : goal.returns-in-Answered-clause-memory
returns-in-Answered-clause-memory g c = λ six.
    let low = below g c in
    absurd (known_other c.finish-in-Answered.result c.in-Answered.answer.status low.0 c.finish-in-Answered.ensures.known _ (omega arith) (λ is. omega arith) six)

pub finish-requires-in-Answered : goal.finish-requires-in-Answered
finish-requires-in-Answered g c five =
    let low = answered_below (rules_of g.R.SizeRule.allows g.R.SizeRule.label c.args.rules.items) (map string_bytes c.args.words.now) (g.F.Files.held c.args.files.now)
    (Rose (g.F.Files.fault_count c.args.files.now) (g.F.Files.fault_count c.reply_to.new.files)) c.in-Answered.answer c.in-Answered.ensures.reply in
    let below = low.0 in absurd (omega arith)

pub returns-in-RefusedWords-clause-answer : goal.returns-in-RefusedWords-clause-answer
returns-in-RefusedWords-clause-answer g c = λ less.
    let rules = rules_of g.R.SizeRule.allows g.R.SizeRule.label c.args.rules.items in
    let words : List (List ℕ) = map string_bytes c.args.words.now in
    let held : Option Contents = g.F.Files.held c.args.files.now in
    let MayFault : Type 0 = Rose (g.F.Files.fault_count c.args.files.now) (g.F.Files.fault_count c.reply_to.new.files) in
    let is = known_status c.finish.result REFUSED_WORDS (omega arith) c.finish.ensures.known less in
    refused_whole rules words held _ _ c.finish.result c.words_text.result.now (refused_is rules words held MayFault c.in-RefusedWords.ensures.reply)
    c.words_text.ensures is (c.finish.ensures.written is)

pub returns-in-RefusedWords-clause-refused_words : goal.returns-in-RefusedWords-clause-refused_words
returns-in-RefusedWords-clause-refused_words g c = λ two. (
  refused_is (rules_of g.R.SizeRule.allows g.R.SizeRule.label c.args.rules.items) (map string_bytes c.args.words.now) (g.F.Files.held c.args.files.now)
      (Rose (g.F.Files.fault_count c.args.files.now) (g.F.Files.fault_count c.reply_to.new.files)) c.in-RefusedWords.ensures.reply,
  subst (Appends _ _) c.words_text.ensures (c.finish.ensures.written two),
)

-- a read fault has its cause
cause : (g : given.Over) (c : goal.After-finish-in-ReadFault g) → Rose (g.F.Files.fault_count c.args.files.now) (g.F.Files.fault_count c.reply_to.new.files)
cause g c =
    may_fault (rules_of g.R.SizeRule.allows g.R.SizeRule.label c.args.rules.items) (map string_bytes c.args.words.now) (g.F.Files.held c.args.files.now)
    (Rose (g.F.Files.fault_count c.args.files.now) (g.F.Files.fault_count c.reply_to.new.files)) c.in-ReadFault.ensures.reply

pub returns-in-ReadFault-clause-read_fault : goal.returns-in-ReadFault-clause-read_fault
returns-in-ReadFault-clause-read_fault g c = λ four. (cause g c, subst (Appends _ _) c.fault_text.ensures (c.finish-in-ReadFault.ensures.written four))

pub returns-in-ReadFault-clause-complete : goal.returns-in-ReadFault-clause-complete
returns-in-ReadFault-clause-complete g c = λ read written. absurd (read (cause g c))
