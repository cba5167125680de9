use Rattle.std.proofs.Common.{◌≡◌, ◌<◌, ◌∙◌, ◌+◌, ◌++◌, ◌∷◌, [], ap, arith, append-nil, cond, length, length-append, not, sym, subst, take, Option, Err}
use Rattle.std.specs.Prelude.{IfSome}
use Rattle.duct_ports.specs.Reading.{Contents}
use Rattle.duct_cli.specs.Taking.{AreWhole}
use Rattle.duct_cli.proofs.TakingLaws.{AsksOn-part, asked_next, is_too_long, are_whole}
use Rattle.duct_cli.proofs.taking.take_all.Goals as goal

pub returns-in_default-clause-names : goal.returns-in_default-clause-names
returns-in_default-clause-names g c = AsksOn-part _ c.args.words.now 0 _ (sym (append-nil _))

pub returns-in-Err-TooLong-clause-taken : goal.returns-in-Err-TooLong-clause-taken
returns-in-Err-TooLong-clause-taken g c =
    let within : c.loop-word.word-index < length c.args.words.now = omega arith in
    let long = c.read_all.ensures.too_long (c.in-Err-TooLong.is ∙ ap Err c.in-Err-TooLong.field-0-is) in
    is_too_long c.args.words.now c.loop-word.word-index _ within (g.F.Files.held c.args.files.now) _ c.loop-word.taken.items c.loop-word.invariant.kept
    c.loop-word.invariant.whole long

pub returns-in-Err-TooLong-clause-names : goal.returns-in-Err-TooLong-clause-names
returns-in-Err-TooLong-clause-names g c =
    let within : c.loop-word.word-index < length c.args.words.now = omega arith in
    AsksOn-part _ c.args.words.now (c.loop-word.word-index + 1) _ (asked_next c.args.words.now c.loop-word.word-index _ within _ _ _ c.loop-word.invariant.names c.read_all.ensures.names)

pub returns-in-Err-Fault-clause-names : goal.returns-in-Err-Fault-clause-names
returns-in-Err-Fault-clause-names g c =
    let within : c.loop-word.word-index < length c.args.words.now = omega arith in
    AsksOn-part _ c.args.words.now (c.loop-word.word-index + 1) _ (asked_next c.args.words.now c.loop-word.word-index _ within _ _ _ c.loop-word.invariant.names c.read_all.ensures.names)

pub returns-in-Err-NoMemory-clause-names : goal.returns-in-Err-NoMemory-clause-names
returns-in-Err-NoMemory-clause-names g c =
    let within : c.loop-word.word-index < length c.args.words.now = omega arith in
    AsksOn-part _ c.args.words.now (c.loop-word.word-index + 1) _ (asked_next c.args.words.now c.loop-word.word-index _ within _ _ _ c.loop-word.invariant.names c.read_all.ensures.names)

pub returns-then-is_err-clause-names : goal.returns-then-is_err-clause-names
returns-then-is_err-clause-names g c =
    let within : c.loop-word.word-index < length c.args.words.now = omega arith in
    AsksOn-part _ c.args.words.now (c.loop-word.word-index + 1) _ (asked_next c.args.words.now c.loop-word.word-index _ within _ _ _ c.loop-word.invariant.names c.read_all.ensures.names)

pub loop-word-preserved : goal.loop-word-preserved
loop-word-preserved g c =
    let within : c.loop-word.word-index < length c.args.words.now = omega arith in
    let held : Option Contents = g.F.Files.held c.args.files.now in
    let old = c.loop-word.taken.items in
    let more = c.in-Ok-read_all.bytes in
    let pushed : c.push.new.self.items ≡ old ++ more ∷ [] =
    c.push.ensures.items ∙ ap (λ ok. cond ok (old ++ more ∷ []) old) (c.is_err.ensures.negation ∙ ap not c.if-is_err.false) in
    record {
      count = ap length pushed ∙ length-append old (more ∷ []) ∙ ap (λ n. n + 1) c.loop-word.invariant.count;
      names = asked_next c.args.words.now c.loop-word.word-index _ within _ _ _ c.loop-word.invariant.names c.read_all.ensures.names;
      kept = c.read_all.ensures.kept ∙ c.loop-word.invariant.kept;
      faults = (let rose = c.read_all.ensures.count in let before = c.loop-word.invariant.faults in omega arith);
      whole = subst (λ items. IfSome held (λ contents. AreWhole contents (take (c.loop-word.word-index + 1) c.args.words.now) items)) (sym pushed)
          (are_whole c.args.words.now c.loop-word.word-index _ within held _ old more c.loop-word.invariant.kept c.loop-word.invariant.whole
          c.in-Ok-read_all.ensures.whole c.in-Ok-read_all.ensures.bound);
    }
