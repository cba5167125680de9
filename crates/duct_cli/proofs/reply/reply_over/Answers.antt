use Rattle.std.proofs.Common.{IfSome, subst, sym}
use Rattle.duct_ports.specs.Faults.{Rose}
use Rattle.duct_cli.specs.Designing.{rules_of}
use Rattle.duct_cli.specs.Taking.{AreWhole}
use Rattle.duct_cli.proofs.ReplyLaws.{AsksOn-command, whole_reply}
use Rattle.command_words.specs.WordsSeen.{command_seen}
use Rattle.duct_cli.proofs.reply.reply_over.Goals as goal

pub returns-in-Whole-clause-reply : goal.returns-in-Whole-clause-reply
returns-in-Whole-clause-reply g c =
    whole_reply (rules_of g.R.SizeRule.allows g.R.SizeRule.label c.args.rules.items) (command_seen c.args.command.now) (g.F.Files.held c.args.files.now) (Rose (g.F.Files.fault_count c.args.files.now) (g.F.Files.fault_count c.take_all.new.files))
    c.args.words.now c.as_slice.result.now c.requires.words c.answer_command.result c.replied.result
    (subst (λ bytes. IfSome (g.F.Files.held c.args.files.now) (λ contents. AreWhole contents c.args.words.now bytes)) (sym c.as_slice.ensures.value) c.in-Whole.ensures.taken.1)
    c.answer_command.ensures.answer c.answer_command.ensures.status c.replied.ensures

pub returns-in-Whole-clause-names : goal.returns-in-Whole-clause-names
returns-in-Whole-clause-names g c = AsksOn-command (command_seen c.args.command.now) c.args.words.now _ _ c.requires.words c.requires.asked c.take_all.ensures.names

pub returns-in-TooLong-clause-names : goal.returns-in-TooLong-clause-names
returns-in-TooLong-clause-names g c = AsksOn-command (command_seen c.args.command.now) c.args.words.now _ _ c.requires.words c.requires.asked c.take_all.ensures.names

pub returns-in-Fault-clause-names : goal.returns-in-Fault-clause-names
returns-in-Fault-clause-names g c = AsksOn-command (command_seen c.args.command.now) c.args.words.now _ _ c.requires.words c.requires.asked c.take_all.ensures.names

pub returns-in-NoMemory-clause-names : goal.returns-in-NoMemory-clause-names
returns-in-NoMemory-clause-names g c = AsksOn-command (command_seen c.args.command.now) c.args.words.now _ _ c.requires.words c.requires.asked c.take_all.ensures.names
