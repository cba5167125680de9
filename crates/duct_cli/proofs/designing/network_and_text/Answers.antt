use Rattle.std.proofs.Common.{Ok}
use Rattle.duct_definitions.specs.declared.listed.Listed.{Listed}
use Rattle.design_text.specs.Reading.{reading}
use Rattle.command_words.specs.declared.commands.FileKind.TheVariants.{Design as text_file}
use Rattle.duct_units.specs.Results.{◌>>=◌}
use Rattle.duct_cli.specs.Designing.{data_of, joined, of_file, rules_of}
use Rattle.duct_cli.specs.DesignBytes.{bytes_seen}
use Rattle.duct_cli.proofs.DesignLaws.{follows, handed_on, refused_first}
use Rattle.duct_cli.proofs.designing.network_and_text.Goals as goal

pub returns-in_err-listed : goal.returns-in_err-listed
returns-in_err-listed g c =
    let rules = rules_of g.R.SizeRule.allows g.R.SizeRule.label c.args.rules.items in
    follows c.in_ok-read.read (data_of (bytes_seen c.args.bytes.now)) _ c.from_residual-in_err-listed.result c.in_ok-read.ensures.value
    (handed_on c.from_residual-in_err-listed.result c.in_err-listed.field-0.0 _ c.from_residual-in_err-listed.ensures.1
    (refused_first c.in_err-listed.field-0.0 (of_file text_file (reading c.args.text.now))
    (λ (l : Listed). joined rules c.in_ok-read.read >>= λ found. Ok (found.0, l))
    (c.in_err-listed.ensures.said (reading c.args.text.now) c.read.ensures.value)))

pub returns-in_err-net : goal.returns-in_err-net
returns-in_err-net g c =
    let rules = rules_of g.R.SizeRule.allows g.R.SizeRule.label c.args.rules.items in
    follows c.in_ok-read.read (data_of (bytes_seen c.args.bytes.now)) _ c.from_residual-in_err-net.result c.in_ok-read.ensures.value
    (follows c.in_ok-listed.listed (of_file text_file (reading c.args.text.now))
    (λ (l : Listed). joined rules c.in_ok-read.read >>= λ found. Ok (found.0, l)) c.from_residual-in_err-net.result
    (c.in_ok-listed.ensures.said (reading c.args.text.now) c.read.ensures.value)
    (handed_on c.from_residual-in_err-net.result c.in_err-net.field-0.0 _ c.from_residual-in_err-net.ensures.1
    (refused_first c.in_err-net.field-0.0 (joined rules c.in_ok-read.read) (λ found. Ok (found.0, c.in_ok-listed.listed)) c.in_err-net.ensures)))
