use Rattle.std.proofs.Common.{ap, sym, ◌∙◌, string_bytes}
use Rattle.std.specs.Prelude.{option_map}
use Rattle.command_words.specs.Arguments.{option_named, with_file, with_value}
use Rattle.command_words.specs.ArgumentsSeen.{arguments_seen}
use Rattle.command_words.proofs.ArgumentLaws.{option_taken, file_taken}
use Rattle.command_words.proofs.arguments.+arguments_from.Goals as goal

pub returns-in_ok-with_value-in-Some-option_named : goal.returns-in_ok-with_value-in-Some-option_named
returns-in_ok-with_value-in-Some-option_named t c =
    let more = c.in_ok-with_value-in-Some-option_named in
    let named = ap option_named (sym c.as_str-in-len2-up.ensures.value) ∙ sym c.option_named-in-len2-up.ensures ∙ c.in-Some-option_named.is in
    let given = ap (with_value (arguments_seen c.args.arguments) c.in-Some-option_named.option) (sym c.as_str-in-Some-option_named.ensures.value)
    ∙ sym c.with_value.ensures ∙ ap (option_map arguments_seen) more.was in
    c.arguments_from.ensures
    ∙ sym (option_taken string_bytes (arguments_seen c.args.arguments) (arguments_seen more.field-0) c.args.words.now
    c.word-item-2.result c.value-item.result c.in-len2-up.len_at_least c.word-item-2.is c.value-item.is c.in-Some-option_named.option named given)

pub returns-in_ok-with_file-in-None-option_named : goal.returns-in_ok-with_file-in-None-option_named
returns-in_ok-with_file-in-None-option_named t c =
    let more = c.in_ok-with_file-in-None-option_named in
    let named = ap option_named (sym c.as_str-in-len2-up.ensures.value) ∙ sym c.option_named-in-len2-up.ensures ∙ c.in-None-option_named.is in
    let given = ap (with_file (arguments_seen c.args.arguments)) (sym c.as_str-in-None-option_named.ensures.value)
    ∙ sym c.with_file-in-None-option_named.ensures ∙ ap (option_map arguments_seen) more.was in
    c.arguments_from-in-None-option_named.ensures
    ∙ sym (file_taken string_bytes (arguments_seen c.args.arguments) (arguments_seen more.field-0) c.args.words.now
    c.word-item-2.result c.value-item.result c.in-len2-up.len_at_least c.word-item-2.is c.value-item.is named given)
