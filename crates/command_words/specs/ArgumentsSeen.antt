-- The words behind a command's name, wherever they lie in memory.
use Rattle.std.specs.Prelude.{option_map}
use Rattle.command_words.specs.declared.arguments.Arguments.{Arguments as Held}
use Rattle.command_words.specs.Arguments.{Arguments}

-- the words
abbrev pub arguments_seen : Held → Arguments
arguments_seen held = record {
  files = held.files;
  workers = option_map (λ word. word.now) held.workers;
  return_fans = option_map (λ word. word.now) held.return_fans;
}
