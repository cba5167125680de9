-- The words behind a command's name: its files, and the values of its options.
--   arguments_of words     what the words are; none where an option has no value or stands twice, or where more files are
--                          named than a run may ask for
--   plain word             the word, where it is not empty and no option
use Rattle.std.specs.Prelude.{ℕ, List, [], ◌∷◌, ◌++◌, codes, length, nat_le, Bool, false, ◌==◌, not, Option, Some, None, is_some, option_map, if◌then◌else◌}
use Rattle.std.specs.Option.{option_map_or}
use Rattle.std.specs.Str.{bytes_eq}
use Rattle.duct_units.specs.Options.{◌>>=◌}
use Rattle.duct_ports.specs.declared.files.TheConstants.{MAX_NAMES}
use Rattle.command_words.specs.declared.arguments.OptionName.{OptionName}
use Rattle.command_words.specs.declared.arguments.OptionName.TheVariants.{Workers, ReturnFans}

-- the words that name files, in order, and the values of the options that stand there
pub record Arguments : Type 0 where
  pub files : List (List ℕ)
  pub workers : Option (List ℕ)
  pub return_fans : Option (List ℕ)

-- no word yet
abbrev pub no_arguments : Arguments
no_arguments = record { files = []; workers = None; return_fans = None }

-- the option that the word names
abbrev pub option_named : List ℕ → Option OptionName
option_named word =
    if bytes_eq word (codes "--workers") then Some Workers
    else if bytes_eq word (codes "--return-fans") then Some ReturnFans
    else None

-- with the value of an option; none where it has one
abbrev pub with_value : Arguments → OptionName → List ℕ → Option Arguments
with_value arguments Workers value =
    if is_some arguments.workers then None else Some (record arguments { workers = Some value })
with_value arguments ReturnFans value =
    if is_some arguments.return_fans then None else Some (record arguments { return_fans = Some value })

-- with one file more, where there is room
abbrev pub with_file : Arguments → List ℕ → Option Arguments
with_file arguments word =
    if nat_le MAX_NAMES (length arguments.files) then None
    else Some (record arguments { files = arguments.files ++ word ∷ [] })

-- with the words: an option takes the word behind it as its value, and every other word is a file
abbrev pub arguments_from : Arguments → List (List ℕ) → Option Arguments
arguments_from arguments [] = Some arguments
arguments_from arguments (word ∷ []) = if is_some (option_named word) then None else with_file arguments word
arguments_from arguments (word ∷ value ∷ words) =
    option_map_or
    (λ option. with_value arguments option value >>= λ more. arguments_from more words)
    (option_named word)
    (with_file arguments word >>= λ more. arguments_from more (value ∷ words))

-- what the words are
abbrev pub arguments_of : List (List ℕ) → Option Arguments
arguments_of words = arguments_from no_arguments words

-- the files, where no option stands
abbrev pub files_alone : Arguments → Option (List (List ℕ))
files_alone arguments =
    if is_some arguments.workers then None else if is_some arguments.return_fans then None else Some arguments.files

-- the files, where no return fans are named
abbrev pub files_and_workers : Arguments → Option (List (List ℕ))
files_and_workers arguments = if is_some arguments.return_fans then None else Some arguments.files

-- the same arguments, where no workers are named
abbrev pub without_workers : Arguments → Option Arguments
without_workers arguments = if is_some arguments.workers then None else Some arguments

-- the same arguments, where no return fans are named
abbrev pub without_return_fans : Arguments → Option Arguments
without_return_fans arguments = if is_some arguments.return_fans then None else Some arguments

-- not empty, and no option
abbrev pub is_plain : List ℕ → Bool
is_plain [] = false
is_plain (byte ∷ bytes) = not (byte == 45)

-- the word, where it is not empty and no option
abbrev pub plain : List ℕ → Option (List ℕ)
plain word = if is_plain word then Some word else None

-- the value of an option, which is no option itself; it need not stand there
abbrev pub plain_value : Option (List ℕ) → Option (Option (List ℕ))
plain_value None = Some None
plain_value (Some value) = option_map (λ word. Some word) (plain value)
