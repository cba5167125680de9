-- What comes of taking the files of a command.
--   AsksOn before names after       the names asked for are those before and the first of these
--   first_too_long contents files    the first file that holds more bytes than a file may
--   IsTaken                          the bytes of each file; the first that is too long; or a fault, where there may be one
use Rattle.std.specs.Prelude.{◌≡◌, ℕ, List, [], ◌∷◌, ◌++◌, map, length, Option, Some, None, IfSome, nat_lt, if◌then◌else◌}
use Rattle.duct_ports.specs.Reading.{Contents}
use Rattle.duct_ports.specs.declared.read.TheConstants.{MAX_FILE_BYTES}
use Rattle.duct_cli.specs.declared.taking.Taken.{Taken}
use Rattle.duct_cli.specs.declared.taking.Taken.TheVariants as taken
use Rattle.command_words.specs.declared.commands.FileKind.{FileKind}
use Rattle.command_words.specs.declared.commands.FileWord.{FileWord}
use Rattle.command_words.specs.Commands.{NamedFile}
use Rattle.command_words.specs.WordsSeen.{file_seen}

-- the names of the files
abbrev pub names_seen : List FileWord → List (List ℕ)
names_seen words = map (λ word. word.name.now) words

-- the names asked for are those before, and then the first of these
abbrev pub AsksOn : List (List ℕ) → List (List ℕ) → List (List ℕ) → Type 0
AsksOn before names after = (rest : List (List ℕ)) × (after ++ rest ≡ before ++ names)

-- the first file that holds more bytes than a file may
abbrev pub first_too_long : Contents → List NamedFile → Option FileKind
first_too_long contents [] = None
first_too_long contents (file ∷ files) =
    if nat_lt MAX_FILE_BYTES (length (contents file.name)) then Some file.kind else first_too_long contents files

-- the files hold these bytes, and none of them is too long
pub record AreWhole (contents : Contents) (words : List FileWord) (bytes : List (List ℕ)) : Type 0 where
  pub held : bytes ≡ map contents (names_seen words)
  pub short : first_too_long contents (map file_seen words) ≡ None

-- the bytes of each file; the first that is too long; a fault, where there may be one; or no memory
abbrev pub IsTaken : List FileWord → Option Contents → Type 0 → Taken → Type 0
IsTaken words held MayFault (taken.Whole bytes) =
    (length bytes.items ≡ length words) × IfSome held (λ contents. AreWhole contents words bytes.items)
IsTaken words held MayFault (taken.TooLong kind) =
    IfSome held (λ contents. first_too_long contents (map file_seen words) ≡ Some kind)
IsTaken words held MayFault taken.Fault = MayFault
IsTaken words held MayFault taken.NoMemory = Unit {0}
