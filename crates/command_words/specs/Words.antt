-- The arguments of the command line, which FORMATS calls words: which are accepted, and what they ask for.
--   asked_of words       the command and the workers of the words; none where they are refused
--   command_of words     the command alone
use Rattle.std.specs.Prelude.{ℕ, pos, List, [], ◌∷◌, codes, length, ◌==◌, ◌||◌, Option, Some, None, option_and_then, option_map, slice_get, unsigned_abs, unwrap_or, if◌then◌else◌}
use Rattle.std.specs.Option.{option_map_or}
use Rattle.std.specs.Str.{bytes_eq}
use Rattle.duct_units.specs.Options.{◌>>=◌}
use Rattle.duct_units.specs.Whole.{whole_of}
use Rattle.duct_definitions.specs.declared.limits.TheConstants.{MAX_SECTIONS}
use Rattle.duct_definitions.specs.declared.duct.TheConstants.{MIN_DENSITY, MAX_DENSITY}
use Rattle.friction_maker.specs.declared.limits.TheConstants.{MIN_VISCOSITY, MAX_VISCOSITY}
use Rattle.command_words.specs.declared.workers.TheConstants.{MAX_WORKERS, DEFAULT_WORKERS}
use Rattle.command_words.specs.Arguments.{Arguments, arguments_of, files_alone, files_and_workers, without_workers, without_return_fans, plain, plain_value}
use Rattle.command_words.specs.Commands.{Command, DesignFiles, FrictionWords, VerifyFiles, TakeoffFiles, pick, migrate, friction, design, check, make, certify, verify, takeoff, edit, names_of}

-- a command, and how many workers condense
pub record Asked : Type 0 where
  pub command : Command
  pub workers : ℕ

-- the file at a place, where its word is plain
abbrev pub file_at : List (List ℕ) → ℕ → Option (List ℕ)
file_at files i = option_and_then plain (slice_get files i)

-- the one file of a command
abbrev pub one_file : List (List ℕ) → Option (List ℕ)
one_file files = if length files == 1 then file_at files 0 else None

-- the number that the word spells, where it lies from low to high
abbrev pub whole_number : List ℕ → ℕ → ℕ → Option ℕ
whole_number word low high = option_map unsigned_abs (whole_of word (pos low) (pos high))

-- the number at a place
abbrev pub number_at : List (List ℕ) → ℕ → ℕ → ℕ → Option ℕ
number_at words i low high = slice_get words i >>= λ word. whole_number word low high

-- the words of `friction` by their places; each number in one spelling and within its bounds
abbrev pub friction_words : List (List ℕ) → Option FrictionWords
friction_words words = if length words == 4 then (do
  sizes ← file_at words 0
  ducts ← file_at words 1
  density ← number_at words 2 MIN_DENSITY MAX_DENSITY
  viscosity ← number_at words 3 MIN_VISCOSITY MAX_VISCOSITY
  Some (record { sizes = sizes; ducts = ducts; density = density; viscosity = viscosity })) else None

-- how many sections are made: the one word of `make`
abbrev pub section_count_word : List (List ℕ) → Option ℕ
section_count_word words = if length words == 1 then number_at words 0 1 MAX_SECTIONS else None

-- a project and its catalogues by their places, the return fans by their option
abbrev pub project_words : Arguments → Option DesignFiles
project_words arguments = do
  project ← file_at arguments.files 0
  sizes ← file_at arguments.files 1
  rates ← file_at arguments.files 2
  fittings ← file_at arguments.files 3
  fans ← file_at arguments.files 4
  return_fans ← plain_value arguments.return_fans
  Some (record {
    project = project;
    sizes = sizes;
    friction = rates;
    fittings = fittings;
    fans = fans;
    return_fans = return_fans;
  })

-- the files of `design`
abbrev pub design_words : Arguments → Option DesignFiles
design_words arguments = if length arguments.files == 5 then project_words arguments else None

-- the files of `check`, with the design text behind the others
abbrev pub check_words : Arguments → Option Command
check_words arguments = if length arguments.files == 6 then (do
  files ← project_words arguments
  text ← file_at arguments.files 5
  Some (check files text)) else None

-- the files of `edit`, with the script behind the others
abbrev pub edit_words : Arguments → Option Command
edit_words arguments = if length arguments.files == 6 then (do
  files ← project_words arguments
  script ← file_at arguments.files 5
  Some (edit files script)) else None

-- the third file, which is plain where it stands there
abbrev pub last_file : List (List ℕ) → Option (Option (List ℕ))
last_file files = if length files == 3 then option_map (λ name. Some name) (file_at files 2) else Some None

-- the files of `verify`, with the design text behind the others where it is named
abbrev pub verify_words : List (List ℕ) → Option VerifyFiles
verify_words files = if length files == 2 || length files == 3 then (do
  network ← file_at files 0
  certificate ← file_at files 1
  text ← last_file files
  Some (record { network = network; certificate = certificate; design = text })) else None

-- the files of `takeoff`
abbrev pub takeoff_words : List (List ℕ) → Option TakeoffFiles
takeoff_words files = if length files == 2 then (do
  project ← file_at files 0
  text ← file_at files 1
  Some (record { project = project; design = text })) else None

-- the command of this name
abbrev pub command_from : List ℕ → Arguments → Option Command
command_from name arguments =
    if bytes_eq name (codes "pick") then option_map pick (files_and_workers arguments >>= one_file)
    else if bytes_eq name (codes "migrate") then option_map migrate (files_alone arguments >>= one_file)
    else if bytes_eq name (codes "friction") then option_map friction (files_alone arguments >>= friction_words)
    else if bytes_eq name (codes "design") then option_map design (design_words arguments)
    else if bytes_eq name (codes "make") then option_map make (files_and_workers arguments >>= section_count_word)
    else if bytes_eq name (codes "check") then without_workers arguments >>= check_words
    else if bytes_eq name (codes "certify") then option_map certify (files_and_workers arguments >>= one_file)
    else if bytes_eq name (codes "verify") then option_map verify (files_alone arguments >>= verify_words)
    else if bytes_eq name (codes "takeoff") then option_map takeoff (files_alone arguments >>= takeoff_words)
    else if bytes_eq name (codes "edit") then without_return_fans arguments >>= edit_words
    else None

-- how many workers condense
abbrev pub workers_in : Arguments → Option ℕ
workers_in arguments =
    option_map_or (λ value. whole_number value 1 MAX_WORKERS) arguments.workers (Some DEFAULT_WORKERS)

-- the command and the workers of the words, or none where they are refused
abbrev pub asked_of : List (List ℕ) → Option Asked
asked_of [] = None
asked_of (name ∷ words) = do
  arguments ← arguments_of words
  workers ← workers_in arguments
  command ← command_from name arguments
  Some (record { command = command; workers = workers })

-- the command of the words
abbrev pub command_of : List (List ℕ) → Option Command
command_of words = option_map (λ asked. asked.command) (asked_of words)

-- the names that the words name, none where the words are refused
abbrev pub named_files : List (List ℕ) → List (List ℕ)
named_files words = unwrap_or (option_map names_of (command_of words)) []
