-- What accepted words ask for, and which files they name.
--   files_of command    the files that the command names, in the order in which they are taken
use Rattle.std.specs.Prelude.{ℕ, ◌≤◌, ⊤, List, [], ◌∷◌, ◌++◌, map, Option, Some, None}
use Rattle.duct_definitions.specs.declared.limits.TheConstants.{MAX_SECTIONS}
use Rattle.duct_definitions.specs.declared.duct.TheConstants.{MIN_DENSITY, MAX_DENSITY}
use Rattle.friction_maker.specs.declared.limits.TheConstants.{MIN_VISCOSITY, MAX_VISCOSITY}
use Rattle.command_words.specs.declared.commands.FileKind.{FileKind}
use Rattle.command_words.specs.declared.commands.FileKind.TheVariants.{Network, Project, Sizes, Ducts, Friction, Fittings, Fans, ReturnFans, Design as DesignText, Certificate, Script}

-- the files of a project, its catalogues, and the return fans where they are offered
pub record DesignFiles : Type 0 where
  pub project : List ℕ
  pub sizes : List ℕ
  pub friction : List ℕ
  pub fittings : List ℕ
  pub fans : List ℕ
  pub return_fans : Option (List ℕ)

-- the words of `friction`: a catalogue, its ducts, and the air that they carry
pub record FrictionWords : Type 0 where
  pub sizes : List ℕ
  pub ducts : List ℕ
  pub density : ℕ
  pub viscosity : ℕ

-- the words of `verify`: a network, a certificate, and the text of a design where it is named
pub record VerifyFiles : Type 0 where
  pub network : List ℕ
  pub certificate : List ℕ
  pub design : Option (List ℕ)

-- the words of `takeoff`: a project and the text of its design
pub record TakeoffFiles : Type 0 where
  pub project : List ℕ
  pub design : List ℕ

-- what accepted words ask for
pub data Command : Type 0 where
  -- the least-cost design of a network file
  pick : List ℕ → Command
  -- a project file in format 2
  migrate : List ℕ → Command
  -- a friction file for a catalogue
  friction : FrictionWords → Command
  -- the least-cost design of a project
  design : DesignFiles → Command
  -- what a design text says otherwise than the design of a project that it names
  check : DesignFiles → List ℕ → Command
  -- the summary of the made network of so many sections
  make : ℕ → Command
  -- a certificate of a network file
  certify : List ℕ → Command
  -- whether a certificate is sound, and whether a design is certified by it
  verify : VerifyFiles → Command
  -- what to buy for a design of a project
  takeoff : TakeoffFiles → Command
  -- the least-cost design of a project, and the one after each line of a script
  edit : DesignFiles → List ℕ → Command

-- density and viscosity are within their bounds
abbrev pub IsAirInBounds : ℕ → ℕ → Type 0
IsAirInBounds density viscosity =
    (MIN_DENSITY ≤ density) × (density ≤ MAX_DENSITY) × (MIN_VISCOSITY ≤ viscosity) × (viscosity ≤ MAX_VISCOSITY)

-- a made network has so many sections
abbrev pub IsSectionCount : ℕ → Type 0
IsSectionCount n = (1 ≤ n) × (n ≤ MAX_SECTIONS)

-- the numbers of a command are within their bounds, where it has any
abbrev pub IsInBounds : Command → Type 0
IsInBounds (pick network) = ⊤
IsInBounds (migrate project) = ⊤
IsInBounds (friction words) = IsAirInBounds words.density words.viscosity
IsInBounds (design files) = ⊤
IsInBounds (check files text) = ⊤
IsInBounds (make n) = IsSectionCount n
IsInBounds (certify network) = ⊤
IsInBounds (verify files) = ⊤
IsInBounds (takeoff files) = ⊤
IsInBounds (edit files script) = ⊤

-- a file by what it is and by its name
pub record NamedFile : Type 0 where
  pub kind : FileKind
  pub name : List ℕ

-- a file of the kind with the name
abbrev pub named : FileKind → List ℕ → NamedFile
named kind name = record { kind = kind; name = name }

-- the file of the return fans, where it is named
abbrev pub return_fans_file : Option (List ℕ) → List NamedFile
return_fans_file None = []
return_fans_file (Some name) = named ReturnFans name ∷ []

-- the files of a design but for the return fans
abbrev pub catalogue_files : DesignFiles → List NamedFile
catalogue_files files =
    named Project files.project ∷ named Sizes files.sizes ∷ named Friction files.friction
    ∷ named Fittings files.fittings ∷ named Fans files.fans ∷ []

-- the files of a project, its catalogues and the return fans
abbrev pub project_files : DesignFiles → List NamedFile
project_files files = catalogue_files files ++ return_fans_file files.return_fans

-- the text of a design, where it is named
abbrev pub design_file : Option (List ℕ) → List NamedFile
design_file None = []
design_file (Some name) = named DesignText name ∷ []

-- the files of `verify`
abbrev pub verify_files : VerifyFiles → List NamedFile
verify_files files = named Network files.network ∷ named Certificate files.certificate ∷ design_file files.design

-- the files of a command, in the order in which they are taken
abbrev pub files_of : Command → List NamedFile
files_of (pick network) = named Network network ∷ []
files_of (migrate project) = named Project project ∷ []
files_of (friction words) = named Sizes words.sizes ∷ named Ducts words.ducts ∷ []
files_of (design files) = project_files files
files_of (make n) = []
files_of (certify network) = named Network network ∷ []
files_of (verify files) = verify_files files
files_of (takeoff files) = named Project files.project ∷ named DesignText files.design ∷ []
files_of (edit files script) = project_files files ++ named Script script ∷ []
files_of (check files text) = project_files files ++ named DesignText text ∷ []

-- the names of the files of a command, in the order in which they are taken
abbrev pub names_of : Command → List (List ℕ)
names_of command = map (λ file. file.name) (files_of command)
