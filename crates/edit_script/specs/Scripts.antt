-- Edit scripts. A word is parted from the next by one space, and each line is ended by a line feed.
--   script_line l          the line of a change
--   script_text lines      the text of a script
--   IsScriptOf lines ..    the bytes are the text of these lines, which are few enough and in range
--   HasTooManyLines bytes  bytes stand behind the line feed of the last line that a script may have
--   IsFirstBad n bytes     line n is the first that is not of its form
--   IsReading bytes r      r is what the bytes say: the lines of a script, or the fault for which they are refused
use Rattle.std.specs.Prelude.{◌≡◌, ◌≢◌, ℕ, ◌+◌, ◌-◌, ◌≤◌, ◌==◌, ◌⊎◌, List, [], ◌∷◌, ◌++◌, length, take, codes, count_by, Option, Some, None, Result, Ok, Err, IsTrue}
use Rattle.std.specs.Fmt.{decimal}
use Rattle.std.specs.List.{flat_map, AllByRecursion}
use Rattle.duct_units.specs.Name.{is_name}
use Rattle.duct_units.specs.Lines.{line}
use Rattle.duct_units.specs.Rules.{line_fault}
use Rattle.duct_units.specs.declared.fault.Fault.{Fault}
use Rattle.duct_units.specs.declared.fault.Reason.TheVariants.{Form, TooMany}
use Rattle.duct_units.specs.declared.fault.ReadError.{ReadError}
use Rattle.duct_units.specs.declared.fault.ReadError.TheVariants.{Refused, NoMemory}
use Rattle.duct_definitions.specs.declared.airflow.TheConstants.{MAX_FLOW}
use Rattle.duct_definitions.specs.declared.duct.TheConstants.{MAX_LENGTH, MAX_DEVICE}
use Rattle.edit_script.specs.declared.script.Change.{Change}
use Rattle.edit_script.specs.declared.script.Change.TheVariants.{Length, Device, Airflow, Preset}
use Rattle.edit_script.specs.declared.script.ScriptLine.{ScriptLine}
use Rattle.edit_script.specs.declared.reading.TheConstants.{MAX_LINES}

-- ---- lines

-- the line of a preset, or of none
abbrev pub preset_line : List ℕ → Option (List ℕ) → List ℕ
preset_line section (Some size) = line (codes "preset") (section ∷ size ∷ [])
preset_line section None = line (codes "free") (section ∷ [])

-- the line of a change of the section
abbrev pub change_line : List ℕ → Change → List ℕ
change_line section (Length mm) = line (codes "length") (section ∷ decimal mm ∷ [])
change_line section (Device loss) = line (codes "device") (section ∷ decimal loss ∷ [])
change_line section (Airflow flow) = line (codes "airflow") (section ∷ decimal flow ∷ [])
change_line section (Preset size) = preset_line section size

-- the line of a script
abbrev pub script_line : ScriptLine → List ℕ
script_line l = change_line l.section l.change

-- the text of a script
abbrev pub script_text : List ScriptLine → List ℕ
script_text lines = flat_map script_line lines

-- a preset is a name, where there is one
abbrev pub IsPreset : Option (List ℕ) → Type 0
IsPreset (Some size) = IsTrue (is_name size)
IsPreset None = Unit {0}

-- a change is within its bounds
abbrev pub IsChange : Change → Type 0
IsChange (Length mm) = mm ≤ MAX_LENGTH
IsChange (Device loss) = loss ≤ MAX_DEVICE
IsChange (Airflow flow) = (1 ≤ flow) × (flow ≤ MAX_FLOW)
IsChange (Preset size) = IsPreset size

-- a line has the name of a section, and its change is within its bounds
pub record IsScriptLine (l : ScriptLine) : Type 0 where
  pub section : IsTrue (is_name l.section)
  pub change : IsChange l.change

-- the bytes are the text of these lines, which are few enough and in range
pub record IsScriptOf (lines : List ScriptLine) (bytes : List ℕ) : Type 0 where
  pub few : length lines ≤ MAX_LINES
  pub in_range : AllByRecursion IsScriptLine lines
  pub spelled : bytes ≡ script_text lines

-- ---- refusals

-- how many line feeds stand among the bytes
abbrev pub line_feeds : List ℕ → ℕ
line_feeds bytes = count_by (λ b. b == 10) bytes

-- bytes stand behind the line feed of the last line that a script may have: before the last byte are so many
abbrev pub HasTooManyLines : List ℕ → Type 0
HasTooManyLines bytes = MAX_LINES ≤ line_feeds (take (length bytes - 1) bytes)

-- behind the lines before line n stands something that begins with no line of a script
pub record IsFirstBad (n : ℕ) (bytes : List ℕ) : Type 0 where
  pub lines : List ScriptLine
  pub number : n ≡ length lines + 1
  pub in_range : AllByRecursion IsScriptLine lines
  pub rest : List ℕ
  pub spelled : bytes ≡ script_text lines ++ rest
  pub more : rest ≢ []
  pub bad : (l : ScriptLine) (after : List ℕ) → IsScriptLine l → rest ≡ script_line l ++ after → ⊥

-- the script is too long
pub record NamesLineTooMany (bytes : List ℕ) (fault : Fault) : Type 0 where
  pub long : HasTooManyLines bytes
  pub says : fault ≡ line_fault (MAX_LINES + 1) TooMany

-- the script is not too long, and the fault is that of its first bad line
pub record NamesBadLine (bytes : List ℕ) (fault : Fault) : Type 0 where
  pub short : HasTooManyLines bytes → ⊥
  pub line : ℕ
  pub says : fault ≡ line_fault line Form
  pub first : IsFirstBad line bytes

-- what the bytes say: the lines of a script, or the fault for which they are refused
abbrev pub IsReading : List ℕ → Result (List ScriptLine) Fault → Type 0
IsReading bytes (Ok lines) = IsScriptOf lines bytes
IsReading bytes (Err fault) = NamesLineTooMany bytes fault ⊎ NamesBadLine bytes fault

-- a refusal is what the bytes say; memory may run out at any point
abbrev pub IsRefusal : List ℕ → ReadError → Type 0
IsRefusal bytes NoMemory = Unit {0}
IsRefusal bytes (Refused fault) = IsReading bytes (Err fault)
