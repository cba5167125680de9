-- What the first line of some bytes changes, with the bytes behind it, where the line is of its form.
--   line_at bytes            the line at the front
--   changed_at word rest     what a line that begins with the word says behind it
--   length_at, device_at ..  what stands behind that word
use Rattle.std.specs.Prelude.{ℕ, ◌==◌, if◌then◌else◌, List, codes, Option, Some, None}
use Rattle.std.specs.Str.{bytes_eq}
use Rattle.duct_units.specs.Options.{◌>>=◌}
use Rattle.duct_definitions.specs.declared.airflow.TheConstants.{MAX_FLOW}
use Rattle.duct_definitions.specs.declared.duct.TheConstants.{MAX_LENGTH, MAX_DEVICE}
use Rattle.line_words.specs.Words.{cut, name_before, number_before}
use Rattle.edit_script.specs.declared.script.Change.TheVariants.{Length, Device, Airflow, Preset}
use Rattle.edit_script.specs.declared.script.ScriptLine.{ScriptLine}

-- a section, and a number of at most this
unfoldable pub numbered_at : ℕ → List ℕ → Option ((List ℕ × ℕ) × List ℕ)
numbered_at most bytes = do
  section ← name_before 32 bytes
  number ← number_before most 10 section.1
  Some ((section.0, number.0), number.1)

-- a section, and the length that it is to have
unfoldable pub length_at : List ℕ → Option (ScriptLine × List ℕ)
length_at bytes = do
  found ← numbered_at MAX_LENGTH bytes
  Some (record { section = found.0.0; change = Length found.0.1 }, found.1)

-- a section, and the loss that its device is to have
unfoldable pub device_at : List ℕ → Option (ScriptLine × List ℕ)
device_at bytes = do
  found ← numbered_at MAX_DEVICE bytes
  Some (record { section = found.0.0; change = Device found.0.1 }, found.1)

-- a section, and the airflow that it is to have, which is not 0
unfoldable pub airflow_at : List ℕ → Option (ScriptLine × List ℕ)
airflow_at bytes = do
  found ← numbered_at MAX_FLOW bytes
  if found.0.1 == 0 then None else Some (record { section = found.0.0; change = Airflow found.0.1 }, found.1)

-- a section, and the size that it is to have
unfoldable pub preset_at : List ℕ → Option (ScriptLine × List ℕ)
preset_at bytes = do
  section ← name_before 32 bytes
  size ← name_before 10 section.1
  Some (record { section = section.0; change = Preset (Some size.0) }, size.1)

-- a section that may have any size of its list
unfoldable pub free_at : List ℕ → Option (ScriptLine × List ℕ)
free_at bytes = do
  section ← name_before 10 bytes
  Some (record { section = section.0; change = Preset None }, section.1)

-- what a line that begins with the word says behind it
abbrev pub changed_at : List ℕ → List ℕ → Option (ScriptLine × List ℕ)
changed_at word rest =
    if bytes_eq word (codes "length") then length_at rest
    else if bytes_eq word (codes "device") then device_at rest
    else if bytes_eq word (codes "airflow") then airflow_at rest
    else if bytes_eq word (codes "preset") then preset_at rest
    else if bytes_eq word (codes "free") then free_at rest
    else None

-- the line at the front
unfoldable pub line_at : List ℕ → Option (ScriptLine × List ℕ)
line_at bytes = do
  found ← cut 32 bytes
  changed_at found.0 found.1
