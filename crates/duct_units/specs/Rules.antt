-- Rules over a whole input, of which the first that is broken is the refusal.
--   Rule            a test that has to hold, and the fault where it doesn't
--   file_fault, fan_fault, ..   a fault of the file as a whole, of the n-th fan, ..
--   at_file, at_fan, ..         a rule of the file as a whole, of the n-th fan, ..
--   first_broken    the fault of the first rule whose test fails, or none
--   unless_refused  the value of an input in which no rule is broken, or else the fault
--   Gives           a call answered what reading gives: the value, or the fault; or memory ran out
use Rattle.std.specs.Prelude.{◌≡◌, ℕ, List, [], ◌∷◌, Bool, Option, Some, None, Result, Ok, Err, if◌then◌else◌}
use Rattle.duct_units.specs.declared.fault.Fault.{Fault}
use Rattle.duct_units.specs.declared.fault.Part.{Part}
use Rattle.duct_units.specs.declared.fault.Part.TheVariants.{File, Fan, Section, Row, Size, Table, Line}
use Rattle.duct_units.specs.declared.fault.Reason.{Reason}
use Rattle.duct_units.specs.declared.fault.ReadError.{ReadError}
use Rattle.duct_units.specs.declared.fault.ReadError.TheVariants.{Refused, NoMemory}

-- a test that has to hold, and the fault where it doesn't
pub record Rule : Type 0 where
  pub holds : Bool
  pub fault : Fault

-- a fault at a place of a part, counted from 1; 0 at the file as a whole
abbrev pub fault_at : Part → ℕ → Reason → Fault
fault_at part n reason = record { part = part; place = n; reason = reason }

-- a fault of the file as a whole
abbrev pub file_fault : Reason → Fault
file_fault reason = fault_at File 0 reason

-- a fault of the n-th fan, counted from 1
abbrev pub fan_fault : ℕ → Reason → Fault
fan_fault n reason = fault_at Fan n reason

-- a fault of the n-th section, counted from 1
abbrev pub section_fault : ℕ → Reason → Fault
section_fault n reason = fault_at Section n reason

-- a fault of the n-th row, counted from 1
abbrev pub row_fault : ℕ → Reason → Fault
row_fault n reason = fault_at Row n reason

-- a fault of the n-th size, counted from 1
abbrev pub size_fault : ℕ → Reason → Fault
size_fault n reason = fault_at Size n reason

-- a fault of the n-th table, counted from 1
abbrev pub table_fault : ℕ → Reason → Fault
table_fault n reason = fault_at Table n reason

-- a fault of the n-th line, counted from 1
abbrev pub line_fault : ℕ → Reason → Fault
line_fault n reason = fault_at Line n reason

-- a rule of the file as a whole
abbrev pub at_file : Bool → Reason → Rule
at_file holds reason = record { holds = holds; fault = file_fault reason }

-- a rule of the n-th fan, counted from 1
abbrev pub at_fan : ℕ → Bool → Reason → Rule
at_fan n holds reason = record { holds = holds; fault = fan_fault n reason }

-- a rule of the n-th section, counted from 1
abbrev pub at_section : ℕ → Bool → Reason → Rule
at_section n holds reason = record { holds = holds; fault = section_fault n reason }

-- a rule of the n-th row, counted from 1
abbrev pub at_row : ℕ → Bool → Reason → Rule
at_row n holds reason = record { holds = holds; fault = row_fault n reason }

-- a rule of the n-th size, counted from 1
abbrev pub at_size : ℕ → Bool → Reason → Rule
at_size n holds reason = record { holds = holds; fault = size_fault n reason }

-- a rule of the n-th table, counted from 1
abbrev pub at_table : ℕ → Bool → Reason → Rule
at_table n holds reason = record { holds = holds; fault = table_fault n reason }

-- a rule of the n-th line, counted from 1
abbrev pub at_line : ℕ → Bool → Reason → Rule
at_line n holds reason = record { holds = holds; fault = line_fault n reason }

-- the fault of the first rule whose test fails
abbrev pub first_broken : List Rule → Option Fault
first_broken [] = None
first_broken (rule ∷ rules) = if rule.holds then first_broken rules else Some rule.fault

-- the first fault, or else the second
abbrev pub or_else : Option Fault → Option Fault → Option Fault
or_else None second = second
or_else (Some fault) second = Some fault

-- the fault, or else the value
abbrev pub unless_refused : {Y : Type 0} → Option Fault → Y → Result Y Fault
unless_refused None value = Ok value
unless_refused (Some fault) value = Err fault

-- memory may run out at any point; a refusal is the one of reading
abbrev pub Fails : {Y : Type 0} → ReadError → Result Y Fault → Type 0
Fails (Refused fault) reading = reading ≡ Err fault
Fails NoMemory reading = Unit {0}

-- the call answered what reading gives, or memory ran out
abbrev pub Gives : {Y : Type 0} → Result Y ReadError → Result Y Fault → Type 0
Gives (Ok value) reading = reading ≡ Ok value
Gives (Err error) reading = Fails error reading
