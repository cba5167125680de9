-- What a call of a reader answers, where its value is seen through a view.
--   GivesAs view result reading   the value that is seen, or the fault; or memory ran out
--   ReadsAs view result reading   the same of a call that takes no memory
use Rattle.std.specs.Prelude.{◌≡◌, Result, Ok, Err}
use Rattle.duct_units.specs.declared.fault.Fault.{Fault}
use Rattle.duct_units.specs.declared.fault.ReadError.{ReadError}
use Rattle.duct_units.specs.Rules.{Fails}

-- the call answered what reading gives, through the view: the value, or the fault; or memory ran out
abbrev pub GivesAs : {X Y : Type 0} → (X → Y) → Result X ReadError → Result Y Fault → Type 0
GivesAs view (Ok value) reading = reading ≡ Ok (view value)
GivesAs view (Err error) reading = Fails error reading

-- the same of a call that takes no memory: the value, through the view, or the fault
abbrev pub ReadsAs : {X Y : Type 0} → (X → Y) → Result X Fault → Result Y Fault → Type 0
ReadsAs view (Ok value) reading = reading ≡ Ok (view value)
ReadsAs view (Err fault) reading = reading ≡ Err fault
