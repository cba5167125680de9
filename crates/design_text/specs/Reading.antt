-- A design text read line by line: its fields, or the fault of the first line that is not of its form.
--   at_line n found       what was found on line n, or the fault of the line
--   back_at form bytes    the return fan, where the form has one
--   end_at n l bytes      the fields l, where line n is the last
--   reading bytes         the fields that the bytes spell
use Rattle.std.specs.Prelude.{ℕ, ◌+◌, ◌==◌, if◌then◌else◌, List, length, codes, Option, Some, None, Result, Ok, Err}
use Rattle.duct_units.specs.Results.{◌>>=◌}
use Rattle.duct_units.specs.Rules.{line_fault}
use Rattle.duct_units.specs.declared.fault.Fault.{Fault}
use Rattle.duct_units.specs.declared.fault.Reason.TheVariants.{Form}
use Rattle.duct_definitions.specs.declared.limits.TheConstants.{MAX_SECTIONS}
use Rattle.duct_definitions.specs.declared.listed.Listed.{Listed}
use Rattle.duct_definitions.specs.declared.listed.ListedFan.{ListedFan}
use Rattle.line_words.specs.Words.{after_word}
use Rattle.design_text.specs.Fields.{name_at, number_at, numbers_at, form_at, fan_at, sections_at}

-- what was found on line n, or the fault of the line
abbrev pub at_line : {A : Type 0} → ℕ → Option A → Result A Fault
at_line n None = Err (line_fault n Form)
at_line n (Some x) = Ok x

-- a return fan, as one that is there
abbrev pub with_back : Option (ListedFan × List ℕ) → Option (Option ListedFan × List ℕ)
with_back None = None
with_back (Some fan) = Some (Some fan.0, fan.1)

-- the return fan's line, which stands in a text of form 2 alone
abbrev pub back_at : ℕ → List ℕ → Option (Option ListedFan × List ℕ)
back_at form bytes = if form == 1 then Some (None, bytes) else with_back (fan_at (codes "return-fan") bytes)

-- the line of the cost, behind one section at least
abbrev pub cost_at : ℕ → List ℕ → Option (ℕ × List ℕ)
cost_at sections bytes = if sections == 0 then None else number_at (codes "cost") bytes

-- the fields, where nothing stands on line n
abbrev pub ended_at : ℕ → Listed → List ℕ → Result Listed Fault
ended_at n l bytes = if length bytes == 0 then Ok l else Err (line_fault n Form)

-- the fields, where line n is the last
abbrev pub end_at : ℕ → Listed → List ℕ → Result Listed Fault
end_at n l bytes = do
  rest ← at_line n (after_word (codes "end") 10 bytes)
  ended_at (n + 1) l rest

-- the fields that the bytes spell
unfoldable pub reading : List ℕ → Result Listed Fault
reading bytes = do
  form ← at_line 1 (form_at bytes)
  project ← at_line 2 (name_at (codes "project") form.1)
  fan ← at_line 3 (fan_at (codes "fan") project.1)
  back ← at_line 4 (back_at form.0 fan.1)
  supply ← at_line (form.0 + 3) (numbers_at (codes "supply") back.1)
  return ← at_line (form.0 + 4) (numbers_at (codes "return") supply.1)
  total ← at_line (form.0 + 5 + length (sections_at MAX_SECTIONS return.1).0)
      (cost_at (length (sections_at MAX_SECTIONS return.1).0) (sections_at MAX_SECTIONS return.1).1)
  end_at (form.0 + 5 + length (sections_at MAX_SECTIONS return.1).0 + 1) (record {
    project = project.0;
    fan = fan.0.name;
    pressure = fan.0.pressure;
    fan_cost = fan.0.cost;
    back = back.0;
    supply_worst = supply.0.0;
    supply_head = supply.0.1;
    return_worst = return.0.0;
    return_head = return.0.1;
    sections = (sections_at MAX_SECTIONS return.1).0;
    total = total.0;
  }) total.1
