-- What the first line of some bytes says, with the bytes behind it, where the line is of its form.
--   number_before c bytes  the number of at most 18 digits before the first byte c
--   fan_at word, ..        what a line that begins with the word says
use Rattle.std.specs.Prelude.{ℕ, zero, suc, ◌&&◌, nat_le, if◌then◌else◌, List, [], ◌∷◌, codes, Option, Some, None}
use Rattle.duct_units.specs.Options.{◌>>=◌}
use Rattle.line_words.specs.Words.{after_word, name_before, number_before as number_of_most}
use Rattle.duct_definitions.specs.declared.listed.ListedFan.{ListedFan}
use Rattle.duct_definitions.specs.declared.listed.ListedSection.{ListedSection}
use Rattle.design_text.specs.declared.words.TheConstants.{MAX_NUMBER}

-- the number of at most 18 digits before the first byte c
abbrev pub number_before : ℕ → List ℕ → Option (ℕ × List ℕ)
number_before c bytes = number_of_most MAX_NUMBER c bytes

-- ---- lines

-- a line of a word and a name
unfoldable pub name_at : List ℕ → List ℕ → Option (List ℕ × List ℕ)
name_at word bytes = do
  rest ← after_word word 32 bytes
  name_before 10 rest

-- a line of a word and a number
unfoldable pub number_at : List ℕ → List ℕ → Option (ℕ × List ℕ)
number_at word bytes = do
  rest ← after_word word 32 bytes
  number_before 10 rest

-- a line of a word and two numbers
unfoldable pub numbers_at : List ℕ → List ℕ → Option ((ℕ × ℕ) × List ℕ)
numbers_at word bytes = do
  rest ← after_word word 32 bytes
  first ← number_before 32 rest
  second ← number_before 10 first.1
  Some ((first.0, second.0), second.1)

-- the first line, which says 1 or 2
unfoldable pub form_at : List ℕ → Option (ℕ × List ℕ)
form_at bytes = do
  form ← number_at (codes "design") bytes
  if nat_le 1 form.0 && nat_le form.0 2 then Some form else None

-- the line of a fan
unfoldable pub fan_at : List ℕ → List ℕ → Option (ListedFan × List ℕ)
fan_at word bytes = do
  rest ← after_word word 32 bytes
  name ← name_before 32 rest
  pressure ← number_before 32 name.1
  cost ← number_before 10 pressure.1
  Some (record { name = name.0; pressure = pressure.0; cost = cost.0 }, cost.1)

-- the line of a section
unfoldable pub section_at : List ℕ → Option (ListedSection × List ℕ)
section_at bytes = do
  rest ← after_word (codes "section") 32 bytes
  name ← name_before 32 rest
  size ← name_before 32 name.1
  loss ← number_before 32 size.1
  price ← number_before 32 loss.1
  damper ← number_before 10 price.1
  Some (record { name = name.0; size = size.0; loss = loss.0; price = price.0; damper = damper.0 }, damper.1)

-- the section, where there is one, and the others behind it
abbrev pub with_others : (List ℕ → List ListedSection × List ℕ) → List ℕ → Option (ListedSection × List ℕ) → List ListedSection × List ℕ
with_others others bytes None = ([], bytes)
with_others others bytes (Some x) = (x.0 ∷ (others x.1).0, (others x.1).1)

-- the lines of sections at the front, no more than so many
unfoldable pub sections_at : ℕ → List ℕ → List ListedSection × List ℕ
sections_at zero bytes = ([], bytes)
sections_at (suc n) bytes = with_others (sections_at n) bytes (section_at bytes)
