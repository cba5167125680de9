-- Words at the front of some bytes, with the bytes behind them. A word reaches to the first byte that ends it.
--   cut c bytes               the bytes before the first byte c, and those behind it
--   after_word word c bytes   the bytes behind this word and the byte c
--   name_before c bytes       the name before the first byte c
--   number_before most c ..   the number of at most this before the first byte c
use Rattle.std.specs.Prelude.{ℕ, ◌+◌, ◌==◌, if◌then◌else◌, List, take, drop, pos, unsigned_abs, Option, Some, None}
use Rattle.std.specs.List.{position_from}
use Rattle.std.specs.Str.{bytes_eq}
use Rattle.duct_units.specs.Options.{◌>>=◌}
use Rattle.duct_units.specs.Name.{name_of}
use Rattle.duct_units.specs.Whole.{whole_of}

-- the bytes before the first byte c and those behind it, where it is there
abbrev pub cut : ℕ → List ℕ → Option (List ℕ × List ℕ)
cut c bytes = position_from (λ b. b == c) 0 bytes >>= λ at. Some (take at bytes, drop (at + 1) bytes)

-- the bytes behind this word and the byte c
abbrev pub after_word : List ℕ → ℕ → List ℕ → Option (List ℕ)
after_word word c bytes = do
  found ← cut c bytes
  if bytes_eq found.0 word then Some found.1 else None

-- the name before the first byte c
abbrev pub name_before : ℕ → List ℕ → Option (List ℕ × List ℕ)
name_before c bytes = do
  found ← cut c bytes
  name ← name_of found.0
  Some (name, found.1)

-- the number of at most this before the first byte c
abbrev pub number_before : ℕ → ℕ → List ℕ → Option (ℕ × List ℕ)
number_before most c bytes = do
  found ← cut c bytes
  number ← whole_of found.0 (pos 0) (pos most)
  Some (unsigned_abs number, found.1)
