-- Whole numbers in decimal, as files and words spell them.
--   is_number    a number without leading zeros, with a minus only before one that isn't 0
--   number_of    the number that the bytes spell, however large, or none
--   whole_of     the same where it is within bounds, or none
--   IsWhole      a number is within bounds, and the bytes are its spelling
use Rattle.std.specs.Prelude.{◌≡◌, Bool, false, ◌&&◌, ◌==◌, not, if◌then◌else◌, ℕ, List, [], ◌∷◌, ℤ, ◌≤ℤ◌, int_le, Option, Some, None}
use Rattle.std.specs.Char.{is_ascii_digit}
use Rattle.std.specs.Fmt.{signed_decimal}
use Rattle.std.specs.Str.{all_ascii_digits}
use Rattle.std.specs.Str.Parse.{signed_digits_value, without_leading_sign}

-- the first byte is a digit from 1 to 9
abbrev pub begins_above_zero : List ℕ → Bool
begins_above_zero [] = false
begins_above_zero (first ∷ rest) = is_ascii_digit first && not (first == 48)

-- 0 stands alone, and a minus stands before a digit from 1 to 9
abbrev pub begins_as_number : List ℕ → Bool
begins_as_number [] = false
begins_as_number (first ∷ []) = is_ascii_digit first
begins_as_number (first ∷ second ∷ rest) =
    if first == 45 then begins_above_zero (second ∷ rest) else begins_above_zero (first ∷ second ∷ rest)

-- a number begins so, and behind its sign it has only digits
abbrev pub is_number : List ℕ → Bool
is_number bytes = begins_as_number bytes && all_ascii_digits (without_leading_sign bytes)

-- the number that the bytes spell
abbrev pub number_of : List ℕ → Option ℤ
number_of bytes = if is_number bytes then Some (signed_digits_value 10 bytes) else None

-- the number, where it lies from low to high
abbrev pub within : ℤ → ℤ → Option ℤ → Option ℤ
within low high None = None
within low high (Some n) = if int_le low n && int_le n high then Some n else None

-- the number that the bytes spell, where it lies from low to high
unfoldable pub whole_of : List ℕ → ℤ → ℤ → Option ℤ
whole_of bytes low high = within low high (number_of bytes)

-- n lies from low to high, and the bytes spell it
pub record IsWhole (bytes : List ℕ) (low high n : ℤ) : Type 0 where
  pub spelled : bytes ≡ signed_decimal n
  pub least : low ≤ℤ n
  pub most : n ≤ℤ high
