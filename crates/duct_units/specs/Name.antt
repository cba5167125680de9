-- The form of a name: 1 to 32 bytes, each an ASCII letter, a digit, `_`, `-` or `.`.
use Rattle.std.specs.Prelude.{◌≡◌, ℕ, ◌-◌, ◌≤◌, ◌||◌, ◌&&◌, ◌==◌, nat_le, Bool, List, ◌++◌, length, take, IsTrue, replicate, Option, Some, None, if◌then◌else◌}
use Rattle.std.specs.List.{list_all}
use Rattle.std.proofs.Common.{length-take-le}
use Rattle.duct_units.specs.declared.name.TheConstants.{MAX_NAME_BYTES}

-- the byte lies from low to high
abbrev pub is_within : ℕ → ℕ → ℕ → Bool
is_within low high byte = nat_le low byte && nat_le byte high

-- a to z, A to Z, 0 to 9, `_`, `-` or `.`
abbrev pub is_name_byte : ℕ → Bool
is_name_byte byte =
    ((is_within 97 122 byte || is_within 65 90 byte) || is_within 48 57 byte)
    || ((byte == 95 || byte == 45) || byte == 46)

-- 1 to 32 bytes, each of them one of these
abbrev pub is_name : List ℕ → Bool
is_name bytes = (nat_le 1 (length bytes) && nat_le (length bytes) MAX_NAME_BYTES) && list_all is_name_byte bytes

-- the bytes, where they are a name
abbrev pub name_of : List ℕ → Option (List ℕ)
name_of bytes = if is_name bytes then Some bytes else None

-- the bytes, and zeros up to the room of a name
abbrev pub padded : List ℕ → List ℕ
padded bytes = bytes ++ replicate (MAX_NAME_BYTES - length bytes) 0

-- the first len bytes are a name, and the others are 0
pub record HoldsName (bytes : List ℕ) (len : ℕ) : Type 0 where
  pub within : len ≤ length bytes
  pub name : IsTrue (is_name (take len bytes))
  pub rest : padded (take len bytes) ≡ bytes

-- a name with its zeros gives all bytes back, and has the stated length
pub name_again : (bytes : List ℕ) (len : ℕ) → HoldsName bytes len
    → (padded (take len bytes) ≡ bytes) × (length (take len bytes) ≡ len)
name_again bytes len held = (held.rest, length-take-le len bytes held.within)
