-- Lines, and readers of one line: what is read is what the line spells.
--   IsFree c bytes                     none of the bytes is c
--   IsLine bytes                       the bytes are one line, with the line feed that ends it
--   IsReaderOf InRange spelled read    the reader finds, at the front, exactly the lines of what is in range
use Rattle.std.specs.Prelude.{◌≡◌, ℕ, ◌==◌, false, List, [], ◌∷◌, ◌++◌, Option, Some}

-- none of the bytes is c
abbrev pub IsFree : ℕ → List ℕ → Type 0
IsFree c [] = Unit {0}
IsFree c (byte ∷ bytes) = ((byte == c) ≡ false) × IsFree c bytes

-- bytes that are one line with its line feed
pub record IsLine (bytes : List ℕ) : Type 0 where
  pub before : List ℕ
  pub free : IsFree 10 before
  pub whole : bytes ≡ before ++ 10 ∷ []

-- what is read on a line is in range and spelled there, and what is in range and spelled there is read
pub record IsReaderOf {A : Type 0} (InRange : A → Type 0) (spelled : A → List ℕ)
    (read : List ℕ → Option (A × List ℕ)) : Type 0 where
  pub takes : (bytes : List ℕ) (a : A) (rest : List ℕ) → read bytes ≡ Some (a, rest)
      → InRange a × (bytes ≡ spelled a ++ rest)
  pub again : (a : A) (rest : List ℕ) → InRange a → read (spelled a ++ rest) ≡ Some (a, rest)
  pub lines : (a : A) → InRange a → IsLine (spelled a)
