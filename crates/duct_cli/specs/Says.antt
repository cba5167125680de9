-- What is said: a status and a text.
use Rattle.std.specs.Prelude.{◌≡◌, ℕ, List}

-- the status is this one, and so is the text
abbrev pub Says : ℕ → List ℕ → ℕ → List ℕ → Type 0
Says status words s t = (s ≡ status) × (t ≡ words)
