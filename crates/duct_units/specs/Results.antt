-- A value or why there is none, and what follows from the value.
use Rattle.std.specs.Prelude.{Result, Ok, Err}

infixl 10 ◌>>=◌
-- what follows from the value; else why there is none
abbrev pub ◌>>=◌ : {A B E : Type 0} → Result A E → (A → Result B E) → Result B E
(Ok value) >>= f = f value
(Err e) >>= f = Err e
