-- The breakpoints of a table on one axis, thousandths.
--   with_breakpoint x bs   rising breakpoints, with one more unless it is among them
--   breakpoints_of xs      each number of the list once, rising
--   IsAxis bs              at most 20 breakpoints in bounds, rising
--   Parts x bs place       the breakpoints before the place are below x, and the others are not
--   has_at bs place x      the breakpoint at the place is x
use Rattle.std.specs.Prelude.{◌≡◌, ℕ, ◌<◌, ◌≤◌, ◌==◌, nat_lt, Bool, false, List, [], ◌∷◌, length, All, Some, slice_get, if◌then◌else◌}
use Rattle.std.specs.Option.{option_map_or}
use Rattle.fitting_tables.specs.declared.limits.TheConstants.{MAX_BREAKPOINTS, MAX_RATIO}

-- the rising breakpoints, with one more in its place unless it is among them
abbrev pub with_breakpoint : ℕ → List ℕ → List ℕ
with_breakpoint x [] = x ∷ []
with_breakpoint x (b ∷ bs) =
    if x == b then b ∷ bs else (if nat_lt x b then x ∷ b ∷ bs else b ∷ with_breakpoint x bs)

-- the breakpoints, with each number of a list
abbrev pub with_breakpoints : List ℕ → List ℕ → List ℕ
with_breakpoints bs [] = bs
with_breakpoints bs (x ∷ xs) = with_breakpoints (with_breakpoint x bs) xs

-- each number of the list once, rising
abbrev pub breakpoints_of : List ℕ → List ℕ
breakpoints_of xs = with_breakpoints [] xs

-- each is below every later one
abbrev pub IsRising : List ℕ → Type 0
IsRising [] = Unit {0}
IsRising (b ∷ bs) = All (λ c. b < c) bs × IsRising bs

-- at most 20 breakpoints in bounds, rising
pub record IsAxis (bs : List ℕ) : Type 0 where
  pub few : length bs ≤ MAX_BREAKPOINTS
  pub bounds : All (λ b. b ≤ MAX_RATIO) bs
  pub rising : IsRising bs

-- the breakpoints before the place are below x, and the others are not
pub record Parts (x : ℕ) (bs : List ℕ) (place : ℕ) : Type 0 where
  pub below : (k b : ℕ) → k < place → slice_get bs k ≡ Some b → b < x
  pub above : (k b : ℕ) → place ≤ k → slice_get bs k ≡ Some b → x ≤ b

-- the breakpoint at the place is x
abbrev pub has_at : List ℕ → ℕ → ℕ → Bool
has_at bs place x = option_map_or (λ b. b == x) (slice_get bs place) false
