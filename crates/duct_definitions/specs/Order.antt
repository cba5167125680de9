-- The order of designs, and the best of them.
use Rattle.std.specs.Prelude.{◌≡◌, ℕ, ◌+◌, ◌<◌, ◌⊎◌, List, ◌∷◌, Option, Some, None}
use Rattle.duct_units.specs.declared.side.Side.TheVariants.{Supply}
use Rattle.duct_definitions.specs.declared.design.Design.{Design}
use Rattle.duct_definitions.specs.Network.{Network}
use Rattle.duct_definitions.specs.Designs.{Meets, cost, worst}

-- the smaller number at the first place where the lists differ
abbrev pub Earlier : List ℕ → List ℕ → Type 0
Earlier (x ∷ xs) (y ∷ ys) = (x < y) ⊎ ((x ≡ y) × Earlier xs ys)
Earlier xs ys = ⊥

-- less first, or equal and then what follows
abbrev pub LessOr : ℕ → ℕ → Type 0 → Type 0
LessOr m n Then = (m < n) ⊎ ((m ≡ n) × Then)

-- the turn of a return fan: first none, then the return fans in file order
abbrev pub turn_of : Option ℕ → ℕ
turn_of None = 0
turn_of (Some i) = i + 1

-- less cost; then the earlier fan; then no return fan, or the earlier one; then the less worst supply loss; then the
-- earlier sizes, in file order of the sections
abbrev pub Before : Network → Design → Design → Type 0
Before net d e =
    LessOr (cost net d) (cost net e)
    (LessOr d.fan e.fan
    (LessOr (turn_of d.back) (turn_of e.back)
    (LessOr (worst net d Supply) (worst net e Supply)
    (Earlier d.sizes e.sizes))))

-- the design meets the rules, and comes before every other one that does
pub record IsBest (net : Network) (d : Design) : Type 0 where
  pub meets : Meets net d
  pub first : (e : Design) → Meets net e → (e ≡ d) ⊎ Before net d e

-- no design meets the rules
abbrev pub NoneMeets : Network → Type 0
NoneMeets net = (d : Design) → Meets net d → ⊥
