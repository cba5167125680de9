-- What is laid, in either of its two forms.
use Rattle.std.specs.Prelude.{◌≡◌, ℕ, ◌+◌, List, length}
use Rattle.pareto_front.specs.declared.point.Point.{Point}
use Rattle.pareto_front.specs.declared.laid_points.Laid.{Laid}
use Rattle.pareto_front.specs.declared.laid_points.Laid.TheVariants.{Few, Many}
use Rattle.pareto_front.specs.Front.{NeedsWithin}
use Rattle.pareto_front.specs.LeastPrices.{points_from}

-- the points that are laid
abbrev pub points_of : Laid → List Point
points_of (Few points) = points.items
points_of (Many prices) = points_from 0 prices

-- nothing is laid above the cap, and each need up to it has its place
abbrev pub IsUpTo : ℕ → Laid → Type 0
IsUpTo cap (Few points) = NeedsWithin cap points.items
IsUpTo cap (Many prices) = length prices ≡ cap + 1
