-- Heads and dampers: what each side has of the fans' pressures, and what is throttled so that each path takes its head.
use Rattle.std.specs.Prelude.{ℕ, ◌-◌, min, List, [], ◌∷◌, map, filter, Option, Some, None}
use Rattle.duct_units.specs.declared.side.Side.{Side}
use Rattle.duct_units.specs.declared.side.Side.TheVariants.{Supply, Return}
use Rattle.duct_definitions.specs.declared.design.Design.{Design}
use Rattle.duct_definitions.specs.Tree.{Tree, neighbour, at_neighbour, leaves, side, passes}
use Rattle.duct_definitions.specs.Network.{Network, fan_at, return_fan_at}
use Rattle.duct_definitions.specs.Designs.{path_loss, worst}

-- with one fan the return side has its worst loss, and the supply side the rest of the fan's pressure
abbrev pub shared_head : Network → Design → Side → ℕ
shared_head net d Return = worst net d Return
shared_head net d Supply = (fan_at net d.fan).pressure - worst net d Return

-- with return fan i each side has the pressure of its own fan
abbrev pub own_head : Network → Design → ℕ → Side → ℕ
own_head net d i Return = (return_fan_at net i).pressure
own_head net d i Supply = (fan_at net d.fan).pressure

-- the head of a side, with or without a return fan
abbrev pub head_with : Network → Design → Option ℕ → Side → ℕ
head_with net d None x = shared_head net d x
head_with net d (Some i) x = own_head net d i x

-- what each path of the side has to take, its dampers included
abbrev pub head : Network → Design → Side → ℕ
head net d x = head_with net d d.back x

-- the leaves whose way passes the section
abbrev pub leaves_beyond : Tree → ℕ → List ℕ
leaves_beyond t s = filter (passes t s) (leaves t (side t s))

-- the least number, 0 of no numbers
abbrev pub least_of : List ℕ → ℕ
least_of [] = 0
least_of (x ∷ []) = x
least_of (x ∷ y ∷ ys) = min x (least_of (y ∷ ys))

-- the least that is left of the side's head at a leaf beyond the section
abbrev pub slack : Network → Design → ℕ → ℕ
slack net d s = least_of (map (λ leaf. head net d (side net.tree s) - path_loss net d leaf) (leaves_beyond net.tree s))

-- the slack of the neighbour, 0 at the fan
abbrev pub slack_beside : Network → Design → Option ℕ → ℕ
slack_beside net d n = at_neighbour (slack net d) n

-- the slack that the neighbour's damper doesn't take
abbrev pub damper : Network → Design → ℕ → ℕ
damper net d s = slack net d s - slack_beside net d (neighbour net.tree s)
