-- The text of a certificate. A word is parted from the next by one space, and each line is ended by a line feed.
--   numbers_of points         the needs and costs of the points, in turn
--   front_line points         the line of a front
--   certificate_text net c    the text of certificate c of the network
use Rattle.std.specs.Prelude.{ℕ, List, [], ◌∷◌, ◌++◌, codes, map, Option, Some, None}
use Rattle.std.specs.Fmt.{decimal}
use Rattle.std.specs.List.{flat_map}
use Rattle.duct_units.specs.Lines.{line}
use Rattle.duct_definitions.specs.Network.{Network}
use Rattle.pareto_front.specs.declared.point.Point.{Point}
use Rattle.front_certificate.specs.Certificates.{Certificate}

-- the need and the cost of a point
abbrev pub pair_of : Point → List ℕ
pair_of point = point.need ∷ point.cost ∷ []

-- the needs and costs of the points, in turn
abbrev pub numbers_of : List Point → List ℕ
numbers_of points = flat_map pair_of points

-- the line of a front: its points, each with its need and its cost
abbrev pub front_line : List Point → List ℕ
front_line points = line (codes "front") (map (λ n. decimal n) (numbers_of points))

-- the word of the total
abbrev pub total_word : Option ℕ → List ℕ
total_word None = codes "none"
total_word (Some total) = decimal total

-- the line of the total
abbrev pub total_line : Option ℕ → List ℕ
total_line total = line (codes "cost") (total_word total ∷ [])

-- the lines that a certificate begins with: its form and the project
abbrev pub heading : List ℕ → List ℕ
heading project = line (codes "certificate") (codes "1" ∷ []) ++ line (codes "project") (project ∷ [])

-- the text of a certificate of the network
abbrev pub certificate_text : Network → Certificate → List ℕ
certificate_text net c =
    heading net.name ++ total_line c.total ++ flat_map front_line c.fronts ++ line (codes "end") []
