-- What stands at the beginning of some bytes.
--   IsOnly P found           the only value with the bytes behind it for which P holds, or none where there is none
--   IsNumberAt, IsPointAt, IsFrontAt, IsTotalAt   a number, a point, a front's line, a total's line, and the rest
use Rattle.std.specs.Prelude.{◌≡◌, ℕ, zero, suc, ◌<◌, ◌≤◌, ◌⊎◌, false, List, [], ◌∷◌, ◌++◌, length, codes, Option, Some, None, IfSome}
use Rattle.std.specs.Char.{is_ascii_digit}
use Rattle.std.specs.Fmt.{decimal}
use Rattle.std.specs.List.{AllByRecursion}
use Rattle.duct_definitions.specs.declared.limits.TheConstants.{MAX_PRESSURE}
use Rattle.pareto_front.specs.declared.point.Point.{Point}
use Rattle.pareto_front.specs.declared.point.TheConstants.{COST_LIMIT}
use Rattle.pareto_front.specs.Front.{IsFront}
use Rattle.duct_units.specs.Lines.{line}
use Rattle.duct_units.specs.Rules.{line_fault}
use Rattle.duct_units.specs.declared.fault.Reason.TheVariants.{Form}
use Rattle.duct_units.specs.declared.fault.ReadError.{ReadError}
use Rattle.duct_units.specs.declared.fault.ReadError.TheVariants.{Refused, NoMemory}
use Rattle.duct_definitions.specs.Network.{Network}
use Rattle.front_certificate.specs.Certificates.{Certificate, front_count}
use Rattle.front_certificate.specs.CertificateText.{front_line, total_line, certificate_text}

-- the only value with the bytes behind it for which P holds, or none where there is none
abbrev pub IsOnly : {A : Type 0} → (A → List ℕ → Type 0) → Option (A × List ℕ) → Type 0
IsOnly {A} P None = (x : A) (rest : List ℕ) → P x rest → ⊥
IsOnly {A} P (Some found) = P found.0 found.1 × ((x : A) (rest : List ℕ) → P x rest → (x ≡ found.0) × (rest ≡ found.1))

-- no digit stands at the beginning
abbrev pub IsEnded : List ℕ → Type 0
IsEnded [] = Unit {0}
IsEnded (byte ∷ rest) = is_ascii_digit byte ≡ false

-- the number, and the rest, which does not begin with a digit
pub record IsNumberAt (most : ℕ) (bytes : List ℕ) (n : ℕ) (rest : List ℕ) : Type 0 where
  pub small : n ≤ most
  pub spelled : bytes ≡ decimal n ++ rest
  pub ended : IsEnded rest

-- the need and the cost of a point are within their bounds
pub record IsPointInRange (point : Point) : Type 0 where
  pub need : point.need ≤ MAX_PRESSURE
  pub cost : point.cost < COST_LIMIT

-- a space, the need, a space and the cost
abbrev pub point_text : Point → List ℕ
point_text point = 32 ∷ (decimal point.need ++ 32 ∷ decimal point.cost)

-- the point, and the rest, which does not begin with a digit
pub record IsPointAt (bytes : List ℕ) (point : Point) (rest : List ℕ) : Type 0 where
  pub in_range : IsPointInRange point
  pub spelled : bytes ≡ point_text point ++ rest
  pub ended : IsEnded rest

-- a front whose points are within their bounds
pub record IsStatable (points : List Point) : Type 0 where
  pub front : IsFront points
  pub in_range : AllByRecursion IsPointInRange points

-- the line of the front, and the rest
pub record IsFrontAt (bytes : List ℕ) (points : List Point) (rest : List ℕ) : Type 0 where
  pub statable : IsStatable points
  pub spelled : bytes ≡ front_line points ++ rest

-- the line of the total, and the rest
pub record IsTotalAt (bytes : List ℕ) (total : Option ℕ) (rest : List ℕ) : Type 0 where
  pub small : IfSome total (λ t. t < COST_LIMIT)
  pub spelled : bytes ≡ total_line total ++ rest

-- the total and every front are within the bounds of a text, and there is a front for each section and size of its
-- neighbour
pub record IsCertificateOf (net : Network) (c : Certificate) : Type 0 where
  pub total : IfSome c.total (λ t. t < COST_LIMIT)
  pub fronts : AllByRecursion IsStatable c.fronts
  pub count : length c.fronts ≡ front_count net

-- the bytes are the text of the certificate
pub record IsTextOf (net : Network) (bytes : List ℕ) (c : Certificate) : Type 0 where
  pub is : IsCertificateOf net c
  pub spelled : bytes ≡ certificate_text net c

-- a front's line, of those of all sections the i-th, or the end behind them
abbrev pub IsLaterLine : Network → ℕ → List ℕ → Type 0
IsLaterLine net i bytes =
    ((i < front_count net) × ((points : List Point) × IsStatable points × (bytes ≡ front_line points)))
    ⊎ ((i ≡ front_count net) × (bytes ≡ line (codes "end") []))

-- the line of a certificate of the network, with its line feed: the form, the project, the total, and the later ones
abbrev pub IsLine : Network → ℕ → List ℕ → Type 0
IsLine net zero bytes = bytes ≡ line (codes "certificate") (codes "1" ∷ [])
IsLine net (suc zero) bytes = bytes ≡ line (codes "project") (net.name ∷ [])
IsLine net (suc (suc zero)) bytes =
    (total : Option ℕ) × IfSome total (λ t. t < COST_LIMIT) × (bytes ≡ total_line total)
IsLine net (suc (suc (suc i))) bytes = IsLaterLine net i bytes

-- the bytes begin with the first n lines of a certificate of the network, and the rest stands behind
abbrev pub Begins : Network → List ℕ → ℕ → List ℕ → Type 0
Begins net bytes zero rest = bytes ≡ rest
Begins net bytes (suc n) rest =
    (mid : List ℕ) × Begins net bytes n mid × ((lines : List ℕ) × IsLine net n lines × (mid ≡ lines ++ rest))

-- the bytes begin with n lines of a certificate, but with no further one
pub record IsFirstBad (net : Network) (bytes : List ℕ) (n : ℕ) : Type 0 where
  pub before : (rest : List ℕ) × Begins net bytes n rest
  pub bad : (rest : List ℕ) → Begins net bytes (suc n) rest → ⊥

-- the lines of a certificate: three, the fronts', and the end
abbrev pub line_count : Network → ℕ
line_count net = suc (suc (suc (suc (front_count net))))

-- a refusal names the first bad line of bytes that are not the lines of a certificate; memory may run out at any point
abbrev pub IsRefusal : Network → List ℕ → ReadError → Type 0
IsRefusal net bytes NoMemory = Unit {0}
IsRefusal net bytes (Refused fault) =
    (Begins net bytes (line_count net) [] → ⊥)
    × ((n : ℕ) × (fault ≡ line_fault (suc n) Form) × IsFirstBad net bytes n)
