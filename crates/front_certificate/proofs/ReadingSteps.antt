-- What a reader of a certificate knows behind each line, and what it refuses.
use Rattle.std.proofs.Common.{◌≡◌, ◌<◌, ◌≤◌, ◌+◌, ℕ, suc, List, [], ◌∷◌, ◌++◌, length, refl, inr, subst, ap, ◌∙◌, arith, Option}
use Rattle.std.specs.Prelude.{codes, IfSome}
use Rattle.std.specs.List.{AllByRecursion, flat_map}
use Rattle.std.proofs.lemmas.List.{length_push}
use Rattle.duct_units.specs.Lines.{line}
use Rattle.duct_units.specs.Rules.{line_fault}
use Rattle.duct_units.specs.declared.fault.Reason.TheVariants.{Form}
use Rattle.duct_units.specs.declared.fault.ReadError.{ReadError}
use Rattle.duct_units.specs.declared.fault.ReadError.TheVariants.{Refused}
use Rattle.duct_definitions.specs.Network.{Network}
use Rattle.pareto_front.specs.declared.point.Point.{Point}
use Rattle.pareto_front.specs.declared.point.TheConstants.{COST_LIMIT}
use Rattle.front_certificate.specs.Certificates.{Certificate, front_count}
use Rattle.front_certificate.specs.CertificateText.{heading, total_line, front_line}
use Rattle.front_certificate.specs.Reading.{IsTotalAt, IsFrontAt, IsStatable, IsRefusal, line_count}
use Rattle.front_certificate.proofs.LineReading.{IsReadTo, read-start, literal-next, literal-missing, total-next, total-missing, front-next, front-missing, end-only, refused-at, refused-behind, spelled-start, spelled-next, statable-push}

-- the line of the form, and that of the project
abbrev pub form_line : List ℕ
form_line = line (codes "certificate") (codes "1" ∷ [])

abbrev pub project_line : Network → List ℕ
project_line net = line (codes "project") (net.name ∷ [])

-- the line of the project, whichever way its name is known
pub named : (name is : List ℕ) → name ≡ is → line (codes "project") (name ∷ []) ≡ line (codes "project") (is ∷ [])
named name is same = ap (λ (n : List ℕ). line (codes "project") (n ∷ [])) same

-- a word stands at the beginning of the bytes, and is this line
pub record Starts (bytes word text rest : List ℕ) : Type 0 where
  pub is : word ≡ text
  pub starts : bytes ≡ word ++ rest

-- a word that is this line does not stand at the beginning of the bytes
pub record Misses (bytes word text : List ℕ) : Type 0 where
  pub is : word ≡ text
  pub none : (more : List ℕ) → bytes ≡ word ++ more → ⊥

-- the certificate has the total and the fronts of the first lines, of which i are fronts'
pub record HasRead (net : Network) (bytes : List ℕ) (c : Certificate) (i : ℕ) (rest : List ℕ) : Type 0 where
  pub read : IsReadTo net bytes (suc (suc (suc i))) rest
  pub spelled : bytes ≡ heading net.name ++ total_line c.total ++ flat_map front_line c.fronts ++ rest
  pub total : IfSome c.total (λ t. t < COST_LIMIT)
  pub fronts : AllByRecursion IsStatable c.fronts
  pub count : length c.fronts ≡ i

-- the fault of a line behind so many good ones
abbrev pub fault_behind : ℕ → ReadError
fault_behind n = Refused (line_fault (suc n) Form)

module _ (net : Network) (bytes : List ℕ) where
  pub form-refused : (word : List ℕ) → Misses bytes word form_line → (error : ReadError) → error ≡ fault_behind 0
      → IsRefusal net bytes error
  form-refused word misses =
      refused-at net bytes 0 bytes (read-start net bytes) (omega arith)
      (literal-missing net bytes 0 bytes (read-start net bytes) word form_line (λ x is. is) misses.is misses.none)

  module _ (form rest1 : List ℕ) (first : Starts bytes form form_line rest1) where
    one : IsReadTo net bytes 1 rest1
    one = literal-next net bytes 0 bytes (read-start net bytes) form form_line (λ x is. is) first.is rest1 refl first.starts

    pub project-refused : (word : List ℕ) → Misses rest1 word (project_line net) → (error : ReadError)
        → error ≡ fault_behind 1 → IsRefusal net bytes error
    project-refused word misses =
        refused-at net bytes 1 rest1 one (omega arith)
        (literal-missing net bytes 1 rest1 one word (project_line net) (λ x is. is) misses.is misses.none)

    module _ (project rest2 : List ℕ) (second : Starts rest1 project (project_line net) rest2) where
      two : IsReadTo net bytes 2 rest2
      two = literal-next net bytes 1 rest1 one project (project_line net) (λ x is. is) second.is rest2 refl second.starts

      pub total-refused : ((x : Option ℕ) (more : List ℕ) → IsTotalAt rest2 x more → ⊥) → (error : ReadError)
          → error ≡ fault_behind 2 → IsRefusal net bytes error
      total-refused none = refused-at net bytes 2 rest2 two (omega arith) (total-missing net rest2 none)

      pub fronts-start : (t : Option ℕ) (rest : List ℕ)
          → IsTotalAt rest2 t rest × ((x : Option ℕ) (more : List ℕ) → IsTotalAt rest2 x more → (x ≡ t) × (more ≡ rest))
          → HasRead net bytes (record { total = t; fronts = [] }) 0 rest
      fronts-start t rest total = record {
        read = total-next net bytes rest2 two t rest total;
        spelled = spelled-start form_line (project_line net) rest1 rest2 rest (total_line t) bytes
            (first.starts ∙ ap (λ (l : List ℕ). l ++ rest1) first.is)
            (second.starts ∙ ap (λ (l : List ℕ). l ++ rest2) second.is) total.0.spelled;
        total = total.0.small;
        fronts = tt;
        count = refl;
      }

  module _ (c : Certificate) (i : ℕ) (rest : List ℕ) (has : HasRead net bytes c i rest) where
    pub front-refused : i < front_count net → ((x : List Point) (more : List ℕ) → IsFrontAt rest x more → ⊥)
        → (error : ReadError) → error ≡ fault_behind (i + 3) → IsRefusal net bytes error
    front-refused within none error is =
        refused-at net bytes (suc (suc (suc i))) rest has.read (omega arith) (front-missing net rest i within none) error
        (is ∙ ap fault_behind (let same : i + 3 ≡ suc (suc (suc i)) = omega arith in same))

    pub fronts-next : i < front_count net → (ps : List Point) (after : List ℕ)
        → IsFrontAt rest ps after × ((x : List Point) (more : List ℕ) → IsFrontAt rest x more → (x ≡ ps) × (more ≡ after))
        → HasRead net bytes (record c { fronts = c.fronts ++ ps ∷ [] }) (i + 1) after
    fronts-next within ps after found =
        let next : suc (suc (suc (suc i))) ≡ suc (suc (suc (i + 1))) = omega arith in
        record {
          read = subst (λ n. IsReadTo net bytes n after) next (front-next net bytes rest i within has.read ps after found);
          spelled = spelled-next (heading net.name ++ total_line c.total) c.fronts ps rest after bytes has.spelled found.0.spelled;
          total = has.total;
          fronts = statable-push c.fronts ps has.fronts found.0.statable;
          count = (let more = length_push c.fronts ps in let count = has.count in omega arith);
        }

    module _ (number : ℕ) (count : number ≡ front_count net) (over : number ≤ i) (within : i ≤ number) where
      all : IsReadTo net bytes (suc (suc (suc (front_count net)))) rest
      all = subst (λ n. IsReadTo net bytes (suc (suc (suc n))) rest)
          (let same : i ≡ front_count net = omega arith in same) has.read

      pub end-refused : (word : List ℕ) → Misses rest word (line (codes "end") []) → (error : ReadError)
          → error ≡ fault_behind (number + 3) → IsRefusal net bytes error
      end-refused word misses error is =
          refused-at net bytes (suc (suc (suc (front_count net)))) rest all (omega arith)
          (literal-missing net bytes (suc (suc (suc (front_count net)))) rest all word (line (codes "end") []) (end-only net)
          misses.is misses.none) error
          (is ∙ ap fault_behind (let same : number + 3 ≡ suc (suc (suc (front_count net))) = omega arith in same))

      pub rest-refused : (word behind : List ℕ) → Starts rest word (line (codes "end") []) behind → 0 < length behind
          → (error : ReadError) → error ≡ fault_behind (number + 4) → IsRefusal net bytes error
      rest-refused word behind ends more error is =
          refused-behind net bytes behind
          (literal-next net bytes (suc (suc (suc (front_count net)))) rest all word (line (codes "end") []) (end-only net) ends.is
          behind (inr (refl, refl)) ends.starts) more error
          (is ∙ ap fault_behind (let same : number + 4 ≡ line_count net = omega arith in same))
