-- One outcome for each section, sorted into fronts and refused sections.
use Rattle.std.proofs.Common.{◌≡◌, ℕ, zero, suc, ◌+◌, ◌<◌, ◌≤◌, List, [], ◌∷◌, map, length, Some, refl, ap, sym, ◌∙◌, arith, inl, inr, subst, slice_index}
use Rattle.std.proofs.lemmas.Bool.{lt-ltb, le-ltb}
use Rattle.std.proofs.lemmas.Bool.Decides.{eqb_tells}
use Rattle.std.proofs.lemmas.List.{length-map}
use Rattle.std.proofs.lemmas.List.Sums.{sum_by-cons}
use Rattle.std.proofs.lemmas.Option.{slice_get-map}
use Rattle.std.specs.Prelude.{All, ◌==◌, nat_lt, slice_get, option_map}
use Rattle.std.specs.List.{count_by}
use Rattle.std.specs.List.Sorted.{IsStrictlyIncreasing}
use Rattle.duct_definitions.specs.Network.{Network}
use Rattle.duct_definitions.specs.Tree.{section_count}
use Rattle.contract_join.specs.SectionFronts.{SectionData, AreFrontsOf}
use Rattle.contract_join.specs.declared.outcome.Outcome.{Outcome}
use Rattle.contract_join.specs.declared.outcome.Outcome.TheVariants.{Fronts, NoMemory}
use Rattle.contract_join.specs.Outcomes.{section_of, IsOutcomeOf}
use Rattle.child_counter.specs.Shown.{one_if}
use Rattle.child_counter.specs.Closed.{AreOutcomesOf, AreSorted, fronts_among, refused_among}
use Rattle.child_counter.proofs.Children.{fits-section}

abbrev Numbered : Network → ℕ → List Outcome → Type 0
Numbered net first os = (k : ℕ) (o : Outcome) → slice_get os k ≡ Some o → IsOutcomeOf net (first + k) o

later : (net : Network) (first : ℕ) (o : Outcome) (os : List Outcome) → Numbered net first (o ∷ os)
    → Numbered net (first + 1) os
later net first o os h k x is = subst (λ n. IsOutcomeOf net n x)
    (let e : first + suc k ≡ first + 1 + k = omega arith in e) (h (suc k) x is)

head-section : (net : Network) (first : ℕ) (o : Outcome) (os : List Outcome) → Numbered net first (o ∷ os)
    → section_of o ≡ first
head-section net first o os h = fits-section net (first + 0) o (h 0 o refl) ∙ omega arith

-- how often a section is named
abbrev named : ℕ → List Outcome → ℕ
named s os = count_by (λ (f : SectionData). f.section == s) (fronts_among os) + count_by (λ r. r == s)
    (refused_among os)

named-cons : (s : ℕ) (o : Outcome) (os : List Outcome) → named s (o ∷ os) ≡ one_if (section_of o == s) + named s os
named-cons s (Fronts f) os = (let a = sum_by-cons (λ (g : SectionData). one_if (g.section == s)) f
    (fronts_among os) in omega arith)
named-cons s (NoMemory r) os = (let a = sum_by-cons (λ q. one_if (q == s)) r (refused_among os) in omega arith)

named-before : (net : Network) (first s : ℕ) (os : List Outcome) → Numbered net first os → s < first → named s os ≡ 0
named-before net first s [] h before = refl
named-before net first s (o ∷ os) h before =
    let a = named-cons s o os in
    let b = named-before net (first + 1) s os (later net first o os h) (omega arith) in
    let c = head-section net first o os h in
    let d : one_if (section_of o == s) ≡ 0 = elim (eqb_tells (section_of o) s)
    [ inl p ↦ (let q = p.1 in absurd (omega arith)) | inr p ↦ ap one_if p.0 ] in
    omega arith

named-once : (net : Network) (first s : ℕ) (os : List Outcome) → Numbered net first os → first ≤ s
    → named s os ≡ one_if (nat_lt s (first + length os))
named-once net first s [] h from = sym (ap one_if (le-ltb s (first + 0) (omega arith)))
named-once net first s (o ∷ os) h from =
    let a = named-cons s o os in
    let c = head-section net first o os h in
    let rest = later net first o os h in
    elim (eqb_tells (section_of o) s) [
      | inl p ↦ (
          let q = p.1 in
          let one = ap one_if p.0 in
          let none = named-before net (first + 1) s os rest (omega arith) in
          let here = ap one_if (lt-ltb s (first + length (o ∷ os)) (omega arith)) in
          omega arith)
      | inr p ↦ (
          let q = p.1 in
          let zero_is = ap one_if p.0 in
          let more = named-once net (first + 1) s os rest (omega arith) in
          let same : one_if (nat_lt s (first + 1 + length os)) ≡ one_if (nat_lt s (first + length (o ∷ os))) = ap
          (λ n. one_if (nat_lt s n)) (omega arith) in
          omega arith)
    ]

numbered : (net : Network) (os : List Outcome) → AreOutcomesOf net os → Numbered net 0 os
numbered net os h k o is = subst (λ n. IsOutcomeOf net n o) (let e : k ≡ 0 + k = omega arith in e) (h.each k o is)

-- the two lists name every section once, and nothing else
pub each-named : (net : Network) (fronts : List SectionData) (refused : List ℕ) → AreSorted net fronts refused
    → (s : ℕ) → count_by (λ (f : SectionData). f.section == s) fronts + count_by (λ r. r == s) refused ≡ one_if
    (nat_lt s (section_count net.tree))
each-named net fronts refused h s =
    let a = named-once net 0 s h.0 (numbered net h.0 h.1) (omega arith) in
    let b = ap (λ (l : List SectionData). count_by (λ (f : SectionData). f.section == s) l) h.2 in
    let c = ap (λ (l : List ℕ). count_by (λ r. r == s) l) h.3 in
    let d = ap (λ n. one_if (nat_lt s n)) (let e : 0 + length h.0 ≡ section_count net.tree =
    (let f = h.1.count in omega arith) in e) in
    omega arith

-- numbers that rise, behind a lesser one
rising-cons : (x : ℕ) (xs : List ℕ) → All (λ y. x < y) xs → IsStrictlyIncreasing xs → IsStrictlyIncreasing (x ∷ xs)
rising-cons x [] below h k within = absurd (omega arith)
rising-cons x (y ∷ ys) below h zero within = below 0 0 (omega arith)
rising-cons x (y ∷ ys) below h (suc k) within =
    subst (λ i. slice_index (y ∷ ys) k < slice_index (x ∷ y ∷ ys) i)
    (let e : suc (k + 1) ≡ suc k + 1 = omega arith in e) (h k (omega arith))

all-cons : (P : ℕ → Type 0) (x : ℕ) (xs : List ℕ) → P x → All P xs → All P (x ∷ xs)
all-cons P x xs here rest zero d within = here
all-cons P x xs here rest (suc k) d within = rest k d (omega arith)

fronts-from : (net : Network) (first : ℕ) (os : List Outcome) → Numbered net first os
    → All (λ s. first ≤ s) (map (λ (f : SectionData). f.section) (fronts_among os))
    × IsStrictlyIncreasing (map (λ (f : SectionData). f.section) (fronts_among os))
fronts-from net first [] h = ((λ k d within. absurd (omega arith)), (λ k within. absurd (omega arith)))
fronts-from net first (Fronts f ∷ os) h =
    let rest = fronts-from net (first + 1) os (later net first (Fronts f) os h) in
    let here = head-section net first (Fronts f) os h in
    let ss : List ℕ = map (λ (g : SectionData). g.section) (fronts_among os) in (
      all-cons (λ s. first ≤ s) f.section ss (omega arith) (λ k d within. let l = rest.0 k d within in omega arith),
      rising-cons f.section ss (λ k d within. let l = rest.0 k d within in omega arith) rest.1,
    )
fronts-from net first (NoMemory r ∷ os) h =
    let rest = fronts-from net (first + 1) os (later net first (NoMemory r) os h) in
    ((λ k d within. let l = rest.0 k d within in omega arith), rest.1)

refused-from : (net : Network) (first : ℕ) (os : List Outcome) → Numbered net first os
    → All (λ s. first ≤ s) (refused_among os) × IsStrictlyIncreasing (refused_among os)
refused-from net first [] h = ((λ k d within. absurd (omega arith)), (λ k within. absurd (omega arith)))
refused-from net first (NoMemory r ∷ os) h =
    let rest = refused-from net (first + 1) os (later net first (NoMemory r) os h) in
    let here = head-section net first (NoMemory r) os h in (
      all-cons (λ s. first ≤ s) r (refused_among os) (omega arith)
          (λ k d within. let l = rest.0 k d within in omega arith),
      rising-cons r (refused_among os) (λ k d within. let l = rest.0 k d within in omega arith) rest.1,
    )
refused-from net first (Fronts f ∷ os) h =
    let rest = refused-from net (first + 1) os (later net first (Fronts f) os h) in
    ((λ k d within. let l = rest.0 k d within in omega arith), rest.1)

-- both lists rise
pub fronts-rise : (net : Network) (fronts : List SectionData) (refused : List ℕ) → AreSorted net fronts refused
    → IsStrictlyIncreasing (map (λ (f : SectionData). f.section) fronts)
fronts-rise net fronts refused h = subst (λ (l : List SectionData). IsStrictlyIncreasing
    (map (λ (f : SectionData). f.section) l)) (sym h.2) (fronts-from net 0 h.0 (numbered net h.0 h.1)).1

pub refused-rise : (net : Network) (fronts : List SectionData) (refused : List ℕ) → AreSorted net fronts refused
    → IsStrictlyIncreasing refused
refused-rise net fronts refused h = subst IsStrictlyIncreasing (sym h.3)
    (refused-from net 0 h.0 (numbered net h.0 h.1)).1

-- where none is refused each section has fronts
all-have : (os : List Outcome) → refused_among os ≡ [] → map Fronts (fronts_among os) ≡ os
all-have [] none = refl
all-have (Fronts f ∷ os) none = ap (λ l. Fronts f ∷ l) (all-have os none)
all-have (NoMemory r ∷ os) none = absurd (cc none)

pub fronts-of-all : (net : Network) (fronts : List SectionData) (refused : List ℕ) → AreSorted net fronts refused
    → refused ≡ [] → AreFrontsOf net fronts
fronts-of-all net fronts refused h none =
    let all : map Fronts fronts ≡ h.0 = ap (map Fronts) h.2 ∙ all-have h.0 (sym h.3 ∙ none) in
    record {
      count = sym (length-map fronts Fronts) ∙ ap length all ∙ h.1.count;
      each = λ s entry is. h.1.each s (Fronts entry) (ap (λ l. slice_get l s) (sym all)
          ∙ slice_get-map Fronts fronts s ∙ ap (option_map Fronts) is);
    }

-- the fronts are of the network
pub fronts-of-network : (net : Network) (fronts : List SectionData) (refused : List ℕ) → AreSorted net fronts refused
    → All (λ (f : SectionData). f.net ≡ net) fronts
fronts-of-network net fronts refused h =
    subst (λ (l : List SectionData). All (λ (f : SectionData). f.net ≡ net) l) (sym h.2)
    (of-net h.0 (λ s f is. (h.1.each s (Fronts f) is).0))
  where
    of-net : (os : List Outcome) → ((s : ℕ) (f : SectionData) → slice_get os s ≡ Some (Fronts f) → f.net ≡ net)
        → All (λ (f : SectionData). f.net ≡ net) (fronts_among os)
    of-net [] g k d within = absurd (omega arith)
    of-net (Fronts f ∷ os) g zero d within = g 0 f refl
    of-net (Fronts f ∷ os) g (suc k) d within = of-net os (λ s x is. g (suc s) x is) k d (omega arith)
    of-net (NoMemory r ∷ os) g k d within = of-net os (λ s x is. g (suc s) x is) k d within
