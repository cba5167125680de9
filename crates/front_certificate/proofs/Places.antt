-- Where the fronts of a section stand among all.
use Rattle.std.proofs.Common.{◌≡◌, ℕ, zero, suc, ◌+◌, ◌*◌, ◌<◌, ◌≤◌, arith, ap, sym, ◌∙◌, subst, Option, Some, None, List, [], length, get_or, inl, inr}
use Rattle.std.specs.Prelude.{All, IfSome}
use Rattle.std.proofs.lemmas.Bool.{cases_eq, cases_lt}
use Rattle.std.proofs.lemmas.List.{get_or_default, get_or_past}
use Rattle.std.proofs.lemmas.Option.{unwrap_or-slice_get}
use Rattle.duct_definitions.specs.declared.limits.TheConstants.{MAX_SECTIONS, MAX_SIZES}
use Rattle.duct_definitions.specs.Tree.{section_count, neighbour}
use Rattle.duct_definitions.specs.Network.{Network, IsNetwork, columns, columns_beside}
use Rattle.duct_definitions.proofs.TreeLaws.{few_sections, neighbour_earlier}
use Rattle.pareto_front.specs.declared.point.Point.{Point}
use Rattle.pareto_front.specs.Front.{IsFront}
use Rattle.front_certificate.specs.Certificates.{fronts_before, front_count, front_at}
use Rattle.front_certificate.specs.Tests.{Stated, IsIndexed}

pub fronts_before-next : (net : Network) (s : ℕ) → fronts_before net (s + 1) ≡ fronts_before net s + columns net s
fronts_before-next net s = ap (fronts_before net) (let same : s + 1 ≡ suc s = omega arith in same)

-- the fronts of a section stand before those of later ones
pub fronts_before-later : (net : Network) (s n : ℕ) → s < n → fronts_before net s + columns net s ≤ fronts_before net n
fronts_before-later net s zero less = absurd (omega arith)
fronts_before-later net s (suc n) less = elim (cases_eq s n) [
  | inl same ↦
      let e : fronts_before net s + columns net s ≡ fronts_before net (suc n) =
      ap (λ t. fronts_before net t + columns net t) same in
      omega arith
  | inr other ↦ let before = fronts_before-later net s n (omega arith) in omega arith
]

pub place-within : (net : Network) (s g : ℕ) → s < section_count net.tree → g < columns net s
    → fronts_before net s + g < front_count net
place-within net s g section beside =
    let all = fronts_before-later net s (section_count net.tree) section in omega arith

-- a section has no more columns than a section has sizes
columns-few : (net : Network) → IsNetwork net → (s : ℕ) → s < section_count net.tree → columns net s ≤ MAX_SIZES
columns-few net valid s section = go (neighbour net.tree s) (neighbour_earlier net.tree s valid.tree section) where
  go : (o : Option ℕ) → IfSome o (λ n. n < s) → columns_beside net o ≤ MAX_SIZES
  go None before = omega arith
  go (Some n) before = (valid.sections n (omega arith)).few

pub fronts_before-few : (net : Network) → IsNetwork net → (n : ℕ) → n ≤ section_count net.tree
    → fronts_before net n ≤ n * MAX_SIZES
fronts_before-few net valid zero within = omega arith
fronts_before-few net valid (suc n) within =
    let before = fronts_before-few net valid n (omega arith) in
    let more = columns-few net valid n (omega arith) in
    omega arith

-- where the front of a section beside a size of its neighbour stands
pub record IsPlace (net : Network) (fronts : List (List Point)) (firsts : List ℕ) (s g : ℕ) : Type 0 where
  pub section : s < MAX_SECTIONS
  pub within : get_or firsts s 0 + g < length fronts
  pub few : length fronts ≤ MAX_SECTIONS * MAX_SIZES
  pub read : (d : List Point) → get_or fronts (get_or firsts s 0 + g) d ≡ front_at net fronts s g

pub place : (net : Network) (fronts : List (List Point)) (firsts : List ℕ) → IsIndexed net fronts firsts → (s g : ℕ)
    → s < section_count net.tree → g < columns net s → IsPlace net fronts firsts s g
place net fronts firsts indexed s g section beside =
    let sections = few_sections net.tree indexed.network.tree in
    let few = fronts_before-few net indexed.network (section_count net.tree) (omega arith) in
    let count = indexed.count in
    let first : get_or firsts s 0 ≡ fronts_before net s = indexed.places s section in
    let less = place-within net s g section beside in
    let within : get_or firsts s 0 + g < length fronts = omega arith in
    record {
      section = omega arith;
      within = within;
      few = omega arith;
      read = λ d.
          get_or_default fronts (get_or firsts s 0 + g) d [] within
          ∙ ap (λ i. get_or fronts (i + g) []) first
          ∙ sym (unwrap_or-slice_get fronts (fronts_before net s + g) []);
    }

-- each front that is read is a front
pub front_at-rising : (net : Network) (fronts : List (List Point)) → All IsFront fronts → (s g : ℕ)
    → IsFront (front_at net fronts s g)
front_at-rising net fronts rising s g =
    let at : ℕ = fronts_before net s + g in
    subst IsFront (sym (unwrap_or-slice_get fronts at []))
    (elim (cases_lt at (length fronts)) [
      | inl within ↦ rising at [] within
      | inr past ↦ subst IsFront (sym (get_or_past fronts at [] past)) tt
    ])

-- the same of what a contract sees
pub place-seen : (net : Network) (fronts : List (List Point)) (firsts : List ℕ) (s g : ℕ) (v : Stated)
    → record { net = net; fronts = fronts } ≡ v → IsIndexed net fronts firsts
    → s < section_count v.net.tree → g < columns v.net s → IsPlace net fronts firsts s g
place-seen net fronts firsts s g v seen indexed section beside =
    place net fronts firsts indexed s g
    (subst (λ (w : Stated). s < section_count w.net.tree) (sym seen) section)
    (subst (λ (w : Stated). g < columns w.net s) (sym seen) beside)
