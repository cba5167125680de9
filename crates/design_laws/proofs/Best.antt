-- The best design of a small network, found by a test of each design that fits it.
use Rattle.std.proofs.Common.{◌≡◌, ℕ, ◌+◌, ◌<◌, inl, inr, List, [], ◌∷◌, length, Bool, true, false, not, Option, Some, None, refl, sym}
use Rattle.std.proofs.lemmas.Bool.{and_parts, and_from, or_cases, eqb-true, eq-eqb, ltb-true, lt-ltb, leb-true, le-leb, both_ways, not-true}
use Rattle.std.specs.Prelude.{◌&&◌, ◌||◌, ◌==◌, slice_index, nat_lt, nat_le, nat_eq, is_some, IfSome}
use Rattle.std.specs.List.{list_all}
use Rattle.std.specs.Cmp.Lexicographic.{pointwise, same_text}
use Rattle.duct_units.specs.declared.side.Side.TheVariants.{Supply, Return}
use Rattle.duct_definitions.specs.declared.design.Design.{Design}
use Rattle.duct_definitions.specs.Tree.{section_count}
use Rattle.duct_definitions.specs.Network.{Network, size_count, fan_at, return_fan_at}
use Rattle.duct_definitions.specs.Designs.{Fits, Meets, Covers, pair_of, worst, cost}
use Rattle.duct_definitions.specs.Order.{Earlier, LessOr, turn_of, Before, IsBest, NoneMeets}
use Rattle.duct_definitions.proofs.Below.{all_below, all_below-holds, all_below-from}
use Rattle.design_laws.proofs.Among.{list_all-among}
use Rattle.design_laws.proofs.Listing.{designs, Among-designs}
use Rattle.design_laws.proofs.TotalOrder.{same_design}

-- the return fan is on offer, where there is one
abbrev pub has_back : Network → Option ℕ → Bool
has_back net None = true
has_back net (Some i) = nat_lt i (length net.return_fans)

has_back-holds : (net : Network) (back : Option ℕ) → has_back net back ≡ true
    → IfSome back (λ i. i < length net.return_fans)
has_back-holds net None passed = tt
has_back-holds net (Some i) passed = ltb-true i (length net.return_fans) passed

has_back-from : (net : Network) (back : Option ℕ) → IfSome back (λ i. i < length net.return_fans)
    → has_back net back ≡ true
has_back-from net None within = refl
has_back-from net (Some i) within = lt-ltb i (length net.return_fans) within

abbrev pub fits : Network → Design → Bool
fits net d =
    (nat_lt d.fan (length net.fans) && has_back net d.back)
    && (length d.sizes == section_count net.tree
    && all_below (section_count net.tree) (λ s. nat_lt (slice_index d.sizes s) (size_count net s)))

Fits-tested : (net : Network) (d : Design) → fits net d ≡ true → Fits net d
Fits-tested net d passed =
    let (fans, sized) = and_parts _ _ passed in
    let (fan, back) = and_parts (nat_lt d.fan (length net.fans)) (has_back net d.back) fans in
    let (sizes, each) = and_parts _ _ sized in
    record {
      fan = ltb-true d.fan (length net.fans) fan;
      back = has_back-holds net d.back back;
      sizes = eqb-true (length d.sizes) (section_count net.tree) sizes;
      each = λ s within.
          let test : ℕ → Bool = λ t. nat_lt (slice_index d.sizes t) (size_count net t) in
          ltb-true (slice_index d.sizes s) (size_count net s)
          (all_below-holds (section_count net.tree) test each s within);
    }

fits-from : (net : Network) (d : Design) → Fits net d → fits net d ≡ true
fits-from net d fitting =
    and_from _ _
    (and_from _ _ (lt-ltb d.fan (length net.fans) fitting.fan) (has_back-from net d.back fitting.back))
    (and_from _ _ (eq-eqb (length d.sizes) (section_count net.tree) fitting.sizes)
    (all_below-from (section_count net.tree) (λ s. nat_lt (slice_index d.sizes s) (size_count net s))
    λ s within. lt-ltb (slice_index d.sizes s) (size_count net s) (fitting.each s within)))

-- the fans' pressures suffice
abbrev pub covers : Network → Design → Option ℕ → Bool
covers net d None = nat_le (worst net d Supply + worst net d Return) (fan_at net d.fan).pressure
covers net d (Some i) =
    nat_le (worst net d Supply) (fan_at net d.fan).pressure
    && nat_le (worst net d Return) (return_fan_at net i).pressure

Covers-tested : (net : Network) (d : Design) (back : Option ℕ) → covers net d back ≡ true → Covers net d back
Covers-tested net d None passed =
    leb-true (worst net d Supply + worst net d Return) (fan_at net d.fan).pressure passed
Covers-tested net d (Some i) passed =
    let (supply, own) = and_parts _ _ passed in (
      leb-true (worst net d Supply) (fan_at net d.fan).pressure supply,
      leb-true (worst net d Return) (return_fan_at net i).pressure own,
    )

covers-from : (net : Network) (d : Design) (back : Option ℕ) → Covers net d back → covers net d back ≡ true
covers-from net d None covered =
    le-leb (worst net d Supply + worst net d Return) (fan_at net d.fan).pressure covered
covers-from net d (Some i) covered =
    and_from _ _ (le-leb (worst net d Supply) (fan_at net d.fan).pressure covered.0)
    (le-leb (worst net d Return) (return_fan_at net i).pressure covered.1)

-- every pair is there, and the fans' pressures suffice
abbrev pub suffices : Network → Design → Bool
suffices net d = all_below (section_count net.tree) (λ s. is_some (pair_of net d s)) && covers net d d.back

pub Meets-tested : (net : Network) (d : Design) → (fits net d && suffices net d) ≡ true → Meets net d
Meets-tested net d passed =
    let (fitting, sufficing) = and_parts (fits net d) (suffices net d) passed in
    let (pairs, pressure) =
    and_parts (all_below (section_count net.tree) (λ s. is_some (pair_of net d s))) (covers net d d.back) sufficing in
    record {
      fits = Fits-tested net d fitting;
      pairs = λ s within. all_below-holds (section_count net.tree) (λ t. is_some (pair_of net d t)) pairs s within;
      pressure = Covers-tested net d d.back pressure;
    }

-- a design that meets the rules passes the test
suffices-from : (net : Network) (d : Design) → Meets net d → suffices net d ≡ true
suffices-from net d meets =
    and_from _ _ (all_below-from (section_count net.tree) (λ s. is_some (pair_of net d s)) meets.pairs)
    (covers-from net d d.back meets.pressure)

pub passes-from : (net : Network) (d : Design) → Meets net d → (fits net d && suffices net d) ≡ true
passes-from net d meets = and_from _ _ (fits-from net d meets.fits) (suffices-from net d meets)

-- the test of the order
abbrev pub less_or : ℕ → ℕ → Bool → Bool
less_or m n after = nat_lt m n || (m == n && after)

abbrev pub is_earlier : List ℕ → List ℕ → Bool
is_earlier (x ∷ xs) (y ∷ ys) = less_or x y (is_earlier xs ys)
is_earlier xs ys = false

abbrev pub is_before : Network → Design → Design → Bool
is_before net d e =
    less_or (cost net d) (cost net e)
    (less_or d.fan e.fan
    (less_or (turn_of d.back) (turn_of e.back)
    (less_or (worst net d Supply) (worst net e Supply)
    (is_earlier d.sizes e.sizes))))

LessOr-tested : (m n : ℕ) (after : Bool) (Then : Type 0) → (after ≡ true → Then) → less_or m n after ≡ true
    → LessOr m n Then
LessOr-tested m n after Then holds passed =
    elim (or_cases (nat_lt m n) (m == n && after) passed) [
      | inl less ↦ inl (ltb-true m n less)
      | inr both ↦ let (same, next) = and_parts (m == n) after both in inr (eqb-true m n same, holds next)
    ]

Earlier-tested : (xs ys : List ℕ) → is_earlier xs ys ≡ true → Earlier xs ys
Earlier-tested [] ys passed = absurd (both_ways false refl passed)
Earlier-tested (x ∷ xs) [] passed = absurd (both_ways false refl passed)
Earlier-tested (x ∷ xs) (y ∷ ys) passed =
    LessOr-tested x y (is_earlier xs ys) (Earlier xs ys) (Earlier-tested xs ys) passed

Before-tested : (net : Network) (d e : Design) → is_before net d e ≡ true → Before net d e
Before-tested net d e =
    LessOr-tested _ _ _ _ (LessOr-tested _ _ _ _ (LessOr-tested _ _ _ _ (LessOr-tested _ _ _ _
    (Earlier-tested d.sizes e.sizes))))

abbrev pub is_same : Design → Design → Bool
is_same d e = d.fan == e.fan && (turn_of d.back == turn_of e.back && pointwise nat_eq d.sizes e.sizes)

same_tested : (d e : Design) → is_same d e ≡ true → e ≡ d
same_tested d e passed =
    let (fan, rest) = and_parts (d.fan == e.fan) _ passed in
    let (turn, sizes) = and_parts (turn_of d.back == turn_of e.back) (pointwise nat_eq d.sizes e.sizes) rest in
    same_design d e (eqb-true d.fan e.fan fan) (eqb-true (turn_of d.back) (turn_of e.back) turn)
    (sym (same_text d.sizes e.sizes (sym sizes)))

-- the other design does not meet the rules, or is this one, or comes later
abbrev pub comes_first : Network → Design → Design → Bool
comes_first net d e = not (suffices net e) || (is_same d e || is_before net d e)

pub IsBest-tested : (net : Network) (d : Design) → (fits net d && suffices net d) ≡ true
    → list_all (comes_first net d) (designs net) ≡ true → IsBest net d
IsBest-tested net d passed all = record {
  meets = Meets-tested net d passed;
  first = λ e meets.
      let tested = list_all-among (comes_first net d) e (designs net) all (Among-designs net e meets.fits) in
      elim (or_cases (not (suffices net e)) (is_same d e || is_before net d e) tested) [
        | inl fails ↦ absurd (both_ways (suffices net e) (not-true (suffices net e) fails) (suffices-from net e meets))
        | inr ordered ↦ elim (or_cases (is_same d e) (is_before net d e) ordered) [
          | inl same ↦ inl (same_tested d e same)
          | inr before ↦ inr (Before-tested net d e before)
        ]
      ];
}

pub NoneMeets-tested : (net : Network) → list_all (λ d. not (suffices net d)) (designs net) ≡ true → NoneMeets net
NoneMeets-tested net all d meets =
    let fails : not (suffices net d) ≡ true =
    list_all-among (λ e. not (suffices net e)) d (designs net) all (Among-designs net d meets.fits) in
    both_ways (suffices net d) (not-true (suffices net d) fails) (suffices-from net d meets)
