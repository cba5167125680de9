-- The fans on offer.
use Rattle.std.proofs.Common.{◌≡◌, ◌≢◌, ℕ, zero, suc, ◌+◌, ◌<◌, ◌≤◌, List, [], ◌∷◌, ◌++◌, map, length, take, filter, Bool, true, false, cond, Some, slice_get, All, IsTrue, refl, ap, sym, ◌∙◌, subst, arith}
use Rattle.std.proofs.lemmas.List.{map-append, length-map}
use Rattle.std.proofs.lemmas.List.Elements.{filter-append}
use Rattle.duct_units.specs.Name.{is_name}
use Rattle.duct_definitions.specs.declared.design.NetFan.{NetFan}
use Rattle.duct_definitions.specs.Network.{AreNames, AreFans, IsFan}
use Rattle.fan_points.specs.declared.row.FanRow.{FanRow}
use Rattle.fan_points.specs.declared.terms.Energy.{Energy}
use Rattle.fan_points.specs.Fans.{IsFans, names_of, IsFan as IsFanRow}
use Rattle.fan_points.specs.Energy.{serves}
use Rattle.net_build.specs.Fans.{fan_at_cost, offered}
use Rattle.net_build.proofs.ListLaws.{taken}

pub offered-more : (fans : List FanRow) (terms : Energy) (flow i : ℕ) (fan : FanRow) → slice_get fans i ≡ Some fan → offered (take i fans) terms flow ++ offered (fan ∷ []) terms flow ≡ offered (take (i + 1) fans) terms flow
offered-more fans terms flow i fan at =
    sym (map-append (fan_at_cost terms) (filter (serves flow) (take i fans)) (filter (serves flow) (fan ∷ [])))
    ∙ ap (map (fan_at_cost terms)) (sym (filter-append (serves flow) (take i fans) (fan ∷ [])))
    ∙ ap (λ xs. offered xs terms flow) (taken fans i fan at)

-- ---- names of which no two are equal stay so among fewer

-- no name stands twice, name by name
abbrev pub Apart : List FanRow → Type 0
Apart [] = Unit {0}
Apart (fan ∷ fans) = ((k : ℕ) (other : FanRow) → slice_get fans k ≡ Some other → other.name ≢ fan.name) × Apart fans

at-map : (fans : List FanRow) (k : ℕ) (fan : FanRow) → slice_get fans k ≡ Some fan → slice_get (map (λ (f : FanRow). f.name) fans) k ≡ Some fan.name
at-map [] k fan at = absurd (cc at)
at-map (first ∷ fans) zero fan at = (let same : first ≡ fan = cc in ap (λ (f : FanRow). Some f.name) same)
at-map (first ∷ fans) (suc k) fan at = at-map fans k fan at

below : (fans : List FanRow) (k : ℕ) (fan : FanRow) → slice_get fans k ≡ Some fan → k < length (map (λ (f : FanRow). f.name) fans)
below [] k fan at = absurd (cc at)
below (first ∷ fans) zero fan at = omega arith
below (first ∷ fans) (suc k) fan at = (let e = below fans k fan at in omega arith)

apart : (fans : List FanRow) → ((i j : ℕ) → i < j → j < length (names_of fans) → slice_get (names_of fans) i ≢ slice_get (names_of fans) j) → Apart fans
apart [] distinct = tt
apart (fan ∷ fans) distinct = (
  (λ k other at same. distinct 0 (suc k) (omega arith) (let e = below fans k other at in omega arith) (ap (λ n. Some n) (sym same) ∙ sym (at-map fans k other at))),
  apart fans (λ i j less within. distinct (suc i) (suc j) (omega arith) (omega arith)),
)

step : (b : Bool) (first : FanRow) (fans fewer : List FanRow) (k : ℕ) (fan : FanRow) → ((k : ℕ) → slice_get fewer k ≡ Some fan → (j : ℕ) × (slice_get fans j ≡ Some fan)) → slice_get (cond b (first ∷ fewer) fewer) k ≡ Some fan
    → (j : ℕ) × (slice_get (first ∷ fans) j ≡ Some fan)
step true first fans fewer zero fan found at = (0, at)
step true first fans fewer (suc k) fan found at = (let f = found k at in (suc f.0, f.1))
step false first fans fewer k fan found at = (let f = found k at in (suc f.0, f.1))

among-fewer : (test : FanRow → Bool) (fans : List FanRow) (k : ℕ) (fan : FanRow) → slice_get (filter test fans) k ≡ Some fan → (j : ℕ) × (slice_get fans j ≡ Some fan)
among-fewer test [] k fan at = absurd (cc at)
among-fewer test (first ∷ fans) k fan at = step (test first) first fans (filter test fans) k fan (λ k at. among-fewer test fans k fan at) at

apart-step : (b : Bool) (fan : FanRow) (fewer : List FanRow) → ((k : ℕ) (other : FanRow) → slice_get fewer k ≡ Some other → other.name ≢ fan.name) → Apart fewer → Apart (cond b (fan ∷ fewer) fewer)
apart-step true fan fewer new are = (new, are)
apart-step false fan fewer new are = are

apart-fewer : (test : FanRow → Bool) (fans : List FanRow) → Apart fans → Apart (filter test fans)
apart-fewer test [] are = tt
apart-fewer test (fan ∷ fans) are = apart-step (test fan) fan (filter test fans) (λ k other at. (let f = among-fewer test fans k other at in are.0 f.0 other f.1)) (apart-fewer test fans are.1)

get-name : (fans : List FanRow) (terms : Energy) (k : ℕ) → k < length (map (λ (fan : NetFan). fan.name) (map (fan_at_cost terms) fans)) → (fan : FanRow) × (slice_get fans k ≡ Some fan) × (slice_get (map (λ (fan : NetFan). fan.name) (map (fan_at_cost terms) fans)) k ≡ Some fan.name)
get-name [] terms k less = absurd (omega arith)
get-name (fan ∷ fans) terms zero less = (fan, refl, refl)
get-name (fan ∷ fans) terms (suc k) less = get-name fans terms k (omega arith)

distinct-from : (fans : List FanRow) (terms : Energy) → Apart fans → (i j : ℕ) → i < j → j < length (map (λ (fan : NetFan). fan.name) (map (fan_at_cost terms) fans))
    → slice_get (map (λ (fan : NetFan). fan.name) (map (fan_at_cost terms) fans)) i ≢ slice_get (map (λ (fan : NetFan). fan.name) (map (fan_at_cost terms) fans)) j
distinct-from [] terms are i j less within same = absurd (omega arith)
distinct-from (fan ∷ fans) terms are zero zero less within same = absurd (omega arith)
distinct-from (fan ∷ fans) terms are zero (suc j) less within same =
    (let found = get-name fans terms j (omega arith) in
    let e : Some fan.name ≡ Some found.0.name = same ∙ found.2 in
    let one : found.0.name ≡ fan.name = cc in
    are.0 j found.0 found.1 one)
distinct-from (fan ∷ fans) terms are (suc i) zero less within same = absurd (omega arith)
distinct-from (fan ∷ fans) terms are (suc i) (suc j) less within same = distinct-from fans terms are.1 i j (omega arith) (omega arith) same

-- every fan of fewer is one of all
with-first : (P : FanRow → Type 0) (fan : FanRow) (fewer : List FanRow) → P fan → All P fewer → All P (fan ∷ fewer)
with-first P fan fewer is each zero d less = is
with-first P fan fewer is each (suc k) d less = each k d (omega arith)

all-fewer : (P : FanRow → Type 0) (test : FanRow → Bool) (fans : List FanRow) → All P fans → All P (filter test fans)
all-fewer P test [] all = λ k d less. absurd (omega arith)
all-fewer P test (fan ∷ fans) all =
    by-test (test fan) (filter test fans) (all 0 fan (omega arith)) (all-fewer P test fans (λ i d less. all (suc i) d (omega arith)))
  where
    by-test : (b : Bool) (fewer : List FanRow) → P fan → All P fewer → All P (cond b (fan ∷ fewer) fewer)
    by-test true fewer is each = with-first P fan fewer is each
    by-test false fewer is each = each

form-of : (fans : List FanRow) (terms : Energy) → All IsFanRow fans → All (λ name. IsTrue (is_name name)) (map (λ (fan : NetFan). fan.name) (map (fan_at_cost terms) fans))
form-of [] terms all k d less = absurd (omega arith)
form-of (fan ∷ fans) terms all zero d less = (all 0 fan (omega arith)).bounds.name
form-of (fan ∷ fans) terms all (suc k) d less = form-of fans terms (λ i e within. all (suc i) e (omega arith)) k d (omega arith)

few-left : (test : FanRow → Bool) (fans : List FanRow) → length (filter test fans) ≤ length fans
few-left test [] = omega arith
few-left test (fan ∷ fans) = by-test (test fan) (filter test fans) (few-left test fans)
  where
    by-test : (b : Bool) (fewer : List FanRow) → length fewer ≤ length fans → length (cond b (fan ∷ fewer) fewer) ≤ suc (length fans)
    by-test true fewer few = omega arith
    by-test false fewer few = omega arith

pub are-fans : (fans : List FanRow) (terms : Energy) (flow : ℕ) (offer : List NetFan) → IsFans fans → All IsFan offer → offer ≡ offered fans terms flow → AreFans offer
are-fans fans terms flow offer is bounds same = record {
  names = subst (λ (o : List NetFan). AreNames (map (λ (fan : NetFan). fan.name) o)) (sym same) (record {
    form = form-of (filter (serves flow) fans) terms (all-fewer IsFanRow (serves flow) fans is.bounds);
    distinct = distinct-from (filter (serves flow) fans) terms (apart-fewer (serves flow) fans (apart fans is.names.distinct));
  });
  bounds = bounds;
  few = (let e = ap length same in let l = length-map (filter (serves flow) fans) (fan_at_cost terms) in let f = few-left (serves flow) fans in let m = is.few in omega arith);
}
