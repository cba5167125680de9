-- A price that is laid at a need, and a front that is laid point by point.
use Rattle.std.proofs.Common.{◌≡◌, ℕ, zero, suc, ◌+◌, ◌-◌, ◌<◌, ◌≤◌, min, max, refl, ap, sym, ◌∙◌, arith, inl, inr, subst, List, [], ◌∷◌, Option, Some, length, take, drop, map, get_or, set, length-set}
use Rattle.std.specs.Prelude.{All, slice_get}
use Rattle.std.proofs.lemmas.Bool.{cases_lt}
use Rattle.std.proofs.lemmas.List.{take_all, take-set-le, drop-set-lt, length-map, get_or-map}
use Rattle.std.proofs.lemmas.List.Elements.{All-weaker}
use Rattle.std.proofs.lemmas.Option.{slice_get_within, get_or_from_slice_get}
use Rattle.duct_units.specs.Prices.{lesser}
use Rattle.duct_units.proofs.PriceLaws.{lesser-none, lesser-comm, lesser-assoc}
use Rattle.pareto_front.specs.declared.point.Point.{Point}
use Rattle.pareto_front.specs.declared.least_prices.TheConstants.{ABSENT}
use Rattle.pareto_front.specs.Front.{IsFront, price_of, moved_by}
use Rattle.pareto_front.specs.LaidPoints.{least_among}
use Rattle.pareto_front.specs.LeastPrices.{shown, points_from, AreAbsent, AreBetween}
use Rattle.pareto_front.proofs.Cuts.{needs_rise}
use Rattle.pareto_front.proofs.Kept.{price_from}
use Rattle.pareto_front.proofs.LeastAmong.{least_among-more, least_among-none}
use Rattle.pareto_front.proofs.PricesByNeed.{shown-there, shown-absent, price_from-lesser, least_among-with_price, absent_before, absent_after}

-- the lesser of a price and a cost below ABSENT
shown-min : (price cost : ℕ) → cost < ABSENT → shown (min price cost) ≡ lesser (shown price) (Some cost)
shown-min price cost low = elim (cases_lt price ABSENT) [
  | inl there ↦
      shown-there (min price cost) (omega arith)
      ∙ sym (ap (λ o. lesser o (Some cost)) (shown-there price there))
  | inr absent ↦
      shown-there (min price cost) (omega arith)
      ∙ ap Some (let same : min price cost ≡ cost = omega arith in same)
      ∙ sym (ap (λ o. lesser o (Some cost)) (shown-absent price absent))
]

-- the last two of three change places
lesser-last : (x y z : Option ℕ) → lesser (lesser x y) z ≡ lesser (lesser x z) y
lesser-last x y z = lesser-assoc x y z ∙ ap (lesser x) (lesser-comm y z) ∙ sym (lesser-assoc x z y)

-- a price that is laid at the place i
least_among-lay : (prices : List ℕ) (start i need cost b : ℕ) → need ≡ start + i → i < length prices → cost < ABSENT
    → least_among (points_from start (set prices i (min (get_or prices i 0) cost))) b
    ≡ lesser (least_among (points_from start prices) b) (price_from need (Some cost) b)
least_among-lay [] start i need cost b is within low = absurd (omega arith)
least_among-lay (p ∷ ps) start zero need cost b is within low =
    let rest = points_from (start + 1) ps in
    let same : start ≡ need = omega arith in
    least_among-with_price (shown (min p cost)) start rest b
    ∙ ap (λ o. lesser (price_from start o b) (least_among rest b)) (shown-min p cost low)
    ∙ ap (λ o. lesser o (least_among rest b)) (price_from-lesser start b (shown p) (Some cost))
    ∙ lesser-last (price_from start (shown p) b) (price_from start (Some cost) b) (least_among rest b)
    ∙ ap (λ n. lesser (lesser (price_from start (shown p) b) (least_among rest b)) (price_from n (Some cost) b)) same
    ∙ ap (λ o. lesser o (price_from need (Some cost) b)) (sym (least_among-with_price (shown p) start rest b))
least_among-lay (p ∷ ps) start (suc i) need cost b is within low =
    let new = set ps i (min (get_or ps i 0) cost) in
    let price = price_from need (Some cost) b in
    least_among-with_price (shown p) start (points_from (start + 1) new) b
    ∙ ap (lesser (price_from start (shown p) b)) (least_among-lay ps (start + 1) i need cost b (omega arith) (omega arith) low)
    ∙ sym (lesser-assoc (price_from start (shown p) b) (least_among (points_from (start + 1) ps) b) price)
    ∙ ap (λ o. lesser o price) (sym (least_among-with_price (shown p) start (points_from (start + 1) ps) b))

pub least-lay : (prices : List ℕ) (point : Point) (b : ℕ) → point.need < length prices → point.cost < ABSENT
    → least_among (points_from 0 (set prices point.need (min (get_or prices point.need 0) point.cost))) b
    ≡ lesser (least_among (points_from 0 prices) b) (price_of point b)
least-lay prices point b within low = least_among-lay prices 0 point.need point.need point.cost b (omega arith) within low

-- prices at which a front is laid
module _ (points : List Point) (front : IsFront points) (loss : ℕ) (first last : Point) (first_is : slice_get points 0 ≡ Some first) (last_is : slice_get points (length points - 1) ≡ Some last) where
  first_least : All (λ p. first.need ≤ p.need) points
  first_least k d within =
      subst (λ (p : Point). p.need ≤ (get_or points k d).need) (get_or_from_slice_get points 0 first d first_is)
      (needs_rise points front 0 k d (omega arith) within)

  pub last_most : All (λ p. p.need ≤ last.need) points
  last_most k d within =
      subst (λ (p : Point). (get_or points k d).need ≤ p.need) (get_or_from_slice_get points (length points - 1) last d last_is)
      (needs_rise points front k (length points - 1) d (omega arith) (omega arith))

  pub AreBetween-laid : (old new : List ℕ) (from until : ℕ) → AreBetween from until old → length new ≡ length old
      → All (λ p. p.need + loss < length old) points
      → ((i : ℕ) → All (λ p. i ≤ p.need + loss) points → take i new ≡ take i old)
      → ((i : ℕ) → All (λ p. p.need + loss < i) points → drop i new ≡ drop i old)
      → AreBetween (min from (first.need + loss)) (max until (last.need + loss + 1)) new
  AreBetween-laid old new from until are wide needs before after =
      let starts = are.starts in
      let ends = are.ends in
      let inside : last.need + loss < length old =
      subst (λ (p : Point). p.need + loss < length old) (get_or_from_slice_get points (length points - 1) last first last_is)
      (needs (length points - 1) first (slice_get_within points (length points - 1) last last_is)) in
      record {
        starts = omega arith;
        ends = omega arith;
        before =
            subst AreAbsent (sym (before (min from (first.need + loss))
            (All-weaker (λ p. first.need ≤ p.need) (λ p. min from (first.need + loss) ≤ p.need + loss) (λ p low. omega arith) points first_least)))
            (absent_before old from (min from (first.need + loss)) (omega arith) are.before);
        after =
            subst AreAbsent (sym (after (max until (last.need + loss + 1))
            (All-weaker (λ p. p.need ≤ last.need) (λ p. p.need + loss < max until (last.need + loss + 1)) (λ p low. omega arith) points last_most)))
            (absent_after old until (max until (last.need + loss + 1)) (omega arith) are.after);
      }

-- one price more that is laid
pub record IsLaidTo (old new : List ℕ) (points : List Point) (loss price i : ℕ) : Type 0 where
  pub wide : length new ≡ length old
  pub least : (b : ℕ) → least_among (points_from 0 new) b
      ≡ lesser (least_among (points_from 0 old) b) (least_among (take i (map (moved_by loss price) points)) b)
  pub before : (n : ℕ) → All (λ p. n ≤ p.need + loss) points → take n new ≡ take n old
  pub after : (n : ℕ) → All (λ p. p.need + loss < n) points → drop n new ≡ drop n old

pub IsLaidTo-start : (prices : List ℕ) (points : List Point) (loss price : ℕ) → IsLaidTo prices prices points loss price 0
IsLaidTo-start prices points loss price = record {
  wide = refl;
  least = λ b.
      sym (ap (lesser (least_among (points_from 0 prices) b)) (least_among-none (map (moved_by loss price) points) b)
      ∙ lesser-none (least_among (points_from 0 prices) b));
  before = λ n low. refl;
  after = λ n low. refl;
}

module _ (old new : List ℕ) (points : List Point) (loss price i : ℕ) (laid : IsLaidTo old new points loss price i) where
  module _ (d : Point) where
    -- where the next point is laid, and the point
    abbrev at : ℕ
    at = (get_or points i d).need + loss

    abbrev point : Point
    point = moved_by loss price (get_or points i d)

    abbrev moved : List Point
    moved = map (moved_by loss price) points

    pub IsLaidTo-next : (cost : ℕ) → i < length points → (get_or points i d).need + loss < length old
        → (get_or points i d).cost + price < ABSENT
        → cost ≡ min (get_or new ((get_or points i d).need + loss) 0) ((get_or points i d).cost + price)
        → IsLaidTo old (set new ((get_or points i d).need + loss) cost) points loss price (i + 1)
    IsLaidTo-next cost within inside low is = record {
      wide = length-set new at cost ∙ laid.wide;
      least = λ b.
          ap (λ c. least_among (points_from 0 (set new at c)) b) is
          ∙ least-lay new point b (let same = laid.wide in omega arith) low
          ∙ ap (λ o. lesser o (price_of point b)) (laid.least b)
          ∙ lesser-assoc (least_among (points_from 0 old) b) (least_among (take i moved) b) (price_of point b)
          ∙ ap (lesser (least_among (points_from 0 old) b))
          (ap (λ (p : Point). lesser (least_among (take i moved) b) (price_of p b)) (sym (get_or-map (moved_by loss price) points i d d within))
          ∙ sym (least_among-more moved i d b (let long = length-map points (moved_by loss price) in omega arith)));
      before = λ n few. take-set-le n new at cost (few i d within) ∙ laid.before n few;
      after = λ n many. drop-set-lt n new at cost (many i d within) ∙ laid.after n many;
    }

  pub IsLaidTo-all : length points ≤ i → (b : ℕ) → least_among (points_from 0 new) b
      ≡ lesser (least_among (points_from 0 old) b) (least_among (map (moved_by loss price) points) b)
  IsLaidTo-all end b =
      laid.least b
      ∙ ap (λ l. lesser (least_among (points_from 0 old) b) (least_among l b))
      (take_all i (map (moved_by loss price) points) (let long = length-map points (moved_by loss price) in omega arith))
