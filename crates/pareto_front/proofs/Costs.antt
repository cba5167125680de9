-- How the sum and the lesser of two costs move with them. No cost counts as above every cost.
use Rattle.std.proofs.Common.{◌≡◌, ℕ, ◌+◌, ◌<◌, ◌≤◌, Option, Some, None, refl, ap, arith, inl, inr, ◌⊎◌, min}
use Rattle.std.specs.Prelude.{IsSomeAnd}
use Rattle.std.specs.Option.{ForSome}
use Rattle.duct_units.specs.Prices.{lesser, both_of}
use Rattle.pareto_front.specs.Front.{CostsNoMore}

-- the new cost is below the old one, if there is an old one
abbrev pub Cheaper : Option ℕ → Option ℕ → Type 0
Cheaper new old = ForSome old (λ was. IsSomeAnd new (λ is. is < was))

-- two costs of which neither is more expensive are equal
pub same_cost : (x y : Option ℕ) → CostsNoMore x y → CostsNoMore y x → x ≡ y
same_cost None None x_less y_less = refl
same_cost None (Some v) x_less y_less = absurd (x_less v refl)
same_cost (Some u) None x_less y_less = absurd (y_less u refl)
same_cost (Some u) (Some v) x_less y_less =
    let low : u ≤ v = x_less v refl in
    let high : v ≤ u = y_less u refl in
    let same : u ≡ v = omega arith in
    ap Some same

-- a sum falls where one part does and the other doesn't rise
pub sum_falls : (x y u v : Option ℕ) (c d : ℕ) → CostsNoMore x u → CostsNoMore y v → Cheaper x u ⊎ Cheaper y v
    → both_of x y ≡ Some c → both_of u v ≡ Some d → c < d
sum_falls x y None v c d x_less y_less one new old = absurd (cc)
sum_falls x y (Some u) None c d x_less y_less one new old = absurd (cc)
sum_falls None y (Some u) (Some v) c d x_less y_less one new old = absurd (cc)
sum_falls (Some x) None (Some u) (Some v) c d x_less y_less one new old = absurd (cc)
sum_falls (Some x) (Some y) (Some u) (Some v) c d x_less y_less one new old =
    let new_is : x + y ≡ c = cc in
    let old_is : u + v ≡ d = cc in
    let x_at_most : x ≤ u = x_less u refl in
    let y_at_most : y ≤ v = y_less v refl in
    elim one [
      | inl of_x ↦ (let less : x < u = of_x u refl in omega arith)
      | inr of_y ↦ (let less : y < v = of_y v refl in omega arith)
    ]

-- where there is no sum there was none
pub sum_was_none : (x y u v : Option ℕ) → CostsNoMore x u → CostsNoMore y v → both_of x y ≡ None → both_of u v ≡ None
sum_was_none x y None v x_less y_less none = refl
sum_was_none x y (Some u) None x_less y_less none = refl
sum_was_none None y (Some u) (Some v) x_less y_less none = absurd (x_less u refl)
sum_was_none (Some x) None (Some u) (Some v) x_less y_less none = absurd (y_less v refl)
sum_was_none (Some x) (Some y) (Some u) (Some v) x_less y_less none = absurd (cc)

-- the lesser is no more expensive than either
pub lesser-left : (x y : Option ℕ) → CostsNoMore (lesser x y) x
lesser-left None y w is = absurd (cc)
lesser-left (Some x) None w is = let same : x ≡ w = cc in omega arith
lesser-left (Some x) (Some y) w is = let same : x ≡ w = cc in omega arith

pub lesser-right : (x y : Option ℕ) → CostsNoMore (lesser x y) y
lesser-right None y w is = over y is where
  over : (y : Option ℕ) → y ≡ Some w → IsSomeAnd y (λ c. c ≤ w)
  over None is = absurd (cc)
  over (Some c) is = let same : c ≡ w = cc in omega arith
lesser-right (Some x) None w is = absurd (cc)
lesser-right (Some x) (Some y) w is = let same : y ≡ w = cc in omega arith

pub costs_no_more_on : (x y z : Option ℕ) → CostsNoMore x y → CostsNoMore y z → CostsNoMore x z
costs_no_more_on x y z x_less y_less w is = over x y x_less (y_less w is) where
  still : (x : Option ℕ) (v : ℕ) → IsSomeAnd x (λ c. c ≤ v) → v ≤ w → IsSomeAnd x (λ c. c ≤ w)
  still None v low bound = low
  still (Some c) v low bound = omega arith

  over : (x y : Option ℕ) → CostsNoMore x y → IsSomeAnd y (λ c. c ≤ w) → IsSomeAnd x (λ c. c ≤ w)
  over x None x_less low = absurd low
  over x (Some v) x_less low = still x v (x_less v refl) low

-- what is no more expensive than each of two costs is no more expensive than their lesser
costs_no_more-lesser : (o u v : Option ℕ) → CostsNoMore o u → CostsNoMore o v → CostsNoMore o (lesser u v)
costs_no_more-lesser o None v of_u of_v w is = of_v w is
costs_no_more-lesser o (Some u) None of_u of_v w is = of_u w is
costs_no_more-lesser o (Some u) (Some v) of_u of_v w is = over o (of_u u refl) (of_v v refl) where
  over : (o : Option ℕ) → IsSomeAnd o (λ c. c ≤ u) → IsSomeAnd o (λ c. c ≤ v) → IsSomeAnd o (λ c. c ≤ w)
  over None low high = low
  over (Some c) low high = let least : min u v ≡ w = cc in omega arith

-- the lesser never rises
pub lesser_falls : (x y u v : Option ℕ) → CostsNoMore x u → CostsNoMore y v → CostsNoMore (lesser x y) (lesser u v)
lesser_falls x y u v x_less y_less =
    costs_no_more-lesser (lesser x y) u v
    (costs_no_more_on (lesser x y) x u (lesser-left x y) x_less) (costs_no_more_on (lesser x y) y v (lesser-right x y) y_less)
