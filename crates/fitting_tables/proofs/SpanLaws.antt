-- The breakpoints on either side of a ratio.
use Rattle.std.proofs.Common.{◌≡◌, ◌≢◌, inl, inr, ℕ, zero, suc, ◌-◌, ◌<◌, ◌≤◌, List, [], ◌∷◌, length, Bool, true, false, cond, Some, slice_get, refl, sym, ap, ◌∙◌, subst, arith}
use Rattle.std.specs.Prelude.{nat_le, get_or, min, max, filter}
use Rattle.std.proofs.lemmas.Bool.{le-leb, leb-true, cases_lt}
use Rattle.std.proofs.lemmas.Option.{slice_get-get_or, slice_get_within}
use Rattle.std.proofs.Math.Nat.{eq-or-lt_of_le}
use Rattle.fitting_tables.specs.Breakpoints.{IsRising, Parts}
use Rattle.fitting_tables.specs.Span.{least, greatest, clamped, lower_of, upper_of, span_between, span_of}
use Rattle.fitting_tables.proofs.AxisLaws.{rises_later}

-- it stands somewhere among them
abbrev pub Among : List ℕ → ℕ → Type 0
Among bs b = (k : ℕ) × (slice_get bs k ≡ Some b)

-- ---- the greatest and the least

greatest-above : (bs : List ℕ) (b k : ℕ) → slice_get bs k ≡ Some b → b ≤ greatest bs
greatest-above [] b k at = cc at
greatest-above (c ∷ bs) b zero at = let same : c ≡ b = cc in omega arith
greatest-above (c ∷ bs) b (suc k) at = omega (arith, greatest-above bs b k at)

greatest-most : (bs : List ℕ) (m : ℕ) → ((b k : ℕ) → slice_get bs k ≡ Some b → b ≤ m) → greatest bs ≤ m
greatest-most [] m all = omega arith
greatest-most (c ∷ bs) m all = omega (arith, all c 0 refl, greatest-most bs m (λ b k at. all b (suc k) at))

-- the greatest is the one that none is above
pub greatest-is : (bs : List ℕ) (b : ℕ) → Among bs b → ((c k : ℕ) → slice_get bs k ≡ Some c → c ≤ b) → greatest bs ≡ b
greatest-is bs b (k, at) all = omega (arith, greatest-above bs b k at, greatest-most bs b all)

least-below : (bs : List ℕ) (b k : ℕ) → slice_get bs k ≡ Some b → least bs ≤ b
least-below [] b k at = cc at
least-below (c ∷ []) b zero at = let same : c ≡ b = cc in omega arith
least-below (c ∷ []) b (suc k) at = cc at
least-below (c ∷ d ∷ bs) b zero at = let same : c ≡ b = cc in omega arith
least-below (c ∷ d ∷ bs) b (suc k) at = omega (arith, least-below (d ∷ bs) b k at)

least-most : (bs : List ℕ) (m : ℕ) → 0 < length bs → ((b k : ℕ) → slice_get bs k ≡ Some b → m ≤ b) → m ≤ least bs
least-most [] m some all = absurd (omega arith)
least-most (c ∷ []) m some all = all c 0 refl
least-most (c ∷ d ∷ bs) m some all = omega (arith, all c 0 refl, least-most (d ∷ bs) m (omega arith) (λ b k at. all b (suc k) at))

-- the least is the one that none is below
pub least-is : (bs : List ℕ) (b : ℕ) → Among bs b → ((c k : ℕ) → slice_get bs k ≡ Some c → b ≤ c) → least bs ≡ b
least-is bs b (k, at) all =
    let inside = slice_get_within bs k b at in
    omega (arith, least-below bs b k at, least-most bs b (omega arith) all)

-- ---- those that pass a test

among-filter : (p : ℕ → Bool) (bs : List ℕ) (b k : ℕ) → slice_get bs k ≡ Some b → p b ≡ true → Among (filter p bs) b
among-filter p [] b k at passes = cc at
among-filter p (c ∷ bs) b zero at passes =
    let same : b ≡ c = cc in
    let here : p c ≡ true = subst (λ d. p d ≡ true) same passes in
    rw here (0, ap (λ d. Some d) (sym same))
among-filter p (c ∷ bs) b (suc k) at passes =
    let (j, later) = among-filter p bs b k at passes in
    elim (p c) as (λ t. Among (cond t (c ∷ filter p bs) (filter p bs)) b) [ true ↦ (suc j, later) | false ↦ (j, later) ]

filter-among : (p : ℕ → Bool) (bs : List ℕ) (b k : ℕ) → slice_get (filter p bs) k ≡ Some b → Among bs b × (p b ≡ true)
filter-among p [] b k at = cc at
filter-among p (c ∷ bs) b k at =
    elim (p c) as (λ t. p c ≡ t → slice_get (cond t (c ∷ filter p bs) (filter p bs)) k ≡ Some b → Among (c ∷ bs) b × (p b ≡ true)) [
      | true ↦ λ passes e. here k passes e (λ i e2. filter-among p bs b i e2)
      | false ↦ λ fails e. let ((j, later), passes) = filter-among p bs b k e in ((suc j, later), passes)
    ] refl at
  where
    here : (k : ℕ) → p c ≡ true → slice_get (c ∷ filter p bs) k ≡ Some b → ((i : ℕ) → slice_get (filter p bs) i ≡ Some b → Among bs b × (p b ≡ true)) → Among (c ∷ bs) b × (p b ≡ true)
    here zero passes e more = let same : c ≡ b = cc in ((0, e), subst (λ d. p d ≡ true) same passes)
    here (suc k) passes e more = let ((j, later), ok) = more k e in ((suc j, later), ok)

-- the greatest that isn't above x
lower-is : (x : ℕ) (bs : List ℕ) (b k : ℕ) → slice_get bs k ≡ Some b → b ≤ x → ((c j : ℕ) → slice_get bs j ≡ Some c → c ≤ x → c ≤ b) → lower_of x bs ≡ b
lower-is x bs b k at below all =
    greatest-is (filter (λ c. nat_le c x) bs) b (among-filter (λ c. nat_le c x) bs b k at (le-leb b x below))
    (λ c j e. let ((i, there), passes) = filter-among (λ d. nat_le d x) bs c j e in all c i there (leb-true c x passes))

-- the least that isn't below x
upper-is : (x : ℕ) (bs : List ℕ) (b k : ℕ) → slice_get bs k ≡ Some b → x ≤ b → ((c j : ℕ) → slice_get bs j ≡ Some c → x ≤ c → b ≤ c) → upper_of x bs ≡ b
upper-is x bs b k at above all =
    least-is (filter (λ c. nat_le x c) bs) b (among-filter (λ c. nat_le x c) bs b k at (le-leb x b above))
    (λ c j e. let ((i, there), passes) = filter-among (λ d. nat_le x d) bs c j e in all c i there (leb-true x c passes))

-- ---- rising breakpoints

-- a later one is not below
not_below : (bs : List ℕ) (i k b c : ℕ) → IsRising bs → slice_get bs i ≡ Some b → slice_get bs k ≡ Some c → i ≤ k → b ≤ c
not_below bs i k b c rising at above order =
    elim (eq-or-lt_of_le order) [
      | inl same ↦ let e : Some b ≡ Some c = sym at ∙ ap (slice_get bs) same ∙ above in let one : b ≡ c = cc in omega arith
      | inr less ↦ omega (arith, rises_later bs i k b c rising at above less)
    ]

first_least : (bs : List ℕ) → IsRising bs → 0 < length bs → least bs ≡ get_or bs 0 0
first_least bs rising some =
    let at = slice_get-get_or bs 0 0 some in
    least-is bs (get_or bs 0 0) (0, at) (λ c k there. not_below bs 0 k (get_or bs 0 0) c rising at there (omega arith))

last_greatest : (bs : List ℕ) → IsRising bs → 0 < length bs → greatest bs ≡ get_or bs (length bs - 1) 0
last_greatest bs rising some =
    let at = slice_get-get_or bs (length bs - 1) 0 (omega arith) in
    greatest-is bs (get_or bs (length bs - 1) 0) (length bs - 1, at)
    (λ c k there. let inside = slice_get_within bs k c there in not_below bs k (length bs - 1) c (get_or bs (length bs - 1) 0) rising there at (omega arith))

-- the ratio is taken between the first and the last one
pub clamped_is : (bs : List ℕ) (ratio : ℕ) → IsRising bs → 0 < length bs → max (min ratio (get_or bs (length bs - 1) 0)) (get_or bs 0 0) ≡ clamped ratio bs
clamped_is bs ratio rising some = rw (first_least bs rising some, last_greatest bs rising some) refl

-- it lies between the least and the greatest
record IsInside (x : ℕ) (bs : List ℕ) : Type 0 where
  low : get_or bs 0 0 ≤ x
  high : x ≤ get_or bs (length bs - 1) 0

clamped_inside : (bs : List ℕ) (ratio : ℕ) → IsRising bs → 0 < length bs → IsInside (clamped ratio bs) bs
clamped_inside bs ratio rising some =
    let first = slice_get-get_or bs 0 0 some in
    let last = slice_get-get_or bs (length bs - 1) 0 (omega arith) in
    let order : get_or bs 0 0 ≤ get_or bs (length bs - 1) 0 = not_below bs 0 (length bs - 1) (get_or bs 0 0) (get_or bs (length bs - 1) 0) rising first last (omega arith) in
    let is = clamped_is bs ratio rising some in
    record { low = omega arith; high = omega arith }

-- a search found the place of the ratio
pub record IsFound (bs : List ℕ) (ratio x place : ℕ) : Type 0 where
  pub rising : IsRising bs
  pub some : 0 < length bs
  pub is : x ≡ clamped ratio bs
  pub parts : Parts x bs place
  pub within : place ≤ length bs

-- it is one of theirs
pub place_inside : (bs : List ℕ) (ratio x place : ℕ) → IsFound bs ratio x place → place < length bs
place_inside bs ratio x place found =
    elim (eq-or-lt_of_le found.within) [
      | inl end ↦
          let at = slice_get-get_or bs (length bs - 1) 0 (omega (arith, found.some)) in
          absurd (omega (arith, found.is, (clamped_inside bs ratio found.rising found.some).high, found.parts.below (length bs - 1) (get_or bs (length bs - 1) 0) (omega (arith, found.some)) at))
      | inr less ↦ less
    ]

-- and past the first where the one there is another
pub past_first : (bs : List ℕ) (ratio x place : ℕ) → IsFound bs ratio x place → get_or bs place 0 ≢ x → 1 ≤ place
past_first bs ratio x zero found other =
    let most = found.parts.above 0 (get_or bs 0 0) (omega arith) (slice_get-get_or bs 0 0 found.some) in
    absurd (other (omega (arith, found.is, (clamped_inside bs ratio found.rising found.some).low)))
past_first bs ratio x (suc place) found other = omega arith

-- and then the one before it is below
pub under_it : (bs : List ℕ) (ratio x place : ℕ) → IsFound bs ratio x place → get_or bs place 0 ≢ x → get_or bs (place - 1) 0 < x
under_it bs ratio x place found other =
    let past = past_first bs ratio x place found other in
    let inside = place_inside bs ratio x place found in
    found.parts.below (place - 1) (get_or bs (place - 1) 0) (omega arith) (slice_get-get_or bs (place - 1) 0 (omega arith))

-- and it is above
pub over_it : (bs : List ℕ) (ratio x place : ℕ) → IsFound bs ratio x place → get_or bs place 0 ≢ x → x < get_or bs place 0
over_it bs ratio x place found other =
    let most = found.parts.above place (get_or bs place 0) (omega arith) (slice_get-get_or bs place 0 (place_inside bs ratio x place found)) in
    omega arith

-- on a breakpoint
pub on_one : (bs : List ℕ) (ratio x place : ℕ) → IsFound bs ratio x place → get_or bs place 0 ≡ x → span_between x x x ≡ span_of ratio bs
on_one bs ratio x place found same =
    let at : slice_get bs place ≡ Some x = slice_get-get_or bs place 0 (place_inside bs ratio x place found) ∙ ap (λ b. Some b) same in
    let lower = lower-is x bs x place at (omega arith) (λ c j there below. below) in
    let upper = upper-is x bs x place at (omega arith) (λ c j there above. above) in
    ap (λ b. span_between x b x) (sym lower) ∙ ap (λ b. span_between x (lower_of x bs) b) (sym upper) ∙ ap (λ y. span_between y (lower_of y bs) (upper_of y bs)) found.is

-- the one before the place is the greatest that isn't above, where the one at the place is
not_past : (bs : List ℕ) (x place b c d j : ℕ) → IsRising bs → Parts x bs place → 1 ≤ place → slice_get bs (place - 1) ≡ Some b → slice_get bs place ≡ Some c → x < c
    → slice_get bs j ≡ Some d → d ≤ x → d ≤ b
not_past bs x place b c d j rising parts past below above over there most =
    elim (cases_lt j place) [
      | inl before ↦ not_below bs j (place - 1) d b rising there below (omega arith)
      | inr behind ↦ absurd (omega (arith, not_below bs place j c d rising above there behind))
    ]

-- and that one is the least that isn't below
not_before : (bs : List ℕ) (x place c d j : ℕ) → IsRising bs → Parts x bs place → slice_get bs place ≡ Some c → slice_get bs j ≡ Some d → x ≤ d → c ≤ d
not_before bs x place c d j rising parts above there least =
    elim (cases_lt j place) [
      | inl before ↦ absurd (omega (arith, parts.below j d before there))
      | inr behind ↦ not_below bs place j c d rising above there behind
    ]

-- between two
pub between_two : (bs : List ℕ) (ratio x place : ℕ) → IsFound bs ratio x place → get_or bs place 0 ≢ x
    → span_between x (get_or bs (place - 1) 0) (get_or bs place 0) ≡ span_of ratio bs
between_two bs ratio x place found other =
    let past = past_first bs ratio x place found other in
    let inside = place_inside bs ratio x place found in
    let b = get_or bs (place - 1) 0 in
    let c = get_or bs place 0 in
    let below = slice_get-get_or bs (place - 1) 0 (omega arith) in
    let above = slice_get-get_or bs place 0 inside in
    let over = over_it bs ratio x place found other in
    let under = under_it bs ratio x place found other in
    let lower = lower-is x bs b (place - 1) below (omega (arith, under)) (λ d j there most. not_past bs x place b c d j found.rising found.parts past below above over there most) in
    let upper = upper-is x bs c place above (omega (arith, over)) (λ d j there least. not_before bs x place c d j found.rising found.parts above there least) in
    ap (λ d. span_between x d c) (sym lower) ∙ ap (λ d. span_between x (lower_of x bs) d) (sym upper) ∙ ap (λ y. span_between y (lower_of y bs) (upper_of y bs)) found.is

-- ---- on a breakpoint

-- it lies between the least and the greatest
pub clamped-on : (bs : List ℕ) (b k : ℕ) → slice_get bs k ≡ Some b → clamped b bs ≡ b
clamped-on bs b k at = omega (arith, greatest-above bs b k at, least-below bs b k at)

-- and is the one on either side of it
pub lower-on : (bs : List ℕ) (b k : ℕ) → slice_get bs k ≡ Some b → lower_of b bs ≡ b
lower-on bs b k at = lower-is b bs b k at (omega arith) (λ c j there below. below)

pub upper-on : (bs : List ℕ) (b k : ℕ) → slice_get bs k ≡ Some b → upper_of b bs ≡ b
upper-on bs b k at = upper-is b bs b k at (omega arith) (λ c j there above. above)
