-- Rising breakpoints, and one more in its place.
use Rattle.std.proofs.Common.{◌≡◌, ℕ, zero, suc, ◌+◌, ◌<◌, ◌≤◌, inl, inr, List, [], ◌∷◌, length, Bool, true, false, cond, Some, slice_get, All, refl, sym, ap, subst, arith}
use Rattle.std.specs.Prelude.{◌==◌, nat_lt, nat_le, get_or, insert}
use Rattle.std.specs.List.{AllWithin}
use Rattle.std.specs.List.Sorted.{IsNonDecreasingBy}
use Rattle.std.proofs.Math.Nat.{eq-or-lt_of_le}
use Rattle.std.proofs.lemmas.Bool.{ltb-true, ltb-false, le-leb, lt-leb, eq-eqb, eqb-true}
use Rattle.std.proofs.lemmas.Bool.Decides.{nat_tests}
use Rattle.std.proofs.lemmas.Option.{slice_get-get_or, get_or_from_slice_get, slice_get_within}
use Rattle.std.proofs.lemmas.List.Elements.{All-nil, All-cons, All-head, All-tail, All-weaker}
use Rattle.std.proofs.lemmas.List.Edits.{length-insert}
use Rattle.fitting_tables.specs.declared.limits.TheConstants.{MAX_BREAKPOINTS, MAX_RATIO}
use Rattle.fitting_tables.specs.Breakpoints.{with_breakpoint, IsRising, IsAxis, Parts, has_at}

-- ---- what holds of all breakpoints

-- what holds of all of them holds with one more
pub All-with : (P : ℕ → Type 0) (x : ℕ) (bs : List ℕ) → P x → All P bs → All P (with_breakpoint x bs)
All-with P x [] here all = All-cons P x [] here all
All-with P x (b ∷ bs) here all =
    elim (x == b) as (λ t. All P (cond t (b ∷ bs) (cond (nat_lt x b) (x ∷ b ∷ bs) (b ∷ with_breakpoint x bs)))) [
      | true ↦ all
      | false ↦
          elim (nat_lt x b) as (λ t. All P (cond t (x ∷ b ∷ bs) (b ∷ with_breakpoint x bs))) [
            | true ↦ All-cons P x (b ∷ bs) here all
            | false ↦ All-cons P b (with_breakpoint x bs) (All-head P b bs all) (All-with P x bs here (All-tail P b bs all))
          ]
    ]

-- ---- rising

beyond : (x b : ℕ) → (x == b) ≡ false → nat_lt x b ≡ false → b < x
beyond x b other not_less = grind (arith, nat_tests)

-- with one more they rise
pub IsRising-with : (x : ℕ) (bs : List ℕ) → IsRising bs → IsRising (with_breakpoint x bs)
IsRising-with x [] rising = (All-nil (λ c. x < c), tt)
IsRising-with x (b ∷ bs) rising =
    elim (x == b) as (λ t. (x == b) ≡ t → IsRising (cond t (b ∷ bs) (cond (nat_lt x b) (x ∷ b ∷ bs) (b ∷ with_breakpoint x bs)))) [
      | true ↦ λ same. rising
      | false ↦ λ other.
          elim (nat_lt x b) as (λ t. nat_lt x b ≡ t → IsRising (cond t (x ∷ b ∷ bs) (b ∷ with_breakpoint x bs))) [
            | true ↦ λ less.
                let first : x < b = ltb-true x b less in
                (All-cons (λ c. x < c) b bs first (All-weaker (λ c. b < c) (λ c. x < c) (λ c more. omega arith) bs rising.0), rising)
            | false ↦ λ not_less. (All-with (λ c. b < c) x bs (beyond x b other not_less) rising.0, IsRising-with x bs rising.1)
          ] refl
    ] refl

rises_first : (b : ℕ) (bs : List ℕ) (k c : ℕ) → All (λ d. b < d) bs → slice_get bs k ≡ Some c → b < c
rises_first b bs k c all at =
    let here : get_or bs k c ≡ c = get_or_from_slice_get bs k c c at in
    subst (λ d. b < d) here (all k c (slice_get_within bs k c at))

-- each is below every later one
pub rises_later : (bs : List ℕ) (i k b c : ℕ) → IsRising bs → slice_get bs i ≡ Some b → slice_get bs k ≡ Some c → i < k → b < c
rises_later [] i k b c rising at above less = cc
rises_later (d ∷ bs) zero zero b c rising at above less = absurd (omega arith)
rises_later (d ∷ bs) zero (suc k) b c rising at above less =
    let same : d ≡ b = cc in
    subst (λ e. e < c) same (rises_first d bs k c rising.0 above)
rises_later (d ∷ bs) (suc i) zero b c rising at above less = absurd (omega arith)
rises_later (d ∷ bs) (suc i) (suc k) b c rising at above less = rises_later bs i k b c rising.1 at above (omega arith)

-- so they never fall
pub never_fall : (bs : List ℕ) → IsRising bs → IsNonDecreasingBy (λ b. b) bs
never_fall bs rising i j d order inside =
    elim (eq-or-lt_of_le order) [
      | inl same ↦ let e : get_or bs i d ≡ get_or bs j d = ap (λ (k : ℕ). get_or bs k d) same in omega arith
      | inr less ↦
          let rises = rises_later bs i j (get_or bs i d) (get_or bs j d) rising (slice_get-get_or bs i d (omega arith)) (slice_get-get_or bs j d inside) less in
          omega arith
    ]

-- ---- the search

-- the place where the test of the ratio turns
pub parted : (x : ℕ) (bs : List ℕ) (place : ℕ) → AllWithin (λ b. nat_lt b x ≡ true) bs 0 place → AllWithin (λ b. nat_lt b x ≡ false) bs place (length bs) → Parts x bs place
parted x bs place before behind = record {
  below = λ k b less at.
      let here : get_or bs k b ≡ b = get_or_from_slice_get bs k b b at in
      ltb-true b x (subst (λ (c : ℕ). nat_lt c x ≡ true) here (before k b (omega arith) less));
  above = λ k b more at.
      let here : get_or bs k b ≡ b = get_or_from_slice_get bs k b b at in
      ltb-false b x (subst (λ (c : ℕ). nat_lt c x ≡ false) here (behind k b more (slice_get_within bs k b at)));
}

-- ---- one more in its place

Parts-later : (x b : ℕ) (bs : List ℕ) (place : ℕ) → Parts x (b ∷ bs) (suc place) → Parts x bs place
Parts-later x b bs place parts = record {
  below = λ k c less at. parts.below (suc k) c (omega arith) at;
  above = λ k c more at. parts.above (suc k) c (omega arith) at;
}

differs : (x b : ℕ) → b < x → (x == b) ≡ false
differs x b less = grind (arith, nat_tests)

not_less : (x b : ℕ) → b < x → nat_lt x b ≡ false
not_less x b less = grind (arith, nat_tests)

-- where it stands at the place there is none more
there : (x : ℕ) (bs : List ℕ) (place : ℕ) → Parts x bs place → has_at bs place x ≡ true → with_breakpoint x bs ≡ bs
there x [] place parts at = cc at
there x (b ∷ bs) zero parts at =
    let same : (x == b) ≡ true = eq-eqb x b (sym (eqb-true b x at)) in
    rw same refl
there x (b ∷ bs) (suc place) parts at =
    let less : b < x = parts.below 0 b (omega arith) refl in
    let later : with_breakpoint x bs ≡ bs = there x bs place (Parts-later x b bs place parts) at in
    rw (differs x b less, not_less x b less) (ap (λ cs. b ∷ cs) later)

turned : (x b : ℕ) → x ≤ b → (b == x) ≡ false → ((x == b) ≡ false) × (nat_lt x b ≡ true)
turned x b least other = (grind (arith, nat_tests), grind (arith, nat_tests))

-- and else it stands there with the later ones behind it
put : (x : ℕ) (bs : List ℕ) (place : ℕ) → Parts x bs place → place ≤ length bs → has_at bs place x ≡ false → with_breakpoint x bs ≡ insert bs place x
put x [] zero parts within at = refl
put x [] (suc place) parts within at = absurd (omega arith)
put x (b ∷ bs) zero parts within at =
    let (other, less) = turned x b (parts.above 0 b (omega arith) refl) at in
    rw (other, less) refl
put x (b ∷ bs) (suc place) parts within at =
    let less : b < x = parts.below 0 b (omega arith) refl in
    let later : with_breakpoint x bs ≡ insert bs place x = put x bs place (Parts-later x b bs place parts) (omega arith) at in
    rw (differs x b less, not_less x b less) (ap (λ cs. b ∷ cs) later)

-- both, by what the test of the place answers
pub with_breakpoint-place : (x : ℕ) (bs : List ℕ) (place : ℕ) (t : Bool) → Parts x bs place → place ≤ length bs → t ≡ has_at bs place x
    → with_breakpoint x bs ≡ cond t bs (insert bs place x)
with_breakpoint-place x bs place true parts within at = there x bs place parts (sym at)
with_breakpoint-place x bs place false parts within at = put x bs place parts within (sym at)

-- ---- at most 20

-- with room for one they are not too many
pub fits_in_room : (x : ℕ) (bs : List ℕ) → length bs < MAX_BREAKPOINTS → nat_le (length (with_breakpoint x bs)) MAX_BREAKPOINTS ≡ true
fits_in_room x bs room = le-leb (length (with_breakpoint x bs)) MAX_BREAKPOINTS (omega (arith, most x bs))
  where
    most : (x : ℕ) (bs : List ℕ) → length (with_breakpoint x bs) ≤ length bs + 1
    most x [] = omega arith
    most x (b ∷ bs) =
        elim (x == b) as (λ t. length (cond t (b ∷ bs) (cond (nat_lt x b) (x ∷ b ∷ bs) (b ∷ with_breakpoint x bs))) ≤ length (b ∷ bs) + 1) [
          | true ↦ omega arith
          | false ↦
              elim (nat_lt x b) as (λ t. length (cond t (x ∷ b ∷ bs) (b ∷ with_breakpoint x bs)) ≤ length (b ∷ bs) + 1)
              [ true ↦ omega arith | false ↦ omega (arith, most x bs) ]
        ]

-- without room they are not where the one is there already
pub fits_without_room : (x : ℕ) (bs : List ℕ) (place : ℕ) (t : Bool) → Parts x bs place → place ≤ length bs → MAX_BREAKPOINTS ≤ length bs → length bs ≤ MAX_BREAKPOINTS
    → t ≡ has_at bs place x → t ≡ nat_le (length (with_breakpoint x bs)) MAX_BREAKPOINTS
fits_without_room x bs place true parts within full few at =
    let same : with_breakpoint x bs ≡ bs = with_breakpoint-place x bs place true parts within at in
    sym (le-leb (length (with_breakpoint x bs)) MAX_BREAKPOINTS (omega (arith, ap length same)))
fits_without_room x bs place false parts within full few at =
    let put : with_breakpoint x bs ≡ insert bs place x = with_breakpoint-place x bs place false parts within at in
    sym (lt-leb (length (with_breakpoint x bs)) MAX_BREAKPOINTS (omega (arith, ap length put, length-insert bs place x within)))

-- ---- an axis

pub IsAxis-with : (x : ℕ) (bs : List ℕ) → IsAxis bs → x ≤ MAX_RATIO → length (with_breakpoint x bs) ≤ MAX_BREAKPOINTS → IsAxis (with_breakpoint x bs)
IsAxis-with x bs is bound few = record {
  few = few;
  bounds = All-with (λ b. b ≤ MAX_RATIO) x bs bound is.bounds;
  rising = IsRising-with x bs is.rising;
}
