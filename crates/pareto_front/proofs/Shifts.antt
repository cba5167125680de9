-- A front whose points all need a loss more and cost a price more.
use Rattle.std.proofs.Common.{◌≡◌, ℕ, ◌+◌, ◌-◌, ◌<◌, ◌≤◌, List, [], ◌∷◌, ◌++◌, map, take, Option, Some, None, refl, ap, sym, ◌∙◌, arith, inl, inr, nat_le, Bool}
use Rattle.std.specs.Prelude.{if◌then◌else◌, All}
use Rattle.std.specs.Option.{option_or, option_map}
use Rattle.std.proofs.lemmas.Bool.Decides.{leb_tells}
use Rattle.std.proofs.lemmas.List.Elements.{All-map, All-weaker, All-append, All-take}
use Rattle.pareto_front.specs.declared.point.Point.{Point}
use Rattle.pareto_front.specs.Front.{IsBefore, IsFront, cheapest, moved_by, plus, shifted, price_of, NeedsWithin}
use Rattle.pareto_front.proofs.Prices.{price_of-within, price_of-above}

option_map-or : (f : ℕ → ℕ) (x y : Option ℕ) → option_map f (option_or x y) ≡ option_or (option_map f x) (option_map f y)
option_map-or f None y = refl
option_map-or f (Some c) y = refl

module _ (loss price : ℕ) where
  IsBefore-moved : (p : Point) (ps : List Point) → IsBefore p ps → IsBefore (moved_by loss price p) (map (moved_by loss price) ps)
  IsBefore-moved p [] before = tt
  IsBefore-moved p (q ∷ ps) before = (let more = before.0 in omega arith, let less = before.1 in omega arith)

  -- a front whose points move together is one
  pub IsFront-moved : (ps : List Point) → IsFront ps → IsFront (map (moved_by loss price) ps)
  IsFront-moved [] front = tt
  IsFront-moved (p ∷ ps) front = (IsBefore-moved p ps front.0, IsFront-moved ps front.1)

  price_of-moved : (p : Point) (b : ℕ) → loss ≤ b → price_of (moved_by loss price p) b ≡ plus price (price_of p (b - loss))
  price_of-moved p b enough = elim (leb_tells p.need (b - loss)) [
    | inl within ↦
        (let is = within.1 in
        price_of-within (moved_by loss price p) b (omega arith) ∙ ap (plus price) (sym (price_of-within p (b - loss) is)))
    | inr above ↦
        (let is = above.1 in
        price_of-above (moved_by loss price p) b (omega arith) ∙ ap (plus price) (sym (price_of-above p (b - loss) is)))
  ]

  cheapest-moved_from : (ps : List Point) (b : ℕ) → loss ≤ b → cheapest (map (moved_by loss price) ps) b ≡ plus price (cheapest ps (b - loss))
  cheapest-moved_from [] b enough = refl
  cheapest-moved_from (p ∷ ps) b enough =
      ap (λ o. option_or o (price_of (moved_by loss price p) b)) (cheapest-moved_from ps b enough)
      ∙ ap (option_or (plus price (cheapest ps (b - loss)))) (price_of-moved p b enough)
      ∙ sym (option_map-or (λ c. c + price) (cheapest ps (b - loss)) (price_of p (b - loss)))

  cheapest-moved_below : (ps : List Point) (b : ℕ) → b < loss → cheapest (map (moved_by loss price) ps) b ≡ None
  cheapest-moved_below [] b below = refl
  cheapest-moved_below (p ∷ ps) b below =
      ap (λ o. option_or o (price_of (moved_by loss price p) b)) (cheapest-moved_below ps b below)
      ∙ price_of-above (moved_by loss price p) b (omega arith)

  -- its cheapest is the shifted one
  pub cheapest-moved : (ps : List Point) (b : ℕ) → cheapest (map (moved_by loss price) ps) b ≡ shifted ps loss price b
  cheapest-moved ps b =
      let chosen = λ (enough : Bool). if enough then plus price (cheapest ps (b - loss)) else None in
      elim (leb_tells loss b) [
        | inl enough ↦ cheapest-moved_from ps b enough.1 ∙ sym (ap chosen enough.0)
        | inr below ↦ cheapest-moved_below ps b below.1 ∙ sym (ap chosen below.0)
      ]

  -- where a part of a front has its prices up to the room, the moved part has the shifted ones up to the cap
  pub cheapest-moved_part : (ps part : List Point) (cap room : ℕ) → loss ≤ cap → room ≡ cap - loss
      → ((b : ℕ) → b ≤ room → cheapest part b ≡ cheapest ps b)
      → (b : ℕ) → b ≤ cap → cheapest (map (moved_by loss price) part) b ≡ shifted ps loss price b
  cheapest-moved_part ps part cap room enough is prices b within =
      cheapest-moved part b ∙ ap (λ o. if nat_le loss b then plus price o else None) (prices (b - loss) (omega arith))

  -- and no need above the cap
  pub moved_within : (part : List Point) (cap room : ℕ) → loss ≤ cap → room ≡ cap - loss
      → NeedsWithin room part → NeedsWithin cap (map (moved_by loss price) part)
  moved_within part cap room enough is within =
      All-map (λ p. p.need ≤ cap) (moved_by loss price) part
      (All-weaker (λ p. p.need ≤ room) (λ p. p.need + loss ≤ cap) (λ p h. omega arith) part within)

  -- some of the points moved, after others that are within the cap
  pub moved_after : (cap i : ℕ) (before points : List Point) → NeedsWithin cap before → All (λ p. p.need + loss ≤ cap) points
      → NeedsWithin cap (before ++ map (moved_by loss price) (take i points))
  moved_after cap i before points low within =
      All-append (λ p. p.need ≤ cap) before (map (moved_by loss price) (take i points)) low
      (All-map (λ p. p.need ≤ cap) (moved_by loss price) (take i points) (All-take (λ p. p.need + loss ≤ cap) i points within))
