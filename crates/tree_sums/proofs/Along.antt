-- Sums along routes, one step at a time; a route to a place goes through one section next to it.
use Rattle.std.proofs.Common.{◌≡◌, ℕ, ◌+◌, true, false, refl, arith, ap, sym, ◌∙◌, cond, inl, inr}
use Rattle.std.proofs.lemmas.Bool.{or_cases, false_from_ne_true}
use Rattle.duct_units.specs.declared.side.Side.{Side}
use Rattle.tree_sums.specs.Route.{Place, Fan, At, same, Falls, goes_by}
use Rattle.tree_sums.specs.Sums.{along, weight_at}
use Rattle.tree_sums.proofs.Climb.{climb, route-fan, route-at}
use Rattle.tree_sums.proofs.Places.{same-refl, same-true, at-number}
use Rattle.tree_sums.proofs.Split.{goes_by-fan, goes_by-at, goes_by-le}

module _ (next : ℕ → Place) (falls : Falls next) (w : ℕ → ℕ) where
  pub along-fan : (o : Place) (t : ℕ) (x : Side) → next t ≡ Fan x → along next w o t ≡ w t
  along-fan o t x is =
      rw (route-fan next falls t x is)
      (elim (same o (At t)) as (λ a. w t + cond a 0 (0 + cond (same o (Fan x)) 0 0) ≡ w t) [
        | true ↦ omega arith
        | false ↦
            elim (same o (Fan x)) as (λ b. w t + (0 + cond b 0 0) ≡ w t) [ true ↦ omega arith | false ↦ omega arith ]
      ])

  along-at : (o : Place) (t p : ℕ) → next t ≡ At p → along next w o t ≡ w t + cond (same o (At t)) 0 (along next w o p)
  along-at o t p is = rw (route-at next falls t p is) refl

  pub along-self : (t : ℕ) → along next w (At t) t ≡ w t
  along-self t =
      elim (next t) as (λ o. next t ≡ o → along next w (At t) t ≡ w t) [
        | Fan x ↦ λ is. along-fan (At t) t x is
        | At p ↦ λ is.
            along-at (At t) t p is
            ∙ ap (λ b. w t + cond b 0 (along next w (At t) p)) (same-refl (At t))
            ∙ omega arith
      ] refl

  pub along-on : (o : Place) (t p : ℕ) → next t ≡ At p → (same o (At t) ≡ true → ⊥)
      → along next w o t ≡ w t + along next w o p
  along-on o t p is other =
      along-at o t p is ∙ ap (λ b. w t + cond b 0 (along next w o p)) (false_from_ne_true (same o (At t)) other)

  -- as far as o a route loses what it loses as far as the section c next to o, and the weight of o
  pub along-split : (o : Place) (c : ℕ) → next c ≡ o → (t : ℕ) → goes_by next (At c) t ≡ true
      → along next w o t ≡ along next w (At c) t + weight_at w o
  along-split o c beside =
      climb next falls
      (λ t. goes_by next (At c) t ≡ true → along next w o t ≡ along next w (At c) t + weight_at w o)
      (λ t y is by. elim (or_cases (same (At c) (At t)) false (sym (goes_by-fan next falls t y is (At c)) ∙ by)) [
        | inl here ↦
            let equal : c ≡ t = at-number c t (same-true (At c) (At t) here) in
            let end : o ≡ Fan y = sym beside ∙ ap next equal ∙ is in
            let whole = along-fan o t y is in
            let part = along-fan (At c) t y is in
            let nothing : weight_at w o ≡ 0 = ap (weight_at w) end in
            omega arith
        | inr later ↦ cc
      ])
      (λ t p is rest by. elim (or_cases (same (At c) (At t)) (goes_by next (At c) p)
      (sym (goes_by-at next falls t p is (At c)) ∙ by)) [
        | inl here ↦
            let equal : c ≡ t = at-number c t (same-true (At c) (At t) here) in
            let end : o ≡ At p = sym beside ∙ ap next equal ∙ is in
            let less = falls t p is in
            let step : along next w (At p) t ≡ w t + along next w (At p) p =
            along-on (At p) t p is (λ r. let m = at-number p t (same-true (At p) (At t) r) in omega arith) in
            let last : along next w (At p) p ≡ w p = along-self p in
            let part : along next w (At c) t ≡ w t = ap (λ u. along next w (At u) t) equal ∙ along-self t in
            let whole : along next w o t ≡ along next w (At p) t = ap (λ u. along next w u t) end in
            let weight : weight_at w o ≡ w p = ap (weight_at w) end in
            omega arith
        | inr later ↦
            let less = falls t p is in
            let below = goes_by-le next falls c p later in
            let whole : along next w o t ≡ w t + along next w o p =
            along-on o t p is (λ r. let k = falls c t (beside ∙ same-true o (At t) r) in omega arith) in
            let part : along next w (At c) t ≡ w t + along next w (At c) p =
            along-on (At c) t p is (λ r. let k = at-number c t (same-true (At c) (At t) r) in omega arith) in
            let both = rest later in
            omega arith
      ])
