-- What lies beyond a section: the section, or beyond one of its children and no other.
use Rattle.std.proofs.Common.{◌≡◌, ℕ, ◌+◌, ◌<◌, true, false, refl, arith, ap, sym, ◌∙◌, ◌⊎◌, inl, inr, subst}
use Rattle.std.proofs.lemmas.Bool.{or_cases, or_left, or_right}
use Rattle.duct_units.specs.declared.side.Side.{Side}
use Rattle.tree_sums.specs.Route.{Place, Fan, At, same, Falls, goes_by}
use Rattle.tree_sums.specs.Sums.{along, beyond}
use Rattle.tree_sums.proofs.Climb.{climb}
use Rattle.tree_sums.proofs.Places.{same-refl, same-true, at-number, gated-cong}
use Rattle.tree_sums.proofs.Split.{goes_by-fan, goes_by-at, goes_by-le}
use Rattle.tree_sums.proofs.Along.{along-fan, along-self, along-on}
use Rattle.tree_sums.proofs.Totals.{total-cong}

module _ (next : ℕ → Place) (falls : Falls next) where
  pub goes_by-more : (o : Place) (t p : ℕ) → next t ≡ At p → goes_by next o p ≡ true → goes_by next o t ≡ true
  goes_by-more o t p is by = goes_by-at next falls t p is o ∙ or_right (same o (At t)) (goes_by next o p) by

  pub goes_by-self : (t : ℕ) → goes_by next (At t) t ≡ true
  goes_by-self t =
      elim (next t) as (λ o. next t ≡ o → goes_by next (At t) t ≡ true) [
        | Fan x ↦ λ is. goes_by-fan next falls t x is (At t) ∙ or_left (same (At t) (At t)) false (same-refl (At t))
        | At p ↦ λ is.
            goes_by-at next falls t p is (At t)
            ∙ or_left (same (At t) (At t)) (goes_by next (At t) p) (same-refl (At t))
      ] refl

  -- a route that goes by c begins with c, or goes by c from the next section on
  pub first-step : (c t : ℕ) → goes_by next (At c) t ≡ true
      → (c ≡ t) ⊎ ((p : ℕ) × (next t ≡ At p) × (goes_by next (At c) p ≡ true))
  first-step c t by =
      elim (next t) as (λ o. next t ≡ o → (c ≡ t) ⊎ ((p : ℕ) × (next t ≡ At p) × (goes_by next (At c) p ≡ true))) [
        | Fan x ↦ λ is. elim (or_cases (same (At c) (At t)) false (sym (goes_by-fan next falls t x is (At c)) ∙ by)) [
          | inl here ↦ inl (at-number c t (same-true (At c) (At t) here))
          | inr later ↦ absurd (cc later)
        ]
        | At p ↦ λ is. elim (or_cases (same (At c) (At t)) (goes_by next (At c) p)
            (sym (goes_by-at next falls t p is (At c)) ∙ by)) [
              | inl here ↦ inl (at-number c t (same-true (At c) (At t) here))
              | inr later ↦ inr (p, is, later)
            ]
      ] refl

  -- the route of a section next to o goes by o
  goes_by-next : (o : Place) (c : ℕ) → next c ≡ o → goes_by next o c ≡ true
  goes_by-next (Fan x) c is =
      goes_by-fan next falls c x is (Fan x)
      ∙ or_right (same (Fan x) (At c)) (same (Fan x) (Fan x)) (same-refl (Fan x))
  goes_by-next (At s) c is = goes_by-more (At s) c s is (goes_by-self s)

  -- and so do the routes that go by such a section
  pub goes_by-from : (o : Place) (c : ℕ) → next c ≡ o
      → (t : ℕ) → goes_by next (At c) t ≡ true → goes_by next o t ≡ true
  goes_by-from o c beside =
      climb next falls (λ t. goes_by next (At c) t ≡ true → goes_by next o t ≡ true)
      (λ t x is by. elim (first-step c t by) [
        | inl here ↦ subst (λ u. goes_by next o u ≡ true) here (goes_by-next o c beside)
        | inr later ↦ let end = sym is ∙ later.1 in absurd (cc end)
      ])
      (λ t p is rest by. elim (first-step c t by) [
        | inl here ↦ subst (λ u. goes_by next o u ≡ true) here (goes_by-next o c beside)
        | inr later ↦
            goes_by-more o t p is
            (rest (subst (λ u. goes_by next (At c) u ≡ true) (at-number later.0 p (sym later.1 ∙ is)) later.2))
      ])

  -- a route that goes by a side of the fan goes by one section there
  pub fan-cases : (x : Side) (t : ℕ) → goes_by next (Fan x) t ≡ true
      → (r : ℕ) × (next r ≡ Fan x) × (goes_by next (At r) t ≡ true)
  fan-cases x =
      climb next falls
      (λ t. goes_by next (Fan x) t ≡ true → (r : ℕ) × (next r ≡ Fan x) × (goes_by next (At r) t ≡ true))
      (λ t y is by.
      let end : same (Fan x) (Fan y) ≡ true = sym (goes_by-fan next falls t y is (Fan x)) ∙ by in
      (t, is ∙ sym (same-true (Fan x) (Fan y) end), goes_by-self t))
      (λ t p is rest by.
      let root = rest (sym (goes_by-at next falls t p is (Fan x)) ∙ by) in
      (root.0, root.1, goes_by-more (At root.0) t p is root.2))

  -- what lies beyond s is s or lies beyond a child of s
  pub beyond-cases : (s t : ℕ) → goes_by next (At s) t ≡ true
      → (t ≡ s) ⊎ ((c : ℕ) × (next c ≡ At s) × (goes_by next (At c) t ≡ true))
  beyond-cases s =
      climb next falls
      (λ t. goes_by next (At s) t ≡ true → (t ≡ s) ⊎ ((c : ℕ) × (next c ≡ At s) × (goes_by next (At c) t ≡ true)))
      (λ t x is by. elim (first-step s t by) [
        | inl here ↦ inl (sym here)
        | inr later ↦ let end = sym is ∙ later.1 in absurd (cc end)
      ])
      (λ t p is rest by. elim (first-step s t by) [
        | inl here ↦ inl (sym here)
        | inr later ↦ elim
            (rest (subst (λ u. goes_by next (At s) u ≡ true) (at-number later.0 p (sym later.1 ∙ is)) later.2)) [
              | inl here ↦ inr (t, is ∙ ap At here, goes_by-self t)
              | inr child ↦ inr (child.0, child.1, goes_by-more (At child.0) t p is child.2)
            ]
      ])

  -- a route goes by at most one child of a section
  pub only_child : (s c d : ℕ) → next c ≡ At s → next d ≡ At s
      → (t : ℕ) → goes_by next (At c) t ≡ true → goes_by next (At d) t ≡ true → c ≡ d
  only_child s c d child other =
      climb next falls (λ t. goes_by next (At c) t ≡ true → goes_by next (At d) t ≡ true → c ≡ d)
      (λ t x is by too. elim (first-step c t by) [
        | inl here ↦ let end : At s ≡ Fan x = sym child ∙ ap next here ∙ is in absurd (cc end)
        | inr later ↦ let end = sym is ∙ later.1 in absurd (cc end)
      ])
      (λ t p is rest by too. elim (first-step c t by) [
        | inl here ↦ elim (first-step d t too) [
          | inl there ↦ here ∙ sym there
          | inr later ↦
              let end = at-number s p (sym child ∙ ap next here ∙ is) in
              let same_next = at-number later.0 p (sym later.1 ∙ is) in
              let below = goes_by-le next falls d later.0 later.2 in
              let less = falls d s other in
              absurd (omega arith)
        ]
        | inr later ↦ elim (first-step d t too) [
          | inl there ↦
              let end = at-number s p (sym other ∙ ap next there ∙ is) in
              let same_next = at-number later.0 p (sym later.1 ∙ is) in
              let below = goes_by-le next falls c later.0 later.2 in
              let less = falls c s child in
              absurd (omega arith)
          | inr again ↦
              rest (subst (λ u. goes_by next (At c) u ≡ true) (at-number later.0 p (sym later.1 ∙ is)) later.2)
              (subst (λ u. goes_by next (At d) u ≡ true) (at-number again.0 p (sym again.1 ∙ is)) again.2)
        ]
      ])

  -- sums along routes to c depend on the weights beyond c alone
  pub along-cong : (w v : ℕ → ℕ) (c n : ℕ) → ((u : ℕ) → u < n → goes_by next (At c) u ≡ true → w u ≡ v u)
      → (t : ℕ) → t < n → goes_by next (At c) t ≡ true → along next w (At c) t ≡ along next v (At c) t
  along-cong w v c n equal =
      climb next falls
      (λ t. t < n → goes_by next (At c) t ≡ true → along next w (At c) t ≡ along next v (At c) t)
      (λ t x is within by.
      along-fan next falls w (At c) t x is ∙ equal t within by ∙ sym (along-fan next falls v (At c) t x is))
      (λ t q is rest within by. elim (first-step c t by) [
        | inl here ↦
            ap (λ u. along next w (At u) t) here ∙ along-self next falls w t ∙ equal t within by
            ∙ sym (ap (λ u. along next v (At u) t) here ∙ along-self next falls v t)
        | inr later ↦
            let same_next = at-number later.0 q (sym later.1 ∙ is) in
            let below = goes_by-le next falls c later.0 later.2 in
            let less = falls t q is in
            let other : same (At c) (At t) ≡ true → ⊥ =
            λ here. let m = at-number c t (same-true (At c) (At t) here) in omega arith in
            along-on next falls w (At c) t q is other
            ∙ ap (λ z. z + along next w (At c) q) (equal t within by)
            ∙ ap (λ z. v t + z) (rest (omega arith) (subst (λ u. goes_by next (At c) u ≡ true) same_next later.2))
            ∙ sym (along-on next falls v (At c) t q is other)
      ])

-- and so do sums beyond c
pub beyond-cong : (next : ℕ → Place) (w v : ℕ → ℕ) (n c : ℕ)
    → ((u : ℕ) → u < n → goes_by next (At c) u ≡ true → w u ≡ v u) → beyond next w n (At c) ≡ beyond next v n (At c)
beyond-cong next w v n c equal =
    total-cong _ _ n (λ t less. gated-cong (goes_by next (At c) t) (w t) (v t) (equal t less))
