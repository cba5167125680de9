-- What lies beyond a place is the place and what lies beyond the sections next to it.
use Rattle.std.proofs.Common.{◌≡◌, ℕ, ◌+◌, ◌<◌, ◌≤◌, true, false, refl, arith, ap, sym, ◌∙◌, inl, inr, subst, ◌||◌}
use Rattle.std.proofs.lemmas.Bool.{or_cases}
use Rattle.duct_units.specs.declared.side.Side.{Side}
use Rattle.tree_sums.specs.Route.{Place, Fan, At, same, Falls, goes_by}
use Rattle.tree_sums.specs.Sums.{total, gated, beyond}
use Rattle.tree_sums.proofs.Climb.{climb, route-fan, route-at}
use Rattle.tree_sums.proofs.Places.{same-refl, same-true, same-sym, same-other, at-number, or-false, gated-or, gated-zero, gated-add}
use Rattle.tree_sums.proofs.Totals.{total-one, total-none, total-cong, total-add, total-swap, gated-total}

module _ (next : ℕ → Place) (falls : Falls next) where
  pub goes_by-fan : (t : ℕ) (x : Side) → next t ≡ Fan x → (o : Place)
      → goes_by next o t ≡ (same o (At t) || same o (Fan x))
  goes_by-fan t x is o =
      rw (route-fan next falls t x is) (ap (λ b. same o (At t) || b) (or-false (same o (Fan x))))

  pub goes_by-at : (t p : ℕ) → next t ≡ At p → (o : Place) → goes_by next o t ≡ (same o (At t) || goes_by next o p)
  goes_by-at t p is o = rw (route-at next falls t p is) refl

  -- each section on a route is at most the one with which the route begins
  pub goes_by-le : (c t : ℕ) → goes_by next (At c) t ≡ true → c ≤ t
  goes_by-le c =
      climb next falls (λ t. goes_by next (At c) t ≡ true → c ≤ t)
      (λ t x is by. elim (or_cases (same (At c) (At t)) false (sym (goes_by-fan t x is (At c)) ∙ by)) [
        | inl here ↦ let equal = at-number c t (same-true (At c) (At t) here) in omega arith
        | inr later ↦ cc
      ])
      (λ t p is rest by. elim (or_cases (same (At c) (At t)) (goes_by next (At c) p)
      (sym (goes_by-at t p is (At c)) ∙ by)) [
        | inl here ↦ let equal = at-number c t (same-true (At c) (At t) here) in omega arith
        | inr later ↦ let below = rest later in let less = falls t p is in omega arith
      ])

  -- the part of x that lies beyond sections next to o, where x lies at t
  abbrev under : Place → ℕ → ℕ → ℕ → ℕ
  under o n t x = total (λ c. gated (same (next c) o) (gated (goes_by next (At c) t) x)) n

  -- t itself as such a section
  own : (o : Place) (n t x : ℕ) → t < n
      → total (λ c. gated (same (next c) o) (gated (same (At c) (At t)) x)) n ≡ gated (same (next t) o) x
  own o n t x within =
      total-one (λ c. gated (same (next c) o) (gated (same (At c) (At t)) x)) t n within
      (λ c less other. rw (same-other c t (λ equal. other (sym equal))) (gated-zero (same (next c) o)))
      ∙ ap (λ b. gated (same (next t) o) (gated b x)) (same-refl (At t))

  -- t itself, where the place next to it is known
  own-next : (o q : Place) (n t x : ℕ) → t < n → next t ≡ q
      → total (λ c. gated (same (next c) o) (gated (same (At c) (At t)) x)) n ≡ gated (same o q) x
  own-next o q n t x within is =
      own o n t x within ∙ ap (λ u. gated (same u o) x) is ∙ ap (λ b. gated b x) (same-sym q o)

  under-fan : (n : ℕ) (o : Place) (x t : ℕ) (y : Side) → t < n → next t ≡ Fan y
      → under o n t x ≡ gated (same o (Fan y)) x
  under-fan n o x t y within is =
      total-cong (λ c. gated (same (next c) o) (gated (goes_by next (At c) t) x))
      (λ c. gated (same (next c) o) (gated (same (At c) (At t)) x)) n
      (λ c less. ap (λ b. gated (same (next c) o) (gated b x))
      (goes_by-fan t y is (At c) ∙ or-false (same (At c) (At t))))
      ∙ own-next o (Fan y) n t x within is

  under-at : (n : ℕ) (o : Place) (x t p : ℕ) → t < n → next t ≡ At p
      → under o n t x ≡ gated (same o (At p)) x + under o n p x
  under-at n o x t p within is =
      let split : (c : ℕ) → c < n
      → gated (same (next c) o) (gated (goes_by next (At c) t) x)
      ≡ gated (same (next c) o) (gated (same (At c) (At t)) x)
      + gated (same (next c) o) (gated (goes_by next (At c) p) x) =
      λ c less.
      ap (λ b. gated (same (next c) o) (gated b x)) (goes_by-at t p is (At c))
      ∙ ap (λ z. gated (same (next c) o) z)
      (gated-or (same (At c) (At t)) (goes_by next (At c) p) x
      (λ here later.
      let equal = at-number c t (same-true (At c) (At t) here) in
      let below = goes_by-le c p later in
      let before = falls t p is in
      omega arith))
      ∙ gated-add (same (next c) o) (gated (same (At c) (At t)) x) (gated (goes_by next (At c) p) x) in
      let all = total-cong _ _ n split in
      let parts =
      total-add (λ c. gated (same (next c) o) (gated (same (At c) (At t)) x))
      (λ c. gated (same (next c) o) (gated (goes_by next (At c) p) x)) n in
      let mine = own-next o (At p) n t x within is in
      omega arith

  -- what lies at t and beyond o lies at o, or beyond one section next to o
  one_child : (n : ℕ) (o : Place) (x t : ℕ) → t < n
      → gated (goes_by next o t) x ≡ gated (same o (At t)) x + under o n t x
  one_child n o x =
      climb next falls (λ t. t < n → gated (goes_by next o t) x ≡ gated (same o (At t)) x + under o n t x)
      (λ t y is within.
      ap (λ b. gated b x) (goes_by-fan t y is o)
      ∙ gated-or (same o (At t)) (same o (Fan y)) x
      (λ here there. let both = sym (same-true o (At t) here) ∙ same-true o (Fan y) there in cc both)
      ∙ ap (λ z. gated (same o (At t)) x + z) (sym (under-fan n o x t y within is)))
      (λ t p is rest within.
      let before = falls t p is in
      ap (λ b. gated b x) (goes_by-at t p is o)
      ∙ gated-or (same o (At t)) (goes_by next o p) x
      (λ here later.
      let below = goes_by-le t p (subst (λ u. goes_by next u p ≡ true) (same-true o (At t) here) later) in
      omega arith)
      ∙ ap (λ z. gated (same o (At t)) x + z) (rest (omega arith) ∙ sym (under-at n o x t p within is)))

  -- the sum beyond a place is its own weight and the sums beyond the sections next to it
  pub beyond-split : (w : ℕ → ℕ) (n : ℕ) (o : Place)
      → beyond next w n o
      ≡ total (λ t. gated (same o (At t)) (w t)) n + total (λ c. gated (same (next c) o) (beyond next w n (At c))) n
  beyond-split w n o =
      total-cong (λ t. gated (goes_by next o t) (w t)) (λ t. gated (same o (At t)) (w t) + under o n t (w t)) n
      (λ t less. one_child n o (w t) t less)
      ∙ total-add (λ t. gated (same o (At t)) (w t)) (λ t. under o n t (w t)) n
      ∙ ap (λ z. total (λ t. gated (same o (At t)) (w t)) n + z)
      (total-swap (λ t c. gated (same (next c) o) (gated (goes_by next (At c) t) (w t))) n n
      ∙ total-cong _ _ n (λ c less. gated-total (same (next c) o) (λ t. gated (goes_by next (At c) t) (w t)) n))

  -- beyond a section: its weight, and the sums beyond its children
  pub beyond-section : (w : ℕ → ℕ) (n s : ℕ) → s < n
      → beyond next w n (At s) ≡ w s + total (λ c. gated (same (next c) (At s)) (beyond next w n (At c))) n
  beyond-section w n s within =
      beyond-split w n (At s)
      ∙ ap (λ z. z + total (λ c. gated (same (next c) (At s)) (beyond next w n (At c))) n)
      (total-one (λ t. gated (same (At s) (At t)) (w t)) s n within
      (λ t less other. ap (λ b. gated b (w t)) (same-other s t other))
      ∙ ap (λ b. gated b (w s)) (same-refl (At s)))

  -- beyond the fan's side: the sums beyond the sections at the fan
  pub beyond-fan : (w : ℕ → ℕ) (n : ℕ) (x : Side)
      → beyond next w n (Fan x) ≡ total (λ c. gated (same (next c) (Fan x)) (beyond next w n (At c))) n
  beyond-fan w n x =
      let none = total-none (λ t. gated (same (Fan x) (At t)) (w t)) n (λ t less. refl) in
      let split = beyond-split w n (Fan x) in
      omega arith
