-- The way from the fan outwards goes on: where a least is there, some size attains it, the size's loss is within the
-- budget, and the leasts of the children are there.
use Rattle.std.proofs.Common.{◌≡◌, ℕ, ◌-◌, ◌<◌, ◌≤◌, true, refl, arith, ap, sym, ◌∙◌, subst, inl, inr, Option, Some, None, List, [], ◌∷◌}
use Rattle.std.proofs.lemmas.Bool.{eq-eqb, lt-ltb, and_from}
use Rattle.std.specs.Prelude.{IsSome, is_some, is_none, ◌&&◌}
use Rattle.duct_units.specs.declared.side.Side.{Side}
use Rattle.duct_definitions.specs.Tree.{Tree, IsTree, section_count, sections, neighbour, side, is_number, is_root, children, roots}
use Rattle.duct_units.specs.Side.{same_side}
use Rattle.duct_definitions.specs.Network.{Network, size_count, columns, pair_at}
use Rattle.duct_definitions.specs.Designs.{loss_of}
use Rattle.design_laws.proofs.Among.{Among, Among-filter, Among-range}
use Rattle.duct_units.proofs.SideLaws.{same_side-same}
use Rattle.least_laws.specs.Prices.{sum_of}
use Rattle.least_laws.specs.LeastFromChildren.{least_with, least_in}
use Rattle.least_laws.specs.Choosing.{side_least, Attains}
use Rattle.least_laws.proofs.LeastBelow.{least_below-some}
use Rattle.least_laws.proofs.WithPair.{made}
use Rattle.least_laws.proofs.TreePlaces.{neighbour-within}
use Rattle.least_laws.proofs.Leasts.{least_in-step}
use Rattle.least_laws.proofs.PriceLaws.{some-there, both_of-there}

-- where a sum is there, each of its prices is
pub sum_of-there : (price : ℕ → Option ℕ) (x : ℕ) (xs : List ℕ) → IsSome (sum_of price xs) → Among x xs
    → IsSome (price x)
sum_of-there price x [] some among = absurd among
sum_of-there price x (y ∷ ys) some (inl same) =
    ap (λ z. is_some (price z)) same ∙ (both_of-there (price y) (sum_of price ys) some).0
sum_of-there price x (y ∷ ys) some (inr later) =
    sum_of-there price x ys (both_of-there (price y) (sum_of price ys) some).1 later

Among-children : (t : Tree) (s c : ℕ) → neighbour t c ≡ Some s → Among c (children t s)
Among-children t s c child =
    let within = neighbour-within t c s child in
    Among-filter (λ y. is_number s (neighbour t y)) c (sections t)
    (Among-range 0 (section_count t) c (omega arith) (omega arith)) (rw child (eq-eqb s s refl))

Among-roots : (t : Tree) (x : Side) (r : ℕ) → r < section_count t → neighbour t r ≡ None → side t r ≡ x
    → Among r (roots t x)
Among-roots t x r within root on_side =
    Among-filter (λ s. same_side (side t s) x && is_root t s) r (sections t)
    (Among-range 0 (section_count t) r (omega arith) (omega arith))
    (and_from _ _ (subst (λ y. same_side (side t r) y ≡ true) on_side (same_side-same (side t r)))
    (and_from _ _ (lt-ltb r (section_count t) within) (ap is_none root)))

module _ (net : Network) (tree : IsTree net.tree) where
  pub size_attains : (s g budget : ℕ) → s < section_count net.tree → g < columns net s
      → IsSome (least_in net s g budget) → (k : ℕ) × Attains net s g budget k
  size_attains s g budget within beside there =
      let some = some-there (least_in net s g budget) there in
      let least = least_below-some (least_with net (least_in net) s g budget) (size_count net s) some.0
      (sym (least_in-step net tree s g budget within beside) ∙ some.1) in
      (least.at, record { in_range = least.below; there = there; equal = least.is ∙ sym some.1 })

  pub loss_within : (s g budget k : ℕ) → Attains net s g budget k → loss_of (pair_at net s k g) ≤ budget
  loss_within s g budget k attains =
      let some = some-there (least_in net s g budget) attains.there in
      let parts = made (pair_at net s k g) budget some.0 _ (attains.equal ∙ some.1) in
      let lost : loss_of (pair_at net s k g) ≡ parts.p.loss = ap loss_of parts.pair in
      let fits = parts.fits in
      omega arith

  pub child_there : (s g budget k c : ℕ) → Attains net s g budget k → neighbour net.tree c ≡ Some s
      → IsSome (least_in net c k (budget - loss_of (pair_at net s k g)))
  child_there s g budget k c attains child =
      let some = some-there (least_in net s g budget) attains.there in
      let parts = made (pair_at net s k g) budget some.0
      (λ rest. sum_of (λ c. least_in net c k rest) (children net.tree s)) (attains.equal ∙ some.1) in
      let lost : loss_of (pair_at net s k g) ≡ parts.p.loss = ap loss_of parts.pair in
      subst (λ rest. IsSome (least_in net c k rest)) (ap (λ loss. budget - loss) (sym lost))
      (sum_of-there (λ c. least_in net c k (budget - parts.p.loss)) c (children net.tree s)
      (ap is_some parts.rest_is) (Among-children net.tree s c child))

  pub root_there : (x : Side) (budget r : ℕ) → IsSome (side_least net x budget) → r < section_count net.tree
      → neighbour net.tree r ≡ None → side net.tree r ≡ x → IsSome (least_in net r 0 budget)
  root_there x budget r there within root on_side =
      sum_of-there (λ r. least_in net r 0 budget) r (roots net.tree x) there
      (Among-roots net.tree x r within root on_side)
