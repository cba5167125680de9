-- A design whose sizes are taken first from the fan outwards, as sizes over places.
use Rattle.std.proofs.Common.{◌≡◌, ℕ, ◌+◌, ◌-◌, ◌<◌, refl, arith, ap, sym, ◌∙◌, subst, Option, Some, None, []}
use Rattle.std.proofs.lemmas.List.Sums.{sum_by-cons}
use Rattle.std.specs.Prelude.{is_some, slice_index, sum_by}
use Rattle.duct_units.specs.declared.side.Side.{Side}
use Rattle.duct_definitions.specs.declared.design.Design.{Design}
use Rattle.duct_definitions.specs.Tree.{IsTree, section_count, neighbour, side, way}
use Rattle.duct_definitions.specs.Network.{Network, columns, columns_beside}
use Rattle.duct_definitions.specs.Designs.{size_beside, pair_of, loss_of, path_loss}
use Rattle.duct_definitions.proofs.TreeLaws.{earlier}
use Rattle.duct_definitions.proofs.WayLaws.{way-at_fan, way-beside}
use Rattle.design_laws.proofs.Ways.{neighbour_side}
use Rattle.least_laws.specs.LeastFromChildren.{least_in}
use Rattle.least_laws.specs.Choosing.{Attains, left_beside, IsDescent}
use Rattle.least_laws.proofs.PriceLaws.{some-there}
use Rattle.least_laws.proofs.Ducts.{loss, sum_from}
use Rattle.least_laws.proofs.Optimal.{AttainsSum}
use Rattle.least_laws.proofs.Descent.{IsLeft, TakesFirst}
use Rattle.least_laws.proofs.TreePlaces.{neighbour-at, neighbour-fan}
use Rattle.least_laws.proofs.DuctsOf.{ducts_of, sum_with-least_with, sum_from-least_from}
use Rattle.least_laws.proofs.Leasts.{least_in-step}
use Rattle.least_laws.proofs.DesignSizes.{sizes_in, size_at-beside, chosen-pair_of}

module _ (net : Network) (tree : IsTree net.tree) where
  -- the least that a sum over places gives is the one of the recursion
  sum_from-least_in : (s g b : ℕ) → s < section_count net.tree → g < columns net s
      → sum_from (ducts_of net) (least_in net) s g b ≡ least_in net s g b
  sum_from-least_in s g b within beside =
      sum_from-least_from net (least_in net) s g b ∙ sym (least_in-step net tree s g b within beside)

  attains-sum : (s g b k : ℕ) → s < section_count net.tree → g < columns net s → Attains net s g b k
      → AttainsSum (ducts_of net) (least_in net) s g b k
  attains-sum s g b k within beside attains =
      let at = sum_from-least_in s g b within beside in
      let some = some-there (least_in net s g b) attains.there in (
        attains.in_range,
        sum_with-least_with net (least_in net) s g b k ∙ attains.equal ∙ sym at,
        (some.0, at ∙ some.1),
      )

  sum-attains : (s g b k : ℕ) → s < section_count net.tree → g < columns net s
      → AttainsSum (ducts_of net) (least_in net) s g b k → Attains net s g b k
  sum-attains s g b k within beside attains =
      let at = sum_from-least_in s g b within beside in
      record {
        in_range = attains.0;
        there = ap is_some (sym at ∙ attains.2.1);
        equal = sym (sum_with-least_with net (least_in net) s g b k) ∙ attains.1 ∙ at;
      }

  -- what the sections between a section and the fan lose
  abbrev before : Design → Option ℕ → ℕ
  before d None = 0
  before d (Some n) = path_loss net d n

  path_loss-step : (d : Design) (s : ℕ) → s < section_count net.tree
      → path_loss net d s ≡ loss_of (pair_of net d s) + before d (neighbour net.tree s)
  path_loss-step d s within =
      let w : ℕ → ℕ = λ t. loss_of (pair_of net d t) in
      elim (neighbour net.tree s) as (λ o. neighbour net.tree s ≡ o → path_loss net d s ≡ w s + before d o) [
        | None ↦ λ is. ap (sum_by w) (way-at_fan net.tree s is) ∙ sum_by-cons w s []
        | Some n ↦ λ is. ap (sum_by w) (way-beside net.tree s n tree within is) ∙ sum_by-cons w s (way net.tree n)
      ] refl

  -- what they leave of the budget of the side
  abbrev pub left_over : (Side → ℕ) → Design → ℕ → ℕ
  left_over budget d s = budget (side net.tree s) - before d (neighbour net.tree s)

  pub left_over-is : (budget : Side → ℕ) (d : Design) → IsLeft (ducts_of net) budget (sizes_in d) (left_over budget d)
  left_over-is budget d = record {
    fan = λ s x less is.
        let next = neighbour-fan net.tree s x is in
        ap (λ o. budget (side net.tree s) - before d o) next.0
        ∙ (let whole : budget (side net.tree s) - 0 ≡ budget (side net.tree s) = omega arith in whole)
        ∙ ap budget next.1;
    more = λ s n less is.
        let next = neighbour-at net.tree s n is in
        let less_n = earlier net.tree s n tree less next in
        let step = path_loss-step d n (omega arith) in
        let here : left_over budget d s ≡ budget (side net.tree n) - path_loss net d n =
        ap (λ o. budget (side net.tree s) - before d o) next
        ∙ ap (λ x. budget x - path_loss net d n) (sym (neighbour_side net.tree s n tree less next)) in
        let lost : loss (ducts_of net) (sizes_in d) n ≡ loss_of (pair_of net d n) =
        ap loss_of (chosen-pair_of net d n) in
        omega arith;
  }

  module _ (budget : Side → ℕ) (left : ℕ → ℕ) (d : Design) (descent : IsDescent net budget left d) where
    pub descent-left : IsLeft (ducts_of net) budget (sizes_in d) left
    descent-left = record {
      fan = λ s x less is.
          let next = neighbour-fan net.tree s x is in
          descent.remaining s less
          ∙ ap (left_beside net d left (budget (side net.tree s))) next.0
          ∙ ap budget next.1;
      more = λ s n less is.
          let next = neighbour-at net.tree s n is in
          descent.remaining s less
          ∙ ap (left_beside net d left (budget (side net.tree s))) next
          ∙ ap (λ o. left n - loss_of o) (sym (chosen-pair_of net d n));
    }

    -- the size next to a section is one of the neighbour's
    beside-within : (s : ℕ) → s < section_count net.tree → size_beside d (neighbour net.tree s) < columns net s
    beside-within s within =
        elim (neighbour net.tree s) as (λ o. neighbour net.tree s ≡ o → size_beside d o < columns_beside net o) [
          | None ↦ λ is. omega arith
          | Some n ↦ λ is.
              let less = earlier net.tree s n tree within is in
              (descent.attains n (omega arith)).in_range
        ] refl

    pub descent-first_sizes : TakesFirst (ducts_of net) (least_in net) left (sizes_in d)
    descent-first_sizes = record {
      attains = λ s less.
          subst (λ g. AttainsSum (ducts_of net) (least_in net) s g (left s) (slice_index d.sizes s))
          (sym (size_at-beside d (side net.tree s) (neighbour net.tree s)))
          (attains-sum s (size_beside d (neighbour net.tree s)) (left s) (slice_index d.sizes s) less
          (beside-within s less) (descent.attains s less));
      first = λ s k less smaller attains.
          descent.first s k less smaller
          (sum-attains s (size_beside d (neighbour net.tree s)) (left s) k less (beside-within s less)
          (subst (λ g. AttainsSum (ducts_of net) (least_in net) s g (left s) k)
          (size_at-beside d (side net.tree s) (neighbour net.tree s)) attains));
    }
