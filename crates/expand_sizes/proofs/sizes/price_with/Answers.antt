use Rattle.std.proofs.Common.{◌≡◌, ℕ, ◌+◌, ◌-◌, ◌≤◌, Option, Some, ap, ◌∙◌, sym}
use Rattle.duct_definitions.specs.declared.design.Pair.{Pair}
use Rattle.duct_definitions.specs.Tree.{children}
use Rattle.duct_definitions.specs.Network.{pair_at}
use Rattle.duct_units.specs.Prices.{both_of}
use Rattle.least_laws.specs.Prices.{sum_of, with_pair}
use Rattle.least_laws.specs.LeastFromChildren.{least_in}
use Rattle.least_laws.proofs.WithPair.{with_pair-is}
use Rattle.expand_sizes.proofs.sizes.price_with.Goals as goal

-- the price of a pair within what is left, and the price of what is beyond it
joined : (pairs : Option Pair) (pair : Pair) (left rest beyond : ℕ) (prices : ℕ → Option ℕ) → Some pair ≡ pairs
    → pair.loss ≤ left → rest ≡ left - pair.loss → Some beyond ≡ prices rest
    → Some (pair.price + beyond) ≡ with_pair pairs left prices
joined pairs pair left rest beyond prices there within rest_is beyond_is =
    ap (both_of (Some pair.price)) (beyond_is ∙ ap prices rest_is)
    ∙ sym (with_pair-is pairs pair left prices (sym there) within)

pub returns : goal.returns
returns c =
    let net = c.args.net.now in
    joined (pair_at net c.args.s c.args.k c.args.g) c.in_ok-pair.pair c.args.left c.in_ok-rest.rest c.in_ok-beyond.beyond
    (λ rest. sum_of (λ child. least_in net child c.args.k rest) (children net.tree c.args.s))
    c.in_ok-pair.ensures.value c.in_ok-rest.ensures.0 c.in_ok-rest.ensures.1 c.in_ok-beyond.ensures.value
