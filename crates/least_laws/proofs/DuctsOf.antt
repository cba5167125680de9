-- A network as functions, and that its choices and leasts are those of the network.
use Rattle.std.proofs.Common.{◌≡◌, ℕ, ◌<◌, ◌≤◌, true, refl, arith, ap, sym, ◌∙◌, Option, Some, None}
use Rattle.std.proofs.Math.Path.{fun_ext}
use Rattle.std.specs.Prelude.{IsSome, is_some}
use Rattle.duct_units.specs.declared.side.Side.{Side}
use Rattle.duct_definitions.specs.Tree.{IsTree, section_count, neighbour, side, children, passes, at_neighbour}
use Rattle.duct_definitions.specs.Network.{Network, size_count, columns, columns_beside, pair_at}
use Rattle.duct_definitions.specs.Designs.{loss_of, price_of}
use Rattle.least_laws.specs.Least.{pair_in, loss_to, price_beyond, IsChoice, IsLeast}
use Rattle.tree_sums.specs.Route.{At, goes_by}
use Rattle.tree_sums.specs.Sums.{along, gated, beyond}
use Rattle.tree_sums.proofs.Totals.{total-cong}
use Rattle.least_laws.specs.Prices.{least_below, sum_of, with_pair}
use Rattle.least_laws.specs.LeastFromChildren.{least_with, least_from, AreLeasts}
use Rattle.least_laws.proofs.Ducts.{Ducts, size_at, chosen, loss, price, IsBeside, IsSizing, price_sum, IsLeastSum, joined, sum_with, sum_from, AreLeastSums}
use Rattle.least_laws.proofs.TreePlaces.{place_of, next_in, neighbour-at, neighbour-fan, passes-goes_by, sum_by-way, sum_by-filter}
use Rattle.least_laws.proofs.TreeLists.{All-beyond, All-from_beyond, All-leaves, All-from_leaves, children-same}
use Rattle.least_laws.proofs.SumOf.{joined-sum_of}
use Rattle.least_laws.proofs.PriceLaws.{some-there}

abbrev pub ducts_of : Network → Ducts
ducts_of net = record {
  count = section_count net.tree;
  next = next_in net.tree;
  sizes = size_count net;
  pair = pair_at net;
}

size_at-place : (f : ℕ → ℕ) (x : Side) (o : Option ℕ) → size_at f (place_of x o) ≡ at_neighbour f o
size_at-place f x None = refl
size_at-place f x (Some n) = refl

-- a size within the neighbour's is 0 at the fan
pub beside-columns : (net : Network) (s g : ℕ) → g < columns net s → IsBeside (ducts_of net) s g
beside-columns net s g less x is =
    let one : columns net s ≡ 1 = ap (columns_beside net) (neighbour-fan net.tree s x is).0 in
    omega arith

-- the neighbour of a child is the section
pub columns-child : (net : Network) (c s : ℕ) → neighbour net.tree c ≡ Some s → columns net c ≡ size_count net s
columns-child net c s is = ap (columns_beside net) is

pub chosen-pair_in : (net : Network) (f : ℕ → ℕ) (t : ℕ) → chosen (ducts_of net) f t ≡ pair_in net f t
chosen-pair_in net f t =
    ap (pair_at net t (f t)) (size_at-place f (side net.tree t) (neighbour net.tree t))

loss-pair_in : (net : Network) (f : ℕ → ℕ) → loss (ducts_of net) f ≡ (λ t. loss_of (pair_in net f t))
loss-pair_in net f = fun_ext (λ t. ap loss_of (chosen-pair_in net f t))

price-pair_in : (net : Network) (f : ℕ → ℕ) → price (ducts_of net) f ≡ (λ t. price_of (pair_in net f t))
price-pair_in net f = fun_ext (λ t. ap price_of (chosen-pair_in net f t))

module _ (net : Network) (tree : IsTree net.tree) where
  loss_to-along : (f : ℕ → ℕ) (s leaf : ℕ) → goes_by (next_in net.tree) (At s) leaf ≡ true
      → loss_to net f s leaf ≡ along (next_in net.tree) (loss (ducts_of net) f) (At s) leaf
  loss_to-along f s leaf by =
      sum_by-way net.tree tree (λ t. loss_of (pair_in net f t)) s leaf by
      ∙ ap (λ w. along (next_in net.tree) w (At s) leaf) (sym (loss-pair_in net f))

  pub price_beyond-sum : (f : ℕ → ℕ) (s : ℕ) → price_beyond net f s ≡ price_sum (ducts_of net) f (At s)
  price_beyond-sum f s =
      sum_by-filter (λ t. price_of (pair_in net f t)) (passes net.tree s) (section_count net.tree)
      ∙ total-cong _ (λ t. gated (goes_by (next_in net.tree) (At s) t) (price_of (pair_in net f t)))
      (section_count net.tree)
      (λ t less. ap (λ b. gated b (price_of (pair_in net f t))) (passes-goes_by net.tree tree s t))
      ∙ ap (λ w. beyond (next_in net.tree) w (section_count net.tree) (At s)) (sym (price-pair_in net f))

  pub sizing-from_choice : (s g b : ℕ) (f : ℕ → ℕ) → IsChoice net s g b f
      → (size_at f (next_in net.tree s) ≡ g) × IsSizing (ducts_of net) (At s) b f
  sizing-from_choice s g b f choice = (
    size_at-place f (side net.tree s) (neighbour net.tree s) ∙ choice.beside,
    record {
      in_range = All-beyond net.tree tree s (λ t. f t < size_count net t) choice.each;
      there = λ t less by.
          let pair = some-there (pair_in net f t)
          (All-beyond net.tree tree s (λ t. IsSome (pair_in net f t)) choice.pairs t less by) in
          (pair.0, chosen-pair_in net f t ∙ pair.1);
      within = λ t less end by.
          let most = All-leaves net.tree tree s (λ leaf. loss_to net f s leaf ≤ b) choice.losses t less end by in
          let same = loss_to-along f s t by in
          omega arith;
    },
  )

  pub choice-from_sizing : (s g b : ℕ) (f : ℕ → ℕ) → size_at f (next_in net.tree s) ≡ g
      → IsSizing (ducts_of net) (At s) b f → IsChoice net s g b f
  choice-from_sizing s g b f beside sizing = record {
    beside = sym (size_at-place f (side net.tree s) (neighbour net.tree s)) ∙ beside;
    each = All-from_beyond net.tree tree s (λ t. f t < size_count net t) sizing.in_range;
    pairs = All-from_beyond net.tree tree s (λ t. IsSome (pair_in net f t))
        (λ t less by. ap is_some (sym (chosen-pair_in net f t) ∙ (sizing.there t less by).1));
    losses = All-from_leaves net.tree tree s (λ leaf. loss_to net f s leaf ≤ b)
        (λ t less end by.
        let most = sizing.within t less end by in
        let same = loss_to-along f s t by in
        omega arith);
  }

  pub sum-from_least : (s g b : ℕ) (o : Option ℕ) → IsLeast net s g b o → IsLeastSum (ducts_of net) s g b o
  sum-from_least s g b None none = λ f beside sizing. none f (choice-from_sizing s g b f beside sizing)
  sum-from_least s g b (Some v) least =
      let f = least.reached.0 in
      let sizing = sizing-from_choice s g b f least.reached.1.0 in (
        (f, sizing.0, sizing.1, sym (price_beyond-sum f s) ∙ least.reached.1.1),
        λ h beside other.
            let most = least.least h (choice-from_sizing s g b h beside other) in
            let same = price_beyond-sum h s in
            omega arith,
      )

  pub least-from_sum : (s g b : ℕ) (o : Option ℕ) → IsLeastSum (ducts_of net) s g b o → IsLeast net s g b o
  least-from_sum s g b None none = λ f choice.
      let sizing = sizing-from_choice s g b f choice in
      none f sizing.0 sizing.1
  least-from_sum s g b (Some v) least =
      let f = least.0.0 in
      record {
        reached = (f, (choice-from_sizing s g b f least.0.1 least.0.2, price_beyond-sum f s ∙ least.0.3));
        least = λ h choice.
            let sizing = sizing-from_choice s g b h choice in
            let most = least.1 h sizing.0 sizing.1 in
            let same = price_beyond-sum h s in
            omega arith;
      }

-- the sum over a section's children is the same over the list of its children
pub joined-children : (net : Network) (s : ℕ) (h : ℕ → Option ℕ)
    → joined (next_in net.tree) (At s) h (section_count net.tree) ≡ sum_of h (children net.tree s)
joined-children net s h =
    joined-sum_of (next_in net.tree) (At s) h (section_count net.tree) ∙ ap (sum_of h) (sym (children-same net.tree s))

pub sum_with-least_with : (net : Network) (leasts : ℕ → ℕ → ℕ → Option ℕ) (s g b k : ℕ)
    → sum_with (ducts_of net) leasts s g b k ≡ least_with net leasts s g b k
sum_with-least_with net leasts s g b k =
    ap (with_pair (pair_at net s k g) b) (fun_ext (λ r. joined-children net s (λ c. leasts c k r)))

pub sum_from-least_from : (net : Network) (leasts : ℕ → ℕ → ℕ → Option ℕ) (s g b : ℕ)
    → sum_from (ducts_of net) leasts s g b ≡ least_from net leasts s g b
sum_from-least_from net leasts s g b =
    ap (λ h. least_below h (size_count net s)) (fun_ext (λ k. sum_with-least_with net leasts s g b k))

pub sums-from_leasts : (net : Network) → IsTree net.tree → (s : ℕ) (leasts : ℕ → ℕ → ℕ → Option ℕ)
    → AreLeasts net s leasts → AreLeastSums (ducts_of net) s leasts
sums-from_leasts net tree s leasts known c k r less child in_range =
    sum-from_least net tree c k r (leasts c k r) (known c k r less (neighbour-at net.tree c s child) in_range)
