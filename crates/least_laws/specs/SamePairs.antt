-- Networks that differ in pairs of other sections alone.
use Rattle.std.specs.Prelude.{◌≡◌, ℕ, All}
use Rattle.duct_definitions.specs.Network.{Network, pairs_of}
use Rattle.least_laws.specs.Least.{sections_beyond}

-- the networks have one tree and the same sizes, and the same pairs of section s and of all beyond it
pub record AgreeBeyond (net other : Network) (s : ℕ) : Type 0 where
  pub tree : other.tree ≡ net.tree
  pub sizes : other.sizes ≡ net.sizes
  pub pairs : All (λ t. pairs_of other t ≡ pairs_of net t) (sections_beyond net.tree s)
