-- The least of a section is the same in networks that agree in its pairs and in the pairs of all beyond it.
use Rattle.std.proofs.Common.{◌≡◌, ℕ, ◌+◌, ◌*◌, refl, ap, sym, ◌∙◌, subst, Option, Some, None, List, [], length}
use Rattle.std.specs.Prelude.{slice_get, unwrap_or}
use Rattle.duct_definitions.specs.declared.design.Pair.{Pair}
use Rattle.duct_definitions.specs.Tree.{Tree, IsTree, section_count, neighbour}
use Rattle.duct_definitions.specs.Network.{Network, size_count, columns, columns_beside, pairs_of, pair_at}
use Rattle.least_laws.specs.Least.{IsLeast}
use Rattle.least_laws.specs.SamePairs.{AgreeBeyond}
use Rattle.least_laws.proofs.Ducts.{Ducts, IsLeastSum}
use Rattle.least_laws.proofs.Unique.{with_pairs, least-moves, AgreeBeyond as AgreeInPairs}
use Rattle.least_laws.proofs.TreePlaces.{next_in, next_in-falls}
use Rattle.least_laws.proofs.TreeLists.{All-beyond}
use Rattle.least_laws.proofs.DuctsOf.{ducts_of, sum-from_least, least-from_sum}

-- a network as functions, of its tree, its lists of sizes and its pairs
abbrev ducts_from : Tree → List (List (List ℕ)) → (ℕ → ℕ → ℕ → Option Pair) → Ducts
ducts_from t sizes pairs = record {
  count = section_count t;
  next = next_in t;
  sizes = λ s. length (unwrap_or (slice_get sizes s) []);
  pair = pairs;
}

module _ (net other : Network) (s : ℕ) (agree : AgreeBeyond net other s) where
  size_count-agree : (n : ℕ) → size_count other n ≡ size_count net n
  size_count-agree n = ap (λ sizes. length (unwrap_or (slice_get sizes n) [])) agree.sizes

  columns_beside-agree : (o : Option ℕ) → columns_beside other o ≡ columns_beside net o
  columns_beside-agree None = refl
  columns_beside-agree (Some n) = size_count-agree n

  pub columns-agree : (t : ℕ) → columns other t ≡ columns net t
  columns-agree t =
      columns_beside-agree (neighbour other.tree t) ∙ ap (λ tree. columns_beside net (neighbour tree t)) agree.tree

  ducts-agree : with_pairs (ducts_of net) (pair_at other) ≡ ducts_of other
  ducts-agree =
      sym (ap (λ tree. ducts_from tree other.sizes (pair_at other)) agree.tree
      ∙ ap (λ sizes. ducts_from net.tree sizes (pair_at other)) agree.sizes)

  pairs-agree : IsTree net.tree → AgreeInPairs (ducts_of net) (pair_at other) s
  pairs-agree tree t k g less by =
      let same : pairs_of other t ≡ pairs_of net t =
      All-beyond net.tree tree s (λ t. pairs_of other t ≡ pairs_of net t) agree.pairs t less by in
      sym (ap (λ pairs. unwrap_or (slice_get pairs (k * columns other t + g)) None) same
      ∙ ap (λ n. unwrap_or (slice_get (pairs_of net t) (k * n + g)) None) (columns-agree t))

  pub least_agrees : IsTree net.tree → (g budget : ℕ) (o : Option ℕ) → IsLeast net s g budget o
      → IsLeast other s g budget o
  least_agrees tree g budget o least =
      least-from_sum other (subst IsTree (sym agree.tree) tree) s g budget o
      (subst (λ ducts. IsLeastSum ducts s g budget o) ducts-agree
      (least-moves (ducts_of net) (next_in-falls net.tree tree) (pair_at other) s g budget o (pairs-agree tree)
      (sum-from_least net tree s g budget o least)))
