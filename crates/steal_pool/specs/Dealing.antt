-- How the reaches are given out.
use Rattle.std.specs.Prelude.{◌≡◌, ℕ, List, [], set}
use mathlib.Core.Option.{some}
use lib.ListN.{get_elem?}
use Rattle.steal_pool.specs.Rule.{all_parts}
use Rattle.steal_pool.specs.Ends.{DequeId}
use Rattle.steal_pool.specs.Hands.{HandView}
use Rattle.steal_pool.specs.HandFields.{lent, reaching}

-- what of a hand stays while the reaches are given out
pub record Dealt : Type 0 where
  pub own : DequeId
  pub pushed : List ℕ
  pub share : List ℕ
  pub rest : List ℕ
  pub left : ℕ
  pub taken : List ℕ

-- what of this hand stays
abbrev pub dealt_of : HandView → Dealt
dealt_of h = record {
  own = h.fixed.own;
  pushed = h.fixed.pushed;
  share = h.fixed.share;
  rest = h.rest;
  left = h.left;
  taken = h.taken;
}

-- hand i has lent a part of its deque to hand j
abbrev pub HandedOver : ℕ → ℕ → List HandView → List HandView → Type 0
HandedOver i j old new =
    (h k : HandView) × (get_elem? old i ≡ some h) × (get_elem? old j ≡ some k)
    × (new ≡ set (set old i (lent h)) j (reaching k h.fixed.own))

-- a hand that has lent nothing and reaches nowhere
pub record IsAlone (h : HandView) : Type 0 where
  pub all : h.fixed.parts ≡ all_parts
  pub none : h.fixed.reaches ≡ []
