-- What holds of the fields of a hand, and what a look into the deques changes.
use Rattle.std.specs.Prelude.{◌≡◌, ℕ, ◌+◌, ◌-◌, ◌≤◌, List, [], ◌∷◌, ◌++◌, length, map, Option, Some, None}
use Rattle.std.specs.List.{sum_by}
use Rattle.steal_pool.specs.declared.deque.OwnDeque.{OwnDeque}
use Rattle.steal_pool.specs.declared.deque.Reach.{Reach}
use Rattle.steal_pool.specs.Rule.{times}
use Rattle.steal_pool.specs.Ends.{DequeId, own_id, own_view, reach_id, reach_view}
use Rattle.steal_pool.specs.Hands.{HandView}

-- how often t stands in the lists of a hand's views
abbrev pub got_in : ℕ → OwnDeque → List Reach → ℕ
got_in t own others = times t (own_view own).got + sum_by (λ reach. times t (reach_view reach).got) others

-- how often t was found
abbrev pub times_found : ℕ → Option ℕ → ℕ
times_found t None = 0
times_found t (Some x) = times t (x ∷ [])

-- one look into the deques, and what it found
pub record Searched (own own' : OwnDeque) (others others' : List Reach) (found : Option ℕ) : Type 0 where
  pub deque : own_id own' ≡ own_id own
  pub parts : (own_view own').parts ≡ (own_view own).parts
  pub pushed : (own_view own').pushed ≡ (own_view own).pushed
  pub reaches : map reach_id others' ≡ map reach_id others
  pub counts : (t : ℕ) → got_in t own' others' ≡ got_in t own others + times_found t found

-- The fields of a hand: `taken` has each number as often as its views together, and room for all that may still come
pub record IsHand (own : OwnDeque) (others : List Reach) (share taken : List ℕ) (given budget room : ℕ) : Type 0 where
  pub within : given ≤ length share
  pub pushed : (own_view own).pushed ≡ share
  pub counts : (t : ℕ) → got_in t own others ≡ times t taken
  pub roomy : length taken + budget ≤ room

-- one part of its deque is lent
abbrev pub lent : HandView → HandView
lent h = record h { fixed = record h.fixed { parts = h.fixed.parts - 1 } }

-- it reaches into one deque more, from which it took nothing
abbrev pub reaching : HandView → DequeId → HandView
reaching h id = record h { fixed = record h.fixed { reaches = h.fixed.reaches ++ id ∷ [] }; views = h.views ++ [] ∷ [] }
