-- What a caller sees of a hand.
--   h.fixed            what never changes once it is dealt: its deque and what was pushed to it, the deques that it
--                      steals from, its share
--   h.rest             the numbers of the share that it has still to answer once no deque gave one
--   h.left             how many numbers it can still answer at most
--   h.taken            the numbers that came from deques, in order
--   h.views            what it took from each deque: its own first, then the others
--   Gives old new x    the hand answered x, from a deque or from its share
--   IsDone old new     the hand answered that it has nothing more, since no number of its share is left to answer
use Rattle.std.specs.Prelude.{◌≡◌, ℕ, ◌<◌, ◌≤◌, ◌⊎◌, List, [], ◌∷◌, ◌++◌, map, flat_map}
use Rattle.steal_pool.specs.declared.deque.OwnDeque.{OwnDeque}
use Rattle.steal_pool.specs.declared.deque.Reach.{Reach}
use Rattle.steal_pool.specs.Ends.{DequeId, own_view, reach_view}

-- What of a hand never changes once it is dealt
pub record Fixed : Type 0 where
  pub own : DequeId
  pub pushed : List ℕ
  pub parts : ℕ
  pub reaches : List DequeId
  pub share : List ℕ

-- A hand
pub record HandView : Type 0 where
  pub fixed : Fixed
  pub rest : List ℕ
  pub left : ℕ
  pub taken : List ℕ
  pub views : List (List ℕ)

-- what never changes
abbrev pub fixed_of : HandView → Fixed
fixed_of h = h.fixed

-- what a hand took from its own deque and from the others
abbrev pub taken_by : OwnDeque → List Reach → List (List ℕ)
taken_by own others = (own_view own).got ∷ map (λ reach. (reach_view reach).got) others

-- x came from a deque, or it was the next of the share
abbrev pub ComesFrom : HandView → HandView → ℕ → Type 0
ComesFrom old new x =
    ((new.rest ≡ old.rest) × (new.taken ≡ old.taken ++ x ∷ []))
    ⊎ ((old.rest ≡ x ∷ new.rest) × (new.taken ≡ old.taken))

-- x was answered
pub record Gives (old new : HandView) (x : ℕ) : Type 0 where
  pub fewer : new.left < old.left
  pub comes : ComesFrom old new x

-- nothing was answered: every number of the share was
pub record IsDone (old new : HandView) : Type 0 where
  pub share_given : old.rest ≡ []
  pub share_stays : new.rest ≡ []
  pub taken_stays : new.taken ≡ old.taken
  pub no_more : new.left ≤ old.left

-- what the hands took from deques, one hand after another
abbrev pub all_taken : List HandView → List ℕ
all_taken hands = flat_map (λ h. h.taken) hands
