-- What gathering the hands does to their deques and passes.
use Rattle.std.specs.Prelude.{◌≡◌, ℕ, ◌+◌, ◌<◌, ◌≤◌, ◌⊎◌, List, length, map}
use Rattle.std.specs.List.{sum_by}
use Rattle.steal_pool.specs.declared.deque.OwnDeque.{OwnDeque}
use Rattle.steal_pool.specs.declared.deque.Reach.{Reach}
use Rattle.steal_pool.specs.declared.parting.Row.{Row}
use Rattle.steal_pool.specs.Rule.{times}
use Rattle.steal_pool.specs.Ends.{DequeId, own_id, own_view, reach_id, reach_view}
use Rattle.steal_pool.specs.Hands.{HandView, all_taken}

-- how often the owner took t from its deque
abbrev pub own_got : ℕ → OwnDeque → ℕ
own_got t own = times t (own_view own).got

-- what was pushed
abbrev pub own_pushed : OwnDeque → List ℕ
own_pushed own = (own_view own).pushed

-- the parts that the owner has
abbrev pub own_parts : OwnDeque → ℕ
own_parts own = (own_view own).parts

-- how often t was taken by this reach
abbrev pub reach_got : ℕ → Reach → ℕ
reach_got t reach = times t (reach_view reach).got

-- the deques that a hand reaches into
abbrev pub row_ids : Row → List DequeId
row_ids row = map reach_id row.reaches.items

-- how many parts its passes have
abbrev pub row_parts : Row → ℕ
row_parts row = length row.reaches.items

-- how often it took t from them
abbrev pub row_got : ℕ → Row → ℕ
row_got t row = sum_by (reach_got t) row.reaches.items

-- place k of a list without its item at place j is place i of the whole list
abbrev pub IsSeat : ℕ → ℕ → ℕ → Type 0
IsSeat k j i = ((k < j) × (i ≡ k)) ⊎ ((j ≤ k) × (i ≡ k + 1))

-- owners that took in passes of so many parts, which took so much
pub record Absorbed (old new : List OwnDeque) (more : ℕ) (got : ℕ → ℕ) : Type 0 where
  pub deques : map own_id new ≡ map own_id old
  pub pushed : map own_pushed new ≡ map own_pushed old
  pub parts : sum_by own_parts new ≡ sum_by own_parts old + more
  pub counts : (t : ℕ) → sum_by (own_got t) new ≡ sum_by (own_got t) old + got t

-- hands taken apart: their deques, their reaches and what they took, in their order
pub record IsParted (hands : List HandView) (owns : List OwnDeque) (rows : List Row) (taken : List ℕ) : Type 0 where
  pub deques : map own_id owns ≡ map (λ h. h.fixed.own) hands
  pub pushed : map own_pushed owns ≡ map (λ h. h.fixed.share) hands
  pub parts : map own_parts owns ≡ map (λ h. h.fixed.parts) hands
  pub reaches : map row_ids rows ≡ map (λ h. h.fixed.reaches) hands
  pub all : taken ≡ all_taken hands
  pub counts : (t : ℕ) → sum_by (own_got t) owns + sum_by (row_got t) rows ≡ times t taken
