-- What holds of a deque between any two steps.
--   times t xs              how often t stands in the list
--   deque_view p got pushed what a hand knows of a deque: its parts, what it took, and the owner's also what was pushed
--   IsKept items views      the rule: each number is in the deque and was taken as often as it was pushed
use Rattle.std.specs.Prelude.{◌≡◌, ℕ, ◌+◌, ◌-◌, ◌≤◌, List, [], ◌∷◌, ◌++◌, ◌==◌}
use Rattle.std.specs.List.{sum_by, count_by}
use mathlib.Core.Option.{some}
use lib.ListN.{get_elem?}
use Rattle.steal_pool.specs.declared.view.DequeView.{DequeView}

-- how often t stands in the list
abbrev pub times : ℕ → List ℕ → ℕ
times t xs = count_by (λ x. x == t) xs

-- what a hand knows of a deque
abbrev pub deque_view : ℕ → List ℕ → List ℕ → DequeView
deque_view parts got pushed = record { parts = parts; got = got; pushed = pushed }

-- what was pushed so far: the owner's view, which is the first, keeps it
abbrev pub pushed_in : List DequeView → List ℕ
pushed_in [] = []
pushed_in (v ∷ vs) = v.pushed

-- the parts that all views of a deque have together
abbrev pub all_parts : ℕ
all_parts = 1024

-- Each number is in the deque and in the lists of what was taken as often as it was pushed
pub record IsKept (items : List ℕ) (views : List DequeView) : Type 0 where
  pub counts : (t : ℕ) → times t items + sum_by (λ v. times t v.got) views ≡ times t (pushed_in views)
  pub parts : sum_by (λ v. v.parts) views ≡ all_parts
  pub idle : (i : ℕ) (v : DequeView) → get_elem? views i ≡ some v → v.parts ≡ 0 → v.got ≡ []

-- these were pushed
abbrev pub with_pushed : DequeView → List ℕ → DequeView
with_pushed v xs = deque_view v.parts v.got (v.pushed ++ xs)

-- these were taken
abbrev pub with_got : DequeView → List ℕ → DequeView
with_got v xs = deque_view v.parts (v.got ++ xs) v.pushed

-- one part was given away
abbrev pub less_part : DequeView → DequeView
less_part v = deque_view (v.parts - 1) v.got v.pushed

-- the other view was taken in
abbrev pub joined : DequeView → DequeView → DequeView
joined v w = deque_view (v.parts + w.parts) (v.got ++ w.got) v.pushed

-- what the owner learns where the deque is empty: with all parts, what it took is what was pushed
pub record IsDrained (v : DequeView) : Type 0 where
  pub parts : v.parts ≤ all_parts
  pub counts : v.parts ≡ all_parts → (t : ℕ) → times t v.got ≡ times t v.pushed

-- the owner took no number more often than it was pushed
abbrev pub IsWithinPushed : DequeView → Type 0
IsWithinPushed v = (t : ℕ) → times t v.got ≤ times t v.pushed
