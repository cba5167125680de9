-- What a deal is.
--   share_of tasks n i     the tasks whose place leaves the rest i by n, in order
--   Starts tasks n i h     hand i of n before it took anything
--   OfOneDeal fixeds       each hand steals from the deques of all others
--   AreShares tasks fixeds each hand has its share of the tasks
--   IsDealt tasks n hands  the tasks dealt to n hands
use Rattle.std.specs.Prelude.{◌≡◌, ℕ, zero, suc, ◌+◌, ◌*◌, ◌%◌, List, [], ◌∷◌, length, map, Bool, true, false, ◌==◌}
use Rattle.std.specs.List.{sum_by}
use mathlib.Core.Option.{some}
use lib.ListN.{get_elem?}
use Rattle.steal_pool.specs.Rule.{all_parts}
use Rattle.steal_pool.specs.Ends.{DequeId}
use Rattle.steal_pool.specs.Hands.{Fixed, HandView, fixed_of}

-- x before the rest, if it is kept
abbrev pub kept : Bool → ℕ → List ℕ → List ℕ
kept true x xs = x ∷ xs
kept false x xs = xs

-- the tasks whose place leaves the rest i by n, where the first task stands at place p
abbrev pub share_from : ℕ → ℕ → ℕ → List ℕ → List ℕ
share_from p n i [] = []
share_from p n i (x ∷ xs) = kept (p % n == i) x (share_from (p + 1) n i xs)

-- the tasks whose place from 0 leaves the rest i by n, in order
abbrev pub share_of : List ℕ → ℕ → ℕ → List ℕ
share_of tasks n i = share_from 0 n i tasks

-- all but the item at place k
abbrev pub skip : {A : Type 0} → ℕ → List A → List A
skip k [] = []
skip zero (x ∷ xs) = xs
skip (suc k) (x ∷ xs) = x ∷ skip k xs

-- the deque that a hand owns
abbrev pub own_of : Fixed → DequeId
own_of f = f.own

-- Each hand reaches into the deques of all others, in order, and together they have all parts of each deque
pub record OfOneDeal (fixeds : List Fixed) : Type 0 where
  pub reaches : (i : ℕ) (f : Fixed) → get_elem? fixeds i ≡ some f → f.reaches ≡ skip i (map own_of fixeds)
  pub parts : sum_by (λ f. f.parts + length f.reaches) fixeds ≡ all_parts * length fixeds

-- each hand has its share of the tasks
abbrev pub AreShares : List ℕ → List Fixed → Type 0
AreShares tasks fixeds =
    (i : ℕ) (f : Fixed) → get_elem? fixeds i ≡ some f → f.share ≡ share_of tasks (length fixeds) i

-- hand i of n before it took anything
pub record Starts (tasks : List ℕ) (n i : ℕ) (h : HandView) : Type 0 where
  pub its_share : h.fixed.share ≡ share_of tasks n i
  pub its_pushed : h.fixed.pushed ≡ share_of tasks n i
  pub its_rest : h.rest ≡ share_of tasks n i
  pub its_left : h.left ≡ length tasks + length (share_of tasks n i)
  pub none_taken : h.taken ≡ []

-- the tasks dealt to n hands
pub record IsDealt (tasks : List ℕ) (n : ℕ) (hands : List HandView) : Type 0 where
  pub count : length hands ≡ n
  pub start : (i : ℕ) (h : HandView) → get_elem? hands i ≡ some h → Starts tasks n i h
  pub one_deal : OfOneDeal (map fixed_of hands)
