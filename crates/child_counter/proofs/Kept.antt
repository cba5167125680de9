-- What stays as it is from one state to the next.
use Rattle.std.proofs.Common.{◌≡◌, ℕ, List, set, Some, true, ◌∙◌, arith, inl, inr, subst}
use Rattle.std.proofs.lemmas.Bool.{both_ways, false_from_ne_true}
use mathlib.Core.Option.{some}
use lib.ListN.{get_elem?}
use Rattle.atomic_table.proofs.Lists.{at_set}
use Rattle.duct_definitions.specs.Network.{Network}
use Rattle.schedule_core.specs.declared.events.Event.TheVariants.{Finish}
use Rattle.schedule_core.specs.Schedule.{State, is_in, is_claimed, accepts}
use Rattle.contract_join.specs.declared.outcome.Outcome.{Outcome}
use Rattle.child_counter.specs.declared.view.PassView.{PassView}
use Rattle.child_counter.specs.Passes.{turns, outs, IsPublished}
use Rattle.child_counter.specs.Shown.{Homes, Slot, IsView, IsSlot, Shows}
use Rattle.child_counter.proofs.Sums.{has_turn, yes_if-one}

-- more is claimed
abbrev pub Grows : Network → State → State → Type 0
Grows net a b = (s : ℕ) → is_claimed net.tree a s ≡ true → is_claimed net.tree b s ≡ true

-- what was published still is
abbrev pub Keeps : List PassView → List PassView → Type 0
Keeps views now = (o : Outcome) → IsPublished views o → IsPublished now o

pub view-kept : (net : Network) (a b : State) (views now : List PassView) (v : PassView) → Grows net a b
    → Keeps views now → IsView net a views v → IsView net b now v
view-kept net a b views now v grows keeps h =
    record {
      network = h.network;
      idle = h.idle;
      ordered = h.ordered;
      others = h.others;
      noted = λ s is. grows s (h.noted s is);
      lent = λ o is. (let l = h.lent o is in (l.0, keeps o l.1));
    }

-- one pass has changed, and the others are as they were
pub each-set : (net : Network) (a b : State) (views : List PassView) (i : ℕ) (w : PassView) → Grows net a b
    → Keeps views (set views i w)
    → ((k : ℕ) (v : PassView) → get_elem? views k ≡ some v → IsView net a views v) → IsView net b (set views i w) w
    → (k : ℕ) (v : PassView) → get_elem? (set views i w) k ≡ some v → IsView net b (set views i w) v
each-set net a b views i w grows keeps each new k v at =
    elim (at_set views i k w v at) [
      | inl p ↦ subst (IsView net b (set views i w)) p.1 new
      | inr p ↦ view-kept net a b views (set views i w) v grows keeps (each k v p.1)
    ]

-- a slot that no step has touched
pub slot-kept : (net : Network) (a b : State) (views now : List PassView) (s : ℕ) (old new : Slot)
    → Grows net a b → Keeps views now → (is_in b.done s ≡ true → is_in a.done s ≡ true) → turns now s ≡ turns views s
    → outs now s ≡ outs views s → new ≡ old
    → IsSlot net a views s old → IsSlot net b now s new
slot-kept net a b views now s old new grows keeps dones same_turns same_outs same h =
    record {
      empty = λ free. same ∙ h.empty (false_from_ne_true _
          (λ is. both_ways (is_claimed net.tree b s) free (grows s is)));
      out = λ some. same ∙ h.out (omega arith);
      full = λ done none. (let f = h.full (dones done) (omega arith) in (f.0, same ∙ f.1, f.2, keeps f.0 f.3));
    }

-- a pass whose turn it is: the finish is accepted
pub turn-accepted : (net : Network) (passes : ℕ) (state : State) (words : List ℕ) (homes : Homes)
    (views : List PassView) (i s : ℕ) (v : PassView)
    → Shows net passes state words homes views → get_elem? views i ≡ some v → v.turn ≡ Some s
    → accepts net.tree state (Finish s) ≡ true
turn-accepted net passes state words homes views i s v h at is =
    yes_if-one _ (let a = has_turn views i s v at is in let b = h.turn_of s in omega arith)
