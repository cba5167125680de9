-- What looks into the deques of a hand add up to.
use Rattle.std.proofs.Common.{◌≡◌, ℕ, ◌+◌, ◌-◌, ◌<◌, ◌≤◌, List, [], ◌∷◌, ◌++◌, set, length, map, get_or, length-append, Option, Some, None, refl, ap, ◌∙◌, arith}
use Rattle.std.proofs.Math.Seq.{map-set_same}
use Rattle.steal_pool.specs.declared.deque.OwnDeque.{OwnDeque}
use Rattle.steal_pool.specs.declared.deque.Reach.{Reach}
use Rattle.steal_pool.specs.Rule.{times, deque_view, with_got}
use Rattle.steal_pool.specs.Ends.{own_id, own_view, reach_id, reach_view}
use Rattle.steal_pool.specs.HandFields.{Searched, times_found, IsHand, got_in}
use Rattle.std.specs.List.{sum_by}
use Rattle.std.proofs.lemmas.List.Sums.{sum_by-cons, sum_by-set, sum_by-append}
use Rattle.steal_pool.specs.Hands.{taken_by}
use Rattle.steal_pool.proofs.Sums.{sum-map}
use Rattle.steal_pool.proofs.Sums.{times-append}

pub pop-searched : (own own' : OwnDeque) (others : List Reach) (x : ℕ) → own_id own' ≡ own_id own → own_view own' ≡ with_got (own_view own) (x ∷ []) → Searched own own' others others (Some x)
pop-searched own own' others x d m = record {
  deque = d;
  parts = ap (λ y. y.parts) m;
  pushed = ap (λ y. y.pushed) m;
  reaches = refl;
  counts = λ t. (let a : times t (own_view own').got ≡ times t ((own_view own).got ++ x ∷ []) = ap (λ y. times t y.got) m in let b = times-append t (own_view own).got (x ∷ []) in omega arith);
}

pub steal-searched : (own own' : OwnDeque) (others mid : List Reach) (i : ℕ) (r r' d : Reach) (found : Option ℕ) → Searched own own' others mid None → i < length mid → r ≡ get_or mid i d → reach_id r' ≡ reach_id r
    → ((t : ℕ) → times t (reach_view r').got ≡ times t (reach_view r).got + times_found t found) → Searched own own' others (set mid i r') found
steal-searched own own' others mid i r r' d found h l is same more = record {
  deque = h.deque;
  parts = h.parts;
  pushed = h.pushed;
  reaches = map-set_same reach_id mid i r' d (same ∙ ap reach_id is) ∙ h.reaches;
  counts = λ t. (
      let f : Reach → ℕ = λ y. times t (reach_view y).got in
      let a = sum_by-set f mid i r' d l in
      let b : f r ≡ f (get_or mid i d) = ap f is in
      let c = more t in
      let k = h.counts t in
      omega arith);
}

pub stolen : (r r' : Reach) (x : ℕ) → reach_view r' ≡ with_got (reach_view r) (x ∷ []) → (t : ℕ) → times t (reach_view r').got ≡ times t (reach_view r).got + times_found t (Some x)
stolen r r' x m t = let a : times t (reach_view r').got ≡ times t ((reach_view r).got ++ x ∷ []) = ap (λ y. times t y.got) m in let b = times-append t (reach_view r).got (x ∷ []) in omega arith

pub not-stolen : (r r' : Reach) → reach_view r' ≡ reach_view r → (t : ℕ) → times t (reach_view r').got ≡ times t (reach_view r).got + times_found t None
not-stolen r r' m t = let a : times t (reach_view r').got ≡ times t (reach_view r).got = ap (λ y. times t y.got) m in omega arith

-- a hand that found a number and noted it
pub found-keeps : (own own' : OwnDeque) (others others' : List Reach) (share taken : List ℕ) (given budget room room' x : ℕ) → IsHand own others share taken given budget room → Searched own own' others others' (Some x)
    → 0 < budget → room ≤ room' → IsHand own' others' share (taken ++ x ∷ []) given (budget - 1) room'
found-keeps own own' others others' share taken given budget room room' x h l b r = record {
  within = h.within;
  pushed = l.pushed ∙ h.pushed;
  counts = λ t. (let a = l.counts t in let k = h.counts t in let e = times-append t taken (x ∷ []) in omega arith);
  roomy = (let a = length-append taken (x ∷ []) in let k = h.roomy in omega arith);
}

-- a hand with a new reach more
pub accept-keeps : (own : OwnDeque) (others others' : List Reach) (r : Reach) (share taken : List ℕ) (given budget room : ℕ) → IsHand own others share taken given budget room → others' ≡ others ++ r ∷ [] → reach_view r ≡ deque_view 1 [] []
    → IsHand own others' share taken given budget room
accept-keeps own others others' r share taken given budget room h e m = record {
  within = h.within;
  pushed = h.pushed;
  counts = λ t. (
      let f : Reach → ℕ = λ y. times t (reach_view y).got in
      let a : sum_by f others' ≡ sum_by f (others ++ r ∷ []) = ap (sum_by f) e in
      let b = sum_by-append f others (r ∷ []) in
      let c : f r ≡ 0 = ap (λ y. times t y.got) m in
      let k = h.counts t in
      omega arith);
  roomy = h.roomy;
}

-- what a hand took from all deques is what its views have
pub views-count : (own : OwnDeque) (others : List Reach) (t n : ℕ) → got_in t own others ≡ n → n ≡ sum_by (times t) (taken_by own others)
views-count own others t n is =
    let f : Reach → List ℕ = λ (r : Reach). (reach_view r).got in
    let a = sum_by-cons (times t) (own_view own).got (map f others) in
    let b = sum-map (times t) f others in
    omega arith
