-- What the hands took and what is left are what was dealt.
use Rattle.std.proofs.Common.{◌≡◌, ℕ, ◌+◌, ◌*◌, ◌<◌, List, [], ◌∷◌, ◌++◌, length, get_or, map, take, refl, ap, sym, ◌∙◌, arith}
use Rattle.std.proofs.lemmas.List.{length-map, take_more}
use Rattle.std.proofs.lemmas.List.Sums.{sum_by-cons, sum_by-append}
use Rattle.std.specs.List.{sum_by}
use mathlib.Core.Option.{some}
use lib.ListN.{get_elem?}
use Rattle.crossbeam_deque.proofs.Lists.{at_map}
use Rattle.steal_pool.specs.declared.deque.OwnDeque.{OwnDeque}
use Rattle.steal_pool.specs.declared.parting.Row.{Row}
use Rattle.steal_pool.specs.Rule.{times, all_parts}
use Rattle.steal_pool.specs.Ends.{DequeId, own_id, reach_id}
use Rattle.steal_pool.specs.Hands.{Fixed, HandView, fixed_of}
use Rattle.steal_pool.specs.Deals.{skip, own_of, OfOneDeal, AreShares}
use Rattle.steal_pool.specs.Gathers.{own_got, own_pushed, own_parts, row_ids, row_parts, row_got, Absorbed, IsParted}
use Rattle.steal_pool.proofs.Sums.{sum-map, sum-same, sum-two}
use Rattle.steal_pool.proofs.Places.{at-unmap}
use Rattle.steal_pool.proofs.Draining.{push_times}
use Rattle.steal_pool.proofs.Shares.{fixeds-add}

-- all owners have all parts again
pub gathered-parts : (hands : List HandView) (owns now : List OwnDeque) (rows : List Row) (taken : List ℕ) (got : ℕ → ℕ) → OfOneDeal (map fixed_of hands) → IsParted hands owns rows taken → Absorbed owns now (sum_by row_parts rows) got
    → sum_by own_parts now ≡ all_parts * length now
gathered-parts hands owns now rows taken got deal parted absorbed =
    let a = deal.parts in
    let b = sum-map (λ (p : Fixed). p.parts + length p.reaches) fixed_of hands in
    let c = sum-two (λ (h : HandView). h.fixed.parts) (λ (h : HandView). length h.fixed.reaches) hands in
    let d : sum_by own_parts owns ≡ sum_by (λ (h : HandView). h.fixed.parts) hands = sum-same (λ (n : ℕ). n) own_parts (λ (h : HandView). h.fixed.parts) owns hands parted.parts in
    let e : sum_by (λ (r : Row). length (row_ids r)) rows ≡ sum_by (λ (h : HandView). length h.fixed.reaches) hands = sum-same (λ (l : List DequeId). length l) row_ids (λ (h : HandView). h.fixed.reaches) rows hands parted.reaches in
    let f : sum_by row_parts rows ≡ sum_by (λ (r : Row). length (row_ids r)) rows = lengths rows in
    let g = absorbed.parts in
    let h : length (map fixed_of hands) ≡ length now = length-map hands fixed_of ∙ sym (length-map hands (λ (h : HandView). h.fixed.own)) ∙ ap length (sym parted.deques) ∙ length-map owns own_id ∙ sym (length-map owns own_id) ∙ ap length (sym absorbed.deques) ∙ length-map now own_id in
    omega arith where
      lengths : (rows : List Row) → sum_by row_parts rows ≡ sum_by (λ (r : Row). length (row_ids r)) rows
      lengths [] = refl
      lengths (r ∷ rows) =
          let a = length-map r.reaches.items reach_id in
          let i = lengths rows in
          let b = sum_by-cons row_parts r rows in
          let d = sum_by-cons (λ (q : Row). length (row_ids q)) r rows in
          omega arith

-- where the rows lead
pub gathered-rows : (hands : List HandView) (owns : List OwnDeque) (rows : List Row) (taken : List ℕ) → OfOneDeal (map fixed_of hands) → IsParted hands owns rows taken
    → (k : ℕ) (ds : List DequeId) → get_elem? (map row_ids rows) k ≡ some ds → ds ≡ skip k (map own_id owns)
gathered-rows hands owns rows taken deal parted k ds e =
    let f = at-unmap (λ (h : HandView). h.fixed.reaches) hands k ds (ap (λ l. get_elem? l k) (sym parted.reaches) ∙ e) in
    let g = deal.reaches k f.0.fixed (at_map fixed_of hands k f.0 f.1) in
    sym f.2 ∙ g ∙ ap (skip k) (fuse hands ∙ sym parted.deques) where
      fuse : (hs : List HandView) → map own_of (map fixed_of hs) ≡ map (λ (h : HandView). h.fixed.own) hs
      fuse [] = refl
      fuse (h ∷ hs) = ap (λ l. h.fixed.own ∷ l) (fuse hs)

-- what was taken and what is left
pub gathered-all : (hands : List HandView) (owns now : List OwnDeque) (rows : List Row) (taken left : List ℕ) → IsParted hands owns rows taken → Absorbed owns now (sum_by row_parts rows) (λ t. sum_by (row_got t) rows)
    → ((t : ℕ) → times t left + sum_by (own_got t) now ≡ sum_by (push_times t) now)
    → (tasks : List ℕ) → AreShares tasks (map fixed_of hands) → (t : ℕ) → sum_by (λ (h : HandView). times t h.fixed.share) hands ≡ times t tasks → times t taken + times t left ≡ times t tasks
gathered-all hands owns now rows taken left parted absorbed drained tasks shares t sum =
    let a = parted.counts t in
    let b = absorbed.counts t in
    let c = drained t in
    let d : sum_by (push_times t) now ≡ sum_by (λ (h : HandView). times t h.fixed.share) hands = sum-same (times t) own_pushed (λ (h : HandView). h.fixed.share) now hands (absorbed.pushed ∙ parted.pushed) in
    omega arith

pub gathered-sum : (hands : List HandView) (tasks : List ℕ) → 0 < length hands → AreShares tasks (map fixed_of hands) → (t : ℕ) → sum_by (λ (h : HandView). times t h.fixed.share) hands ≡ times t tasks
gathered-sum hands tasks l shares t = sym (sum-map (λ (p : Fixed). times t p.share) fixed_of hands) ∙ fixeds-add t tasks (map fixed_of hands) (let a = length-map hands fixed_of in omega arith) shares

-- the room that was taken is enough
pub gathered-room : (hands : List HandView) (owns now : List OwnDeque) (rows : List Row) (taken : List ℕ) (more : ℕ) (got : ℕ → ℕ) → IsParted hands owns rows taken → Absorbed owns now more got
    → sum_by (λ (o : OwnDeque). length (own_pushed o)) now ≡ sum_by (λ (h : HandView). length h.fixed.share) hands
gathered-room hands owns now rows taken more got parted absorbed = sum-same (λ (l : List ℕ). length l) own_pushed (λ (h : HandView). h.fixed.share) now hands (absorbed.pushed ∙ parted.pushed)

pub room-more : (hands : List HandView) (k old new : ℕ) (h : HandView) (share : List ℕ) → k < length hands → h ≡ get_or hands k h → old ≡ sum_by (λ (h : HandView). length h.fixed.share) (take k hands) → share ≡ h.fixed.share → new ≡ old + length share
    → new ≡ sum_by (λ (h : HandView). length h.fixed.share) (take (k + 1) hands)
room-more hands k old new h share l is sum of_h more =
    let f : HandView → ℕ = λ (h : HandView). length h.fixed.share in
    let a : sum_by f (take (k + 1) hands) ≡ sum_by f (take k hands ++ h ∷ []) = ap (sum_by f) (take_more hands k h l ∙ ap (λ x. take k hands ++ x ∷ []) (sym is)) in
    let b = sum_by-append f (take k hands) (h ∷ []) in
    let c : length share ≡ length h.fixed.share = ap length of_h in
    omega arith
