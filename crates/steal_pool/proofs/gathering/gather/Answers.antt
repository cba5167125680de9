use Rattle.std.proofs.Common.{◌≡◌, ◌+◌, ℕ, length, ap, ◌∙◌, arith, subst}
use Rattle.std.specs.List.{sum_by}
use Rattle.steal_pool.specs.Rule.{times}
use Rattle.steal_pool.specs.Hands.{HandView}
use Rattle.steal_pool.specs.Gathers.{IsParted, own_got, row_got}
use Rattle.steal_pool.proofs.Draining.{push_times}
use Rattle.steal_pool.proofs.Together.{gathered-parts, gathered-room, gathered-rows, gathered-all, gathered-sum}
use Rattle.steal_pool.proofs.gathering.gather.Goals as goal

pub absorb_all-requires : goal.absorb_all-requires
absorb_all-requires c =
    let p = c.in_ok-owns.field-0 in
    let parted = subst (λ hs. IsParted hs p.owns.items p.rows.items p.taken.items) c.into_vec.ensures c.in_ok-owns.ensures in
    gathered-rows c.args.hands p.owns.items p.rows.items p.taken.items c.requires.deal parted

pub drain_all-requires-clause-parts : goal.drain_all-requires-clause-parts
drain_all-requires-clause-parts c =
    let p = c.in_ok-owns.field-0 in
    let parted = subst (λ hs. IsParted hs p.owns.items p.rows.items p.taken.items) c.into_vec.ensures c.in_ok-owns.ensures in
    gathered-parts c.args.hands p.owns.items c.absorb_all.new.owns.items p.rows.items p.taken.items
    (λ t. sum_by (row_got t) p.rows.items) c.requires.deal parted c.absorb_all.ensures

pub drain_all-requires-clause-room : goal.drain_all-requires-clause-room
drain_all-requires-clause-room c =
    let p = c.in_ok-owns.field-0 in
    let parted = subst (λ hs. IsParted hs p.owns.items p.rows.items p.taken.items) c.into_vec.ensures c.in_ok-owns.ensures in
    let a = gathered-room c.args.hands p.owns.items c.absorb_all.new.owns.items p.rows.items p.taken.items _ _ parted c.absorb_all.ensures in
    let b = c.in_ok-left.ensures.exact in
    let d = c.in_ok-left.ensures.len in
    let e = c.in-Some.ensures in
    let f = ap (sum_by (λ (h : HandView). length h.fixed.share)) c.as_slice.ensures in
    omega arith

pub returns-clause-once : goal.returns-clause-once
returns-clause-once c =
    let p = c.in_ok-owns.field-0 in
    let parted = subst (λ hs. IsParted hs p.owns.items p.rows.items p.taken.items) c.into_vec.ensures c.in_ok-owns.ensures in
    let now = c.absorb_all.new.owns.items in
    let left = c.drain_all.new.left.items in
    let drained : (t : ℕ) → times t left + sum_by (own_got t) now ≡ sum_by (push_times t) now =
    (λ t. let a = c.drain_all.ensures t in
    let b : times t c.in_ok-left.left.items ≡ 0 = ap (times t) c.in_ok-left.ensures.items in
    omega arith) in
    λ tasks shares t.
    ap (λ l. times t l + times t c.from_vec-2.result) c.from_vec.ensures
    ∙ ap (λ l. times t p.taken.items + times t l) c.from_vec-2.ensures
    ∙ gathered-all c.args.hands p.owns.items now p.rows.items p.taken.items left parted c.absorb_all.ensures
    drained tasks shares t (gathered-sum c.args.hands tasks c.requires.some shares t)
