use Rattle.std.proofs.Common.{◌≡◌, ◌+◌, ◌<◌, length, sym, subst, arith, add-one}
use Rattle.steal_pool.proofs.Connecting.{Connecting, connecting-begins, connecting-next, connecting-skip, connecting-over, connecting-ends, same-length}
use Rattle.steal_pool.proofs.dealing.connect.Goals as goal
use Rattle.steal_pool.proofs.dealing.connect.Goals.{then-i-j+in_ok-hand_over, else-i-j}

pub loop-i-init : goal.loop-i-init
loop-i-init c = ((let a = c.args.hands.now.ok.0 in let b = c.len-count.ensures in omega arith), connecting-begins c.args.hands.now.items c.requires.alone)

pub hand_over-requires-clause-within : goal.hand_over-requires-clause-within
hand_over-requires-clause-within c =
    let a = same-length c.loop-j.hands.items c.args.hands.now.items c.loop-j.invariant.1.same in
    let b = c.loop-j.invariant.0 in
    let d = c.loop-j.hands.ok.0 in
    let e = c.loop-i-test.true in
    let f = c.loop-j-test.true in
    (omega arith, omega arith)

pub loop-j-preserved : goal.loop-j-preserved
loop-j-preserved c =
    let inv = c.loop-j.invariant in
    let i = c.loop-i.i in
    let j = c.loop-j.j in
    let old = c.args.hands.now.items in
    let small : j < 32 = (let a = c.loop-j-test.true in let b = c.requires.few in let d = c.len-count.ensures in omega arith) in (
      inv.0,
      elim c.if-i-j.branch [
        | then-i-j+in_ok-hand_over w ↦ subst (λ v. Connecting i (j + 1) old v.items) (sym w.hands-is)
            (subst (λ k. Connecting i k old w.hand_over.new.hands.items) (sym (add-one j)) (connecting-next i j old c.loop-j.hands.items w.hand_over.new.hands.items inv.1 w.if-i-j.true small w.in_ok-hand_over.ensures))
        | else-i-j w ↦ subst (λ v. Connecting i (j + 1) old v.items) (sym w.hands-is)
            (subst (λ k. Connecting i k old c.loop-j.hands.items) (sym (add-one j)) (connecting-skip i j old c.loop-j.hands.items inv.1 w.if-i-j.false))
      ],
    )

pub loop-i-preserved : goal.loop-i-preserved
loop-i-preserved c =
    let inv = c.loop-j.invariant in
    let i = c.loop-i.i in
    let old = c.args.hands.now.items in
    let end : length old ≡ c.loop-j.j = (let a = c.loop-j-test.false in let b = c.loop-j.auto.j-end in let d = inv.0 in omega arith) in
    (inv.0, subst (λ k. Connecting k 0 old c.loop-j.hands.items) (sym (add-one i)) (connecting-over i c.loop-j.j old c.loop-j.hands.items inv.1 end))

pub returns-clause-deal : goal.returns-clause-deal
returns-clause-deal c =
    let inv = c.loop-i.invariant in
    let old = c.args.hands.now.items in
    let end : length old ≡ c.loop-i.i = (let a = c.loop-i-test.false in let b = c.loop-i.auto.i-end in let d = inv.0 in omega arith) in
    connecting-ends c.loop-i.i old c.loop-i.hands.items inv.1 end
