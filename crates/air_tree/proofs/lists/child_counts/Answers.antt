use Rattle.std.proofs.Common.{◌≡◌, ◌<◌, ◌+◌, length, ℕ, subst, arith}
use Rattle.std.proofs.lemmas.List.{get_or_read, length_push}
use Rattle.air_tree.specs.TreeLists.{children_among}
use Rattle.air_tree.proofs.FilledLists.{AreFilled, stands_earlier, filled-at_fan, filled-push, filled-all, children_among-few}
use Rattle.air_tree.proofs.lists.child_counts.Goals as goal
use Rattle.air_tree.proofs.lists.child_counts.Goals.{in-Some, in_default}

pub overflow_add-index_mut : goal.overflow_add-index_mut
overflow_add-index_mut c =
    let nb = c.args.neighbours.now in
    let n : ℕ = c.in-Some.n in
    let before : n < c.loop-s.s = stands_earlier nb c.loop-s.s n c.requires.earlier c.loop-s-test.true c.in-Some.is in
    let count = c.loop-s.invariant.count in
    let read = get_or_read c.loop-s.counts.items n c.index_mut.result.now (omega arith) c.index_mut.ensures.value 0 in
    let is = c.loop-s.invariant.each n (omega arith) in
    let few = children_among-few c.loop-s.s nb n in
    omega arith

pub loop-s-preserved : goal.loop-s-preserved
loop-s-preserved c =
    let nb = c.args.neighbours.now in
    let s : ℕ = c.loop-s.s in
    elim c.match-neighbours-s.branch [
      | in-Some w ↦
          let n : ℕ = w.in-Some.n in
          let before : n < s = stands_earlier nb s n c.requires.earlier c.loop-s-test.true w.in-Some.is in
          let count = c.loop-s.invariant.count in
          let read = get_or_read c.loop-s.counts.items n w.index_mut.result.now (omega arith)
          w.index_mut.ensures.value 0 in
          let is = c.loop-s.invariant.each n (omega arith) in
          let long = length_push (children_among s nb n) s in
          rw w.counts-is (filled-push (λ children. length children) 0 s nb c.loop-s.counts.items n
          (w.index_mut.result.now + 1)
          w.in-Some.is (omega arith) (omega arith) c.loop-s.invariant)
      | in_default w ↦
          rw w.counts-is (filled-at_fan (λ children. length children) 0 s nb c.loop-s.counts.items
          w.in_default.not-Some c.loop-s.invariant)
    ]

pub returns : goal.returns
returns c =
    let nb = c.args.neighbours.now in
    let all : c.loop-s.s ≡ length nb = omega arith in
    filled-all (λ children. length children) 0 nb c.loop-s.counts.items
    (subst (λ (done : ℕ). AreFilled (λ children. length children) 0 done nb c.loop-s.counts.items) all
    c.loop-s.invariant)
