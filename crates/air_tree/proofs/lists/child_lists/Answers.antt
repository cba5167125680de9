use Rattle.std.proofs.Common.{◌≡◌, ◌<◌, ◌+◌, ◌++◌, ◌∷◌, [], length, map, List, ℕ, Vec, Global, get_or, ap, ◌∙◌, sym, subst, arith}
use Rattle.std.proofs.lemmas.List.{length-map, map-set}
use Rattle.std.proofs.lemmas.List.FromFn.{length-map-range_with_len}
use Rattle.std.specs.Result.{IfOk}
use Rattle.air_tree.specs.TreeLists.{children_among}
use Rattle.air_tree.proofs.FilledLists.{AreFilled, stands_earlier, filled-at_fan, filled-push, filled-all, filled-none, read-map}
use Rattle.air_tree.proofs.lists.child_lists.Goals as goal
use Rattle.air_tree.proofs.lists.child_lists.Goals.{in-Some+in_ok-push, in_default}

abbrev items : Vec ℕ Global → List ℕ
items v = v.items

pub loop-s-init : goal.loop-s-init
loop-s-init c =
    let nb = c.args.neighbours.now in
    filled-none nb c.as_slice.result.now (map items c.in_ok-lists.lists.items)
    (ap (λ (counts : List ℕ). length counts) (c.as_slice.ensures.value ∙ c.in_ok-counts.ensures)
    ∙ length-map-range_with_len (λ s. length (children_among (length nb) nb s)) 0 (length nb))
    c.in_ok-lists.ensures

pub index_mut-requires : goal.index_mut-requires
index_mut-requires c =
    let nb = c.args.neighbours.now in
    let before : c.in-Some.n < c.loop-s.s = stands_earlier nb c.loop-s.s c.in-Some.n c.requires.earlier
    c.loop-s-test.true c.in-Some.is in
    let count : length c.loop-s.lists.items ≡ length nb = sym (length-map c.loop-s.lists.items items) ∙
    c.loop-s.invariant.count in
    omega (arith, c.loop-s.lists.ok.0)

pub loop-s-preserved : goal.loop-s-preserved
loop-s-preserved c =
    let nb = c.args.neighbours.now in
    let s : ℕ = c.loop-s.s in
    let lists : List (Vec ℕ Global) = c.loop-s.lists.items in
    elim c.match-neighbours-s.branch [
      | in-Some+in_ok-push w ↦
          let n : ℕ = w.in-Some.n in
          let before : n < s = stands_earlier nb s n c.requires.earlier c.loop-s-test.true w.in-Some.is in
          let count : length lists ≡ length nb = sym (length-map lists items) ∙ c.loop-s.invariant.count in
          let read : w.index_mut.result.now.items ≡ get_or (map items lists) n [] =
          read-map items lists n w.index_mut.result.now (omega arith) w.index_mut.ensures.value in
          let is : w.push.new.self.items ≡ children_among s nb n ++ s ∷ [] =
          w.in_ok-push.ensures.items ∙ ap (λ xs. xs ++ s ∷ []) (read ∙ c.loop-s.invariant.each n (omega arith)) in
          rw (w.lists-is) (subst (λ (xs : List (List ℕ)). AreFilled (λ children. children) [] (s + 1) nb xs)
          (sym (map-set items lists n w.push.new.self))
          (filled-push (λ children. children) [] s nb (map items lists) n w.push.new.self.items w.in-Some.is
          (omega arith) is c.loop-s.invariant))
      | in_default w ↦
          rw w.lists-is (filled-at_fan (λ children. children) [] s nb (map items lists) w.in_default.not-Some
          c.loop-s.invariant)
    ]

pub returns : goal.returns
returns c =
    let nb = c.args.neighbours.now in
    let all : c.loop-s.s ≡ length nb = omega arith in
    let are = filled-all (λ children. children) [] nb (map items c.loop-s.lists.items)
    (subst (λ (done : ℕ). AreFilled (λ children. children) [] done nb (map items c.loop-s.lists.items)) all
    c.loop-s.invariant) in
    subst (λ (xs : List (List ℕ)). IfOk c.as_lists.result (λ lists. lists ≡ xs)) are c.as_lists.ensures
