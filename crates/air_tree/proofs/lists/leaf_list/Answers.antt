use Rattle.std.proofs.Common.{◌≡◌, [], length, List, ℕ, ap, ◌∙◌, arith}
use Rattle.std.proofs.lemmas.List.FromFn.{length-map-range_with_len}
use Rattle.std.specs.Prelude.{filter}
use Rattle.std.specs.List.{range_with_len}
use Rattle.duct_definitions.specs.Tree.{Tree, children, is_leaf}
use Rattle.air_tree.proofs.FilledLists.{chosen-yes, chosen-no, leaf-here}
use Rattle.air_tree.proofs.lists.leaf_list.Goals as goal
use Rattle.air_tree.proofs.lists.leaf_list.Goals.{then-is_childless+in_ok-push, else-is_childless}

pub overflow_cast-s : goal.overflow_cast-s
overflow_cast-s c =
    let nb = c.args.neighbours.now in
    let t : Tree = record { neighbours = nb; sides = [] } in
    let count : length c.args.child_lists.now ≡ length nb =
    ap (λ (all : List (List ℕ)). length all) c.requires.children ∙ length-map-range_with_len (children t) 0
    (length nb) in
    let few = c.requires.few in
    omega arith

pub loop-s-preserved : goal.loop-s-preserved
loop-s-preserved c =
    let nb = c.args.neighbours.now in
    let t : Tree = record { neighbours = nb; sides = [] } in
    let s : ℕ = c.loop-s.s in
    let count : length c.args.child_lists.now ≡ length nb =
    ap (λ (all : List (List ℕ)). length all) c.requires.children ∙ length-map-range_with_len (children t) 0
    (length nb) in
    let here : is_leaf t s ≡ c.is_childless.result =
    leaf-here t c.args.child_lists.now s c.is_childless.result c.requires.children (omega arith)
    c.is_childless.ensures in
    elim c.if-is_childless.branch [
      | then-is_childless+in_ok-push w ↦
          rw (w.leaves-is, w.in_ok-push.ensures.items)
          (chosen-yes (is_leaf t) s c.loop-s.leaves.items c.loop-s.invariant (here ∙ w.if-is_childless.true))
      | else-is_childless w ↦
          rw w.leaves-is (chosen-no (is_leaf t) s c.loop-s.leaves.items c.loop-s.invariant
          (here ∙ w.if-is_childless.false))
    ]

pub returns : goal.returns
returns c =
    let nb = c.args.neighbours.now in
    let t : Tree = record { neighbours = nb; sides = [] } in
    let count : length c.args.child_lists.now ≡ length nb =
    ap (λ (all : List (List ℕ)). length all) c.requires.children ∙ length-map-range_with_len (children t) 0
    (length nb) in
    let all : c.loop-s.s ≡ length nb = omega arith in
    c.from_vec.ensures ∙ c.loop-s.invariant ∙ ap (λ n. filter (is_leaf t) (range_with_len 0 n)) all
