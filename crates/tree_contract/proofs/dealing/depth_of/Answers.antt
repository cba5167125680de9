use Rattle.std.proofs.Common.{ℕ, ◌+◌, ◌≤◌, ap, ◌∙◌, length, arith}
use Rattle.std.proofs.lemmas.List.FromFn.{length-map-range_with_len}
use Rattle.duct_definitions.specs.Tree.{section_count}
use Rattle.duct_definitions.proofs.TreeLaws.{few_sections}
use Rattle.duct_definitions.proofs.WayLaws.{way-short}
use Rattle.tree_contract.specs.Depths.{depth}
use Rattle.tree_contract.proofs.Deepest.{depth-read, depth-found}
use Rattle.tree_contract.proofs.dealing.depth_of.Goals as goal

pub bounds-before-n : goal.bounds-before-n
bounds-before-n c =
    let less = c.in-Some.ensures.earlier in
    let listed = ap length c.requires.before in
    let count = length-map-range_with_len (depth c.args.net.now.tree) 0 c.args.s in
    omega arith

pub overflow_add-result : goal.overflow_add-result
overflow_add-result c =
    let t = c.args.net.now.tree in
    let read = depth-read t c.args.before.now c.args.s c.in-Some.n 0 c.requires.before c.in-Some.ensures.earlier in
    let deep = depth-found t c.tree.result.now c.args.s c.in-Some.n c.neighbour.result c.network_is_valid.ensures.tree
    c.requires.section c.tree.ensures.tree c.neighbour.ensures.value c.in-Some.is in
    let short = way-short t c.args.s c.requires.section in
    let few : section_count t ≤ 500 = few_sections t c.network_is_valid.ensures.tree in
    omega arith

pub returns-in-Some : goal.returns-in-Some
returns-in-Some c =
    let t = c.args.net.now.tree in
    ap (λ (n : ℕ). n + 1)
    (depth-read t c.args.before.now c.args.s c.in-Some.n 0 c.requires.before c.in-Some.ensures.earlier)
    ∙ depth-found t c.tree.result.now c.args.s c.in-Some.n c.neighbour.result c.network_is_valid.ensures.tree
    c.requires.section c.tree.ensures.tree c.neighbour.ensures.value c.in-Some.is
