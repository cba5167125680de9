use Rattle.std.proofs.Common.{ℕ, ◌<◌, ◌∙◌, sym, subst, slice_index, rules}
use Rattle.std.specs.Prelude.{All}
use Rattle.std.proofs.lemmas.Fn.{always_returns_same}
use Rattle.duct_definitions.specs.Tree.{Tree, section_count}
use Rattle.tree_contract.proofs.Deepest.{deepest}
use Rattle.tree_contract.proofs.dealing.deepest_first.Goals as goal

pub returns-clause-deepest : goal.returns-clause-deepest
returns-clause-deepest c =
    let t = c.args.net.now.tree in
    let listed = c.as_slice-listed.result.now in
    let within : All (λ s. s < section_count t) c.in_ok-leaves.leaves.items =
    subst (All (λ s. s < section_count t)) (sym c.in_ok-leaves.ensures.items)
    (subst (λ (tree : Tree). All (λ s. s < section_count tree) c.leaves.result.now) c.tree.ensures.tree c.leaves.ensures.sections) in
    deepest t listed c.in_ok-leaves.leaves.items c.sort_by_key.new.self.items
    (c.as_slice-listed.ensures.value ∙ c.in_ok-depths.ensures) within c.sort_by_key.ensures.permutation
    (c.in_ok-sort_by_key.ensures.sorted (λ (s : ℕ). record { 0 = slice_index listed s })
    (always_returns_same _ _ _ (λ a r f k. search rules)))
