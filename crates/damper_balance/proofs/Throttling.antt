-- Slacks and dampers by heads and path losses: no neighbour has more slack, and what a slack is above its neighbour's
-- is the damper.
use Rattle.std.proofs.Common.{◌≡◌, ℕ, ◌-◌, ◌<◌, ◌≤◌, List, ap, ◌∙◌, arith}
use Rattle.std.specs.Prelude.{slice_index}
use Rattle.duct_definitions.specs.Tree.{Tree, IsTree, section_count, neighbour, at_neighbour}
use Rattle.duct_definitions.proofs.TreeLaws.{earlier}
use Rattle.damper_balance.specs.declared.passes.Heads.{Heads}
use Rattle.damper_balance.specs.SectionNumbers.{ListsEach, slack_by, damper_by}
use Rattle.damper_balance.proofs.NumberLists.{same_beside}
use Rattle.damper_balance.proofs.PassLemmas.{left_in, less_beside}
use Rattle.damper_balance.proofs.Slacks.{least_left-beside}

slack_beside_is : (t : Tree) (heads : Heads) (losses slacks : List ℕ) (s : ℕ) → IsTree t
    → ListsEach t (slack_by t heads losses) slacks → s < section_count t
    → at_neighbour (slice_index slacks) (neighbour t s) ≡ at_neighbour (slack_by t heads losses) (neighbour t s)
slack_beside_is t heads losses slacks s tree each within =
    same_beside (slice_index slacks) (slack_by t heads losses) (neighbour t s)
    (λ n next. let low = earlier t s n tree within next in each.each n (omega arith))

-- no neighbour has more slack
pub slacks_fit : (t : Tree) (heads : Heads) (losses slacks : List ℕ) (s : ℕ) → IsTree t
    → ListsEach t (slack_by t heads losses) slacks → s < section_count t
    → at_neighbour (slice_index slacks) (neighbour t s) ≤ slice_index slacks s
slacks_fit t heads losses slacks s tree each within =
    let own = each.each s within in
    let beside = slack_beside_is t heads losses slacks s tree each within in
    let below = least_left-beside t (left_in heads losses) s tree within in
    omega arith

-- what a slack is above its neighbour's is the damper
pub throttled : (t : Tree) (heads : Heads) (losses slacks found : List ℕ) → IsTree t
    → ListsEach t (slack_by t heads losses) slacks → ListsEach t (less_beside t slacks) found
    → ListsEach t (damper_by t heads losses) found
throttled t heads losses slacks found tree each less = record {
  count = less.count;
  each = λ s within.
      less.each s within
      ∙ ap (λ (n : ℕ). n - at_neighbour (slice_index slacks) (neighbour t s)) (each.each s within)
      ∙ ap (λ (n : ℕ). slack_by t heads losses s - n) (slack_beside_is t heads losses slacks s tree each within);
}
