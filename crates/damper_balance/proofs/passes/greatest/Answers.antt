use Rattle.std.proofs.Common.{ℕ, List, ap, ◌∙◌, arith}
use Rattle.std.proofs.lemmas.List.{take_all}
use Rattle.std.specs.Prelude.{fold}
use Rattle.damper_balance.proofs.NumberLists.{greater, is_of, greatest_of_side}
use Rattle.damper_balance.proofs.passes.greatest.Goals as goal

pub returns : goal.returns
returns c =
    let t = c.args.tree.now in
    let step : ℕ → ℕ → ℕ = greater (is_of t c.args.side) c.args.numbers.now in
    c.loop-leaf.invariant
    ∙ ap (λ (ss : List ℕ). fold step 0 ss) (take_all c.loop-leaf.leaf-index c.leaves-leaf-items.result.now
    (omega arith) ∙ c.leaves-leaf-items.ensures.value)
    ∙ greatest_of_side t c.args.side c.args.numbers.now
