use Rattle.std.proofs.Common.{◌≡◌, ◌<◌, ◌-◌, ◌+◌, ℕ, List, None, true, set, ap, ◌∙◌, sym, arith}
use Rattle.std.specs.Prelude.{slice_index}
use Rattle.duct_units.specs.declared.side.Side.{Side}
use Rattle.duct_definitions.specs.Tree.{section_count, children, is_leaf}
use Rattle.damper_balance.specs.SectionNumbers.{least_at, head_on, slack_by}
use Rattle.damper_balance.proofs.NumberLists.{written-down}
use Rattle.damper_balance.proofs.PassLemmas.{AreSlacksFrom, least_none, least_some, leaf_fits, slack_of_leaf}
use Rattle.damper_balance.proofs.passes.slacks.Goals as goal
use Rattle.damper_balance.proofs.passes.slacks.Goals.{After-least_number, in-Some, in-None}

within : (c : After-least_number) → c.loop-s.s - 1 < section_count c.args.tree.now
within c = omega arith

next : (c : After-least_number) → c.loop-s.s ≡ (c.loop-s.s - 1) + 1
next c = omega arith

least_is : (c : After-least_number)
    → c.least_number.result ≡ least_at c.loop-s.numbers (children c.args.tree.now (c.loop-s.s - 1))
least_is c =
    c.least_number.ensures ∙ ap (λ (cs : List ℕ). least_at c.loop-s.numbers cs) c.children.ensures.value

leaf_where_none : (c : After-least_number) → c.least_number.result ≡ None
    → is_leaf c.args.tree.now (c.loop-s.s - 1) ≡ true
leaf_where_none c none =
    least_none c.args.tree.now (c.loop-s.s - 1) c.loop-s.numbers (within c) (sym none ∙ least_is c)

slack_written : (c : After-least_number) (number : ℕ)
    → number ≡ slack_by c.args.tree.now c.args.heads c.args.numbers.now (c.loop-s.s - 1)
    → AreSlacksFrom c.args.tree.now c.args.heads c.args.numbers.now (c.loop-s.s - 1)
    (set c.loop-s.numbers (c.loop-s.s - 1) number)
slack_written c number is =
    written-down c.args.tree.now (λ x. slice_index c.args.numbers.now x)
    (slack_by c.args.tree.now c.args.heads c.args.numbers.now) c.loop-s.s (c.loop-s.s - 1) c.loop-s.numbers number
    (within c) (next c) c.loop-s.invariant is

pub overflow_sub-numbers : goal.overflow_sub-numbers
overflow_sub-numbers c =
    let before = (goal.at.overflow_sub-numbers c).After-least_number in
    leaf_fits c.args.tree.now c.args.heads c.args.numbers.now c.loop-s.s (c.loop-s.s - 1) c.loop-s.numbers c.on.result
    (within before) (next before) c.loop-s.invariant
    (c.requires.fits (c.loop-s.s - 1) (leaf_where_none before c.in-None.is))
    (c.on.ensures ∙ ap (λ (x : Side). head_on c.args.heads x) c.side.ensures)

pub loop-s-preserved : goal.loop-s-preserved
loop-s-preserved c =
    let before = (goal.at.loop-s-preserved c).After-least_number in
    slack_written before c.match-least_number.numbers (elim c.match-least_number.branch [
      | in-Some w ↦
          w.numbers-is
          ∙ least_some c.args.tree.now c.args.heads c.args.numbers.now c.loop-s.s (c.loop-s.s - 1) c.loop-s.numbers
          w.in-Some.least c.len-s.ensures.tree (next before) c.loop-s.invariant (sym w.in-Some.is ∙ least_is before)
      | in-None w ↦
          w.numbers-is
          ∙ slack_of_leaf c.args.tree.now c.args.heads c.args.numbers.now c.loop-s.s (c.loop-s.s - 1) c.loop-s.numbers
          w.on.result c.len-s.ensures.tree (within before) (next before) c.loop-s.invariant
          (leaf_where_none before w.in-None.is)
          (w.on.ensures ∙ ap (λ (x : Side). head_on c.args.heads x) w.side.ensures)
    ])
