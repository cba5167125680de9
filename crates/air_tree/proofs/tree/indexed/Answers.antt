use Rattle.std.proofs.Common.{ℕ, List, [], Option, length, map, ap, ◌∙◌, sym, subst}
use Rattle.std.specs.List.{range_with_len}
use Rattle.duct_units.specs.declared.side.Side.{Side}
use Rattle.duct_units.specs.declared.side.Side.TheVariants.{Supply, Return}
use Rattle.duct_definitions.specs.Tree.{Tree, all_leaves, roots}
use Rattle.duct_definitions.proofs.TreeLaws.{neighbour_earlier}
use Rattle.air_tree.specs.TreeLists.{StandEarlier, children_among}
use Rattle.air_tree.proofs.tree.indexed.Goals as goal

pub child_lists-requires-clause-earlier : goal.child_lists-requires-clause-earlier
child_lists-requires-clause-earlier c =
    let t : Tree = record { neighbours = c.args.neighbours; sides = c.args.sides } in
    subst (λ (all : List (Option ℕ)). StandEarlier all) (sym c.as_slice.ensures)
    (λ s within. neighbour_earlier t s c.requires within)

pub invariant_of-result : goal.invariant_of-result
invariant_of-result c = record {
  tree = c.requires;
  children =
      c.in_ok-child_lists.ensures
      ∙ ap (λ (all : List (Option ℕ)). map (children_among (length all) all) (range_with_len 0 (length all)))
      c.as_slice.ensures;
  leaves =
      c.in_ok-leaf_list.ensures
      ∙ ap (λ (all : List (Option ℕ)). all_leaves (record { neighbours = all; sides = [] })) c.as_slice-2.ensures;
  supply =
      c.in_ok-supply_roots.ensures
      ∙ ap (λ (all : List (Option ℕ)). roots (record { neighbours = all; sides = c.as_slice-5.result.now }) Supply)
      c.as_slice-4.ensures
      ∙ ap (λ (xs : List Side). roots (record { neighbours = c.args.neighbours; sides = xs }) Supply)
      c.as_slice-5.ensures;
  back =
      c.in_ok-return_roots.ensures
      ∙ ap (λ (all : List (Option ℕ)). roots (record { neighbours = all; sides = c.as_slice-7.result.now }) Return)
      c.as_slice-6.ensures
      ∙ ap (λ (xs : List Side). roots (record { neighbours = c.args.neighbours; sides = xs }) Return)
      c.as_slice-7.ensures;
}
