use Rattle.std.proofs.Common.{◌∙◌, ap, rules, map, subst, List, Option, ℕ}
use Rattle.duct_units.specs.Rules.{unless_refused, first_broken, Gives}
use Rattle.duct_units.specs.declared.side.Side.{Side}
use Rattle.duct_definitions.specs.Tree.{Tree, tree_rules}
use Rattle.section_tables.specs.Neighbours.{all_neighbour_rules, neighbour_and_tree_rules, neighbour_of, tree_of}
use Rattle.section_tables.proofs.SequenceLaws.{stops_from, stops_first, stops_gives, gives_later, given}
use Rattle.section_tables.proofs.tree.read_tree.Goals as goal

pub returns-in_err-neighbours : goal.returns-in_err-neighbours
returns-in_err-neighbours c =
    let sections = c.args.sections.now in
    let error = c.in_err-neighbours.field-0.0 in
    let stops = stops_from error (all_neighbour_rules sections) _ c.in_err-neighbours.ensures in
    let fails = stops_gives error (neighbour_and_tree_rules sections) (tree_of sections) (stops_first error (all_neighbour_rules sections) (tree_rules (tree_of sections)) stops) in
    search (rules, fails)

pub returns : goal.returns
returns c =
    let sections = c.args.sections.now in
    let read = given _ _ _ c.in_ok-neighbours.ensures in
    let to_tree : List (Option ℕ) → List Side → Tree = λ ns ss. record { neighbours = ns; sides = ss } in
    let same = ap (λ ns. to_tree ns c.in_ok-sides.sides) read.1 ∙ ap (to_tree (map (neighbour_of sections) sections)) c.in_ok-sides.ensures in
    gives_later c.new.result (all_neighbour_rules sections) (tree_rules (tree_of sections)) (tree_of sections) read.0
    (subst (λ (t : Tree). Gives c.new.result (unless_refused (first_broken (tree_rules t)) t)) same c.new.ensures)
