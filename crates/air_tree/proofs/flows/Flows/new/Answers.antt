use Rattle.std.proofs.Common.{◌≡◌, ℕ, List, None, ◌∙◌, sym, sum_by, slice_index}
use Rattle.duct_units.specs.declared.side.Side.TheVariants.{Supply, Return}
use Rattle.duct_definitions.specs.Tree.{roots}
use Rattle.duct_definitions.specs.Airflow.{Airflows}
use Rattle.air_tree.specs.CarriedFlows.{AreKnown}
use Rattle.air_tree.proofs.CarriedLaws.{leaf-refused, bound-refused, flows-accepted, known_broken}
use Rattle.air_tree.proofs.flows.Flows.new.Goals as goal

pub returns-in-Some : goal.returns-in-Some
returns-in-Some c =
    let air : Airflows = record { at_leaves = c.as_slice-leaf_flows.result.now; leaks = c.args.leaks.now } in
    rw (← c.as_slice-leaf_flows.ensures) (leaf-refused c.args.tree.now air c.in-Some.fault (sym c.broken_leaf.ensures ∙ c.in-Some.is))

pub broken_bound-requires : goal.broken_bound-requires
broken_bound-requires c = rw c.as_slice-2.ensures.value c.in_ok-carried.ensures.few

pub returns-in-Some-broken_bound : goal.returns-in-Some-broken_bound
returns-in-Some-broken_bound c =
    let air : Airflows = record { at_leaves = c.as_slice-leaf_flows.result.now; leaks = c.as_slice.result.now } in
    let are : AreKnown c.args.tree.now air 0 c.as_slice-2.result.now = rw c.as_slice-2.ensures.value c.in_ok-carried.ensures.known in
    rw (← c.as_slice-leaf_flows.ensures, ← c.as_slice.ensures)
    (bound-refused c.args.tree.now air c.as_slice-2.result.now c.in-Some-broken_bound.fault are
    (sym c.broken_leaf.ensures ∙ c.in_default.is) (sym c.broken_bound.ensures ∙ c.in-Some-broken_bound.is))

pub returns : goal.returns
returns c =
    let air : Airflows = record { at_leaves = c.as_slice-leaf_flows.result.now; leaks = c.as_slice.result.now } in
    let numbers : List ℕ = c.in_ok-carried.carried.items in
    let supply : c.sum_at.result ≡ sum_by (slice_index numbers) (roots c.args.tree.now Supply) =
    rw (← c.as_slice-3.ensures.value, ← c.roots.ensures.value) c.sum_at.ensures.value in
    let back : c.sum_at-2.result ≡ sum_by (slice_index numbers) (roots c.args.tree.now Return) =
    rw (← c.as_slice-4.ensures.value, ← c.roots-2.ensures.value) c.sum_at-2.ensures.value in
    let kept : known_broken numbers ≡ None =
    rw (← c.as_slice-2.ensures.value) (sym c.broken_bound.ensures ∙ c.in_default-broken_bound.is) in
    rw (← c.as_slice-leaf_flows.ensures, ← c.as_slice.ensures, c.from_vec.ensures)
    (flows-accepted c.args.tree.now air numbers c.sum_at.result c.sum_at-2.result c.in_ok-carried.ensures.known
    (sym c.broken_leaf.ensures ∙ c.in_default.is) kept supply back)
