use Rattle.std.proofs.Common.{◌≡◌, ◌+◌, None, Some, suc, take, ap, sym, ◌∙◌, subst, arith}
use Rattle.std.specs.Prelude.{slice_get}
use Rattle.std.proofs.lemmas.Option.{slice_get-get_or}
use Rattle.name_index.specs.Places.{place_of}
use Rattle.duct_cli.proofs.EditingLaws.{place-at, place-past}
use Rattle.duct_cli.proofs.editing.place_of.Goals as goal

pub returns-then-eq-clause-value : goal.returns-then-eq-clause-value
returns-then-eq-clause-value c =
    let at : slice_get c.args.names.now c.loop-i.i ≡ Some c.index-names-i.result =
    slice_get-get_or c.args.names.now c.loop-i.i c.index-names-i.result c.loop-i-test.true ∙ ap (λ x. Some x) (sym c.index-names-i.is) in
    sym (place-at c.args.name.now c.args.names.now c.loop-i.i c.index-names-i.result c.loop-i.invariant at (sym c.eq.ensures ∙ c.if-eq.true))

pub loop-i-preserved : goal.loop-i-preserved
loop-i-preserved c =
    let at : slice_get c.args.names.now c.loop-i.i ≡ Some c.index-names-i.result =
    slice_get-get_or c.args.names.now c.loop-i.i c.index-names-i.result c.loop-i-test.true ∙ ap (λ x. Some x) (sym c.index-names-i.is) in
    let next : suc c.loop-i.i ≡ c.loop-i.i + 1 = omega arith in
    subst (λ n. place_of c.args.name.now (take n c.args.names.now) ≡ None) next
    (place-past c.args.name.now c.args.names.now c.loop-i.i c.index-names-i.result c.loop-i.invariant at (sym c.eq.ensures ∙ c.if-eq.false))
