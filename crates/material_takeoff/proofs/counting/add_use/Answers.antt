use Rattle.std.proofs.Common.{◌≡◌, ap, ◌∙◌, sym, Some, None}
use Rattle.name_index.specs.Places.{place_of}
use Rattle.material_takeoff.proofs.WithUse.{sizes, with_use-written, sizes-with_use, with_use-new}
use Rattle.material_takeoff.proofs.counting.add_use.Goals as goal

pub returns-in-Some-clause-names : goal.returns-in-Some-clause-names
returns-in-Some-clause-names c =
    let us = c.args.uses.now.items in
    let more = c.args.more.now in
    let there : place_of more.name (sizes us) ≡ Some c.in-Some.place = ap (place_of more.name) (sym c.requires.names) ∙ sym c.in-Some.ensures.value in
    c.requires.names ∙ sym (sizes-with_use us more c.in-Some.place there)
    ∙ ap sizes (sym (with_use-written us more c.index.result.now c.together-taken.result c.in-Some.place there c.index.ensures c.together-taken.ensures))

pub returns-in-Some-clause-uses : goal.returns-in-Some-clause-uses
returns-in-Some-clause-uses c =
    let us = c.args.uses.now.items in
    let more = c.args.more.now in
    let there : place_of more.name (sizes us) ≡ Some c.in-Some.place = ap (place_of more.name) (sym c.requires.names) ∙ sym c.in-Some.ensures.value in
    with_use-written us more c.index.result.now c.together-taken.result c.in-Some.place there c.index.ensures c.together-taken.ensures

pub returns-in_ok-push-in-None-clause-uses : goal.returns-in_ok-push-in-None-clause-uses
returns-in_ok-push-in-None-clause-uses c =
    let us = c.args.uses.now.items in
    let more = c.args.more.now in
    let none : place_of more.name (sizes us) ≡ None = ap (place_of more.name) (sym c.requires.names) ∙ sym c.in-None.ensures.value in
    c.in_ok-push-in-None.ensures.items ∙ sym (with_use-new us more none)
