use Rattle.std.proofs.Common.{◌≡◌, ◌∷◌, List, length, ap, sym, ◌∙◌, arith, subst}
use Rattle.std.specs.Prelude.{All}
use Rattle.child_counter.specs.Public.{PassData, IsNew}
use Rattle.room_tests.proofs.counters.workers.Goals as goal

pub idle-requires-2 : goal.idle-requires-2
idle-requires-2 c =
    let a : PassData = c.in-Some-Some.a in
    let first = c.in-Some-Some.ensures.items in
    let second = c.in-Some-Some.ensures'.items in
    let list = sym (c.into_iter-each.ensures.rest ∙ c.into_vec.ensures) ∙ first ∙ ap (λ (l : List PassData). a ∷ l) second in
    (subst (All (IsNew c.args.counters.now)) list c.requires) 1 c.in-Some-Some.b (omega arith)
