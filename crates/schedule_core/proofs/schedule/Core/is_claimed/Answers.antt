use Rattle.std.proofs.Common.{ap, subst, sym, ◌∙◌, arith}
use Rattle.std.proofs.lemmas.List.{get_or_read}
use Rattle.std.specs.Prelude.{◌==◌}
use Rattle.schedule_core.specs.Schedule.{is_claimed}
use Rattle.schedule_core.specs.CoreData.{CoreData}
use Rattle.schedule_core.specs.CoreFields.{IsCoreOf}
use Rattle.schedule_core.specs.CoreInside.{data_of}
use Rattle.schedule_core.proofs.Steps.{core_claimed}
use Rattle.schedule_core.proofs.schedule.Core.is_claimed.Goals as goal

pub returns-then-s-len : goal.returns-then-s-len
returns-then-s-len c =
    let own = subst (IsCoreOf c.args.tree.now) (sym c.self.view_is) c.requires.own in
    let count = own.numbers.count_is in
    let within = c.if-s-len.true in
    let is = c.len.ensures.value in
    let read = get_or_read c.self.inside.numbers.items c.args.s c.index.result.now (omega arith) c.index.ensures 0 in
    ap (λ n. n == 0) read ∙ core_claimed c.args.tree.now (data_of c.self.inside) c.args.s own (omega arith)
    ∙ ap (λ (core : CoreData). is_claimed c.args.tree.now core.state c.args.s) c.self.view_is
