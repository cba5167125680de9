use Rattle.std.proofs.Common.{◌≡◌, ◌∙◌, true, false, ℕ, List, Option, Some, option_map, ap, subst}
use Rattle.friction_table.specs.declared.row.FlowRate.{FlowRate}
use Rattle.friction_table.specs.Loss.{IsAboveAll, IsFrictionLoss, friction_loss, loss_over}
use Rattle.friction_table.proofs.LossLaws.{loss_at, table_at}
use Rattle.friction_table.proofs.friction.Friction.loss.Goals as goal

pub returns-clause-none : goal.returns-clause-none
returns-clause-none c =
    let here = table_at c.args.self.now c.self.inside.tables.items c.args.size c.index.result.now c.self.view_is c.requires.size c.index.ensures in
    subst (λ (rows : List FlowRate). (true ≡ false → IsAboveAll c.args.flow rows) × (IsAboveAll c.args.flow rows → true ≡ false)) here c.in_ok-rate.ensures.none

pub returns-clause-loss : goal.returns-clause-loss
returns-clause-loss c =
    let here = table_at c.args.self.now c.self.inside.tables.items c.args.size c.index.result.now c.self.view_is c.requires.size c.index.ensures in
    subst (λ (rows : List FlowRate). IsFrictionLoss rows c.args.flow c.args.length c.loss_over.result) here
    (loss_at c.index.result.now c.args.flow c.args.length c.in_ok-rate.rate c.loss_over.result c.in_ok-rate.ensures.value c.loss_over.ensures.least)

pub returns-clause-value : goal.returns-clause-value
returns-clause-value c =
    let here = table_at c.args.self.now c.self.inside.tables.items c.args.size c.index.result.now c.self.view_is c.requires.size c.index.ensures in
    ap (λ (n : ℕ). Some n) c.loss_over.ensures.value
    ∙ ap (option_map (loss_over c.args.length)) c.in_ok-rate.ensures.value
    ∙ ap (λ (rows : List FlowRate). friction_loss rows c.args.flow c.args.length) here

pub returns-in_err-rate-clause-value : goal.returns-in_err-rate-clause-value
returns-in_err-rate-clause-value c =
    let here = table_at c.args.self.now c.self.inside.tables.items c.args.size c.index.result.now c.self.view_is c.requires.size c.index.ensures in
    c.from_residual.ensures
    ∙ ap (option_map (loss_over c.args.length)) c.in_err-rate.ensures.value
    ∙ ap (λ (rows : List FlowRate). friction_loss rows c.args.flow c.args.length) here
