use Rattle.std.proofs.Common.{◌≡◌, ℕ, arith, ap, ◌∙◌, refl, get_or}
use Rattle.pareto_front.specs.declared.point.Point.{Point}
use Rattle.pareto_front.proofs.PricesScanned.{IsScannedTo-start, IsScannedTo-skip, IsScannedTo-push, IsScannedTo-value, IsScannedTo-needs}
use Rattle.pareto_front.proofs.PricesTaken.{IsTakenTo-start, IsTakenTo-next, IsTakenTo-next_is, IsTakenTo-between, IsTakenTo-all}
use Rattle.pareto_front.proofs.least_prices.take_cheaper.Goals as goal
use Rattle.pareto_front.proofs.least_prices.take_cheaper.Goals.{then-cost-best+in_ok-push, else-cost-best}

pub loop-need-init : goal.loop-need-init
loop-need-init c =
    let kept = c.args.kept.now.items in
    (omega arith, IsTakenTo-start _ _ _ c.requires.between, IsScannedTo-start _ kept _ _ c.requires.empty c.requires.between)

pub loop-need-preserved : goal.loop-need-preserved
loop-need-preserved c =
    let old = c.args.prices.now in
    let n : ℕ = c.loop-need.need in
    let kept = c.loop-need.kept.items in
    let ends = c.requires.between.ends in
    let test = c.loop-need-test.true in
    let new = c.loop-need.prices in
    let scanned = c.loop-need.invariant.2 in
    let is : get_or new n 0 ≡ get_or old n 0 = IsTakenTo-next_is old new n c.loop-need.invariant.1 0 in
    let point : Point = record { need = n; cost = get_or new n 0 } in (
      omega arith,
      IsTakenTo-next old new n c.loop-need.invariant.1 (omega arith),
      elim c.if-cost-best.branch [
        | then-cost-best+in_ok-push w ↦
            rw (w.best-is, ap (λ v. v.items) w.kept-is ∙ w.in_ok-push.ensures.items)
            (IsScannedTo-push old kept n c.loop-need.best 0 scanned (omega arith) point refl is w.if-cost-best.true)
        | else-cost-best w ↦
            rw (w.best-is, ap (λ v. v.items) w.kept-is)
            (IsScannedTo-skip old kept n c.loop-need.best 0 scanned (omega arith) (let high = w.if-cost-best.false in omega arith))
      ],
    )

pub returns-in_err-push-clause-between : goal.returns-in_err-push-clause-between
returns-in_err-push-clause-between c =
    let ends = c.requires.between.ends in
    let test = c.loop-need-test.true in
    let next = IsTakenTo-next c.args.prices.now c.loop-need.prices c.loop-need.need c.loop-need.invariant.1 (omega arith) in
    IsTakenTo-between _ _ _ next c.args.from c.args.until (let past = c.loop-need.auto.need in omega arith) c.requires.between (omega arith)

pub returns-clause-value : goal.returns-clause-value
returns-clause-value c =
    IsScannedTo-value c.args.prices.now c.loop-need.kept.items c.loop-need.need c.loop-need.best c.args.from c.args.until c.loop-need.invariant.2
    c.requires.between (let end = c.loop-need-test.false in omega arith)

pub returns-clause-needs : goal.returns-clause-needs
returns-clause-needs c =
    IsScannedTo-needs _ _ c.loop-need.need _ _ _ c.loop-need.invariant.2 c.requires.between c.loop-need.invariant.0

pub returns-clause-absent : goal.returns-clause-absent
returns-clause-absent c =
    IsTakenTo-all c.args.prices.now c.loop-need.prices c.loop-need.need c.loop-need.invariant.1 c.args.from c.args.until c.requires.between
    (let end = c.loop-need-test.false in omega arith)

pub returns-clause-between : goal.returns-clause-between
returns-clause-between c =
    IsTakenTo-between _ _ _ c.loop-need.invariant.1 _ _ c.loop-need.auto.need c.requires.between c.loop-need.invariant.0
