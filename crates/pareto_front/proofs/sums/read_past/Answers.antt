use Rattle.std.proofs.Common.{◌≡◌, ◌∙◌, ap, sym, Some, get_or, arith}
use Rattle.std.proofs.lemmas.Bool.Decides.{nat_tests}
use Rattle.pareto_front.proofs.ReadOn.{read_on, read_not_on}
use Rattle.pareto_front.proofs.Summed.{no_point, next_here}
use Rattle.pareto_front.proofs.sums.read_past.Goals as goal

pub returns-then-points-read-clause-past : goal.returns-then-points-read-clause-past
returns-then-points-read-clause-past c =
    let same : (get_or c.args.points.now c.args.read no_point).need ≡ c.args.need = (let test = c.if-points-read.true in grind (arith, nat_tests)) in
    read_on c.args.points.now c.args.need c.args.read c.requires.front c.requires.before
    (next_here c.args.points.now c.args.read no_point c.requires.more ∙ ap Some same)

pub returns-else-points-read-clause-past : goal.returns-else-points-read-clause-past
returns-else-points-read-clause-past c =
    read_not_on c.args.points.now c.args.need c.args.read c.requires.front c.requires.before
    (λ here. (let is : Some (get_or c.args.points.now c.args.read no_point).need ≡ Some c.args.need = sym (next_here c.args.points.now c.args.read no_point c.requires.more) ∙ here in
    let same : (get_or c.args.points.now c.args.read no_point).need ≡ c.args.need = cc in
    let test = c.if-points-read.false in grind (arith, nat_tests)))

pub returns-else-points-read-clause-onward : goal.returns-else-points-read-clause-onward
returns-else-points-read-clause-onward c here =
    let is : Some (get_or c.args.points.now c.args.read no_point).need ≡ Some c.args.need = sym (next_here c.args.points.now c.args.read no_point c.requires.more) ∙ here in
    let same : (get_or c.args.points.now c.args.read no_point).need ≡ c.args.need = cc in
    let test = c.if-points-read.false in grind (arith, nat_tests)
