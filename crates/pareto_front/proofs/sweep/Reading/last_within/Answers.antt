use Rattle.std.proofs.Common.{◌≡◌, ◌+◌, ◌∙◌, ap, sym, subst}
use Rattle.pareto_front.specs.declared.sweep.Reading.{Reading}
use Rattle.pareto_front.specs.Front.{cheapest}
use Rattle.pareto_front.specs.Sweep.{IsReadTo, cost_of}
use Rattle.pareto_front.proofs.ReadOn.{read_on, read_not_on, cost_read, same_need, other_need}
use Rattle.pareto_front.proofs.sweep.Reading.last_within.Goals as goal
use Rattle.pareto_front.proofs.sweep.Reading.last_within.Goals.{then-eq, else-eq}

pub returns-clause-read : goal.returns-clause-read
returns-clause-read c =
    let before = c.args.self.now in
    let need = c.args.need in
    let next = c.next_need.result in
    let IsRead : Reading → Type 0 = λ r. IsReadTo (need + 1) r.points.now r.read in
    elim c.if-eq.branch [
      | then-eq w ↦
          (let here = sym c.next_need.ensures ∙ same_need next need (sym w.if-eq.ensures) in
          subst IsRead (sym w.self-is) (read_on before.points.now need before.read c.requires.front c.requires.next here))
      | else-eq w ↦
          subst IsRead (sym w.self-is)
          (read_not_on before.points.now need before.read c.requires.front c.requires.next
          (λ here. other_need next need (sym w.if-eq.ensures) (c.next_need.ensures ∙ here)))
    ]

points_stay : (c : goal.After-copied) → c.if-eq.self.points.now ≡ c.args.self.now.points.now
points_stay c = elim c.if-eq.branch [
  | then-eq w ↦ ap (λ (r : Reading). r.points.now) w.self-is
  | else-eq w ↦ ap (λ (r : Reading). r.points.now) w.self-is
]

pub returns-clause-cost : goal.returns-clause-cost
returns-clause-cost c =
    ap cost_of (c.copied.ensures ∙ c.last.ensures.value)
    ∙ cost_read c.if-eq.self.points.now c.args.need c.if-eq.self.read (returns-clause-read c)
    ∙ ap (λ l. cheapest l c.args.need) (points_stay c)
