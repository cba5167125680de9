use Rattle.std.proofs.Common.{◌≡◌, ℕ, ◌≤◌, ◌++◌, ap, sym, ◌∙◌, List, map}
use Rattle.std.proofs.lemmas.Result.{IfOk-weaker}
use Rattle.duct_units.specs.Prices.{lesser}
use Rattle.pareto_front.specs.declared.point.Point.{Point}
use Rattle.pareto_front.specs.Front.{cheapest, moved_by, shifted}
use Rattle.pareto_front.specs.LaidPoints.{least_among}
use Rattle.pareto_front.specs.LeastPrices.{points_from}
use Rattle.pareto_front.specs.Laid.{points_of}
use Rattle.pareto_front.proofs.LeastAmong.{least_among-append, least_among-shifted}
use Rattle.pareto_front.proofs.laid_points.lay_front.Goals as goal

pub returns-in-Few-clause-least : goal.returns-in-Few-clause-least
returns-in-Few-clause-least c =
    let part : List Point = c.points_within-points.result.now in
    let moved : List Point = map (moved_by c.args.loss c.args.price) part in
    let old : List Point = c.in-Few.laid.items in
    let (enough, room) = c.in-Some.ensures in
    IfOk-weaker c.push_moved.result (λ _. c.push_moved.new.all.items ≡ old ++ moved)
    (λ _. (budget : ℕ) → budget ≤ c.args.cap → least_among c.push_moved.new.all.items budget
    ≡ lesser (least_among (points_of c.args.laid.now) budget) (shifted c.args.front.now c.args.loss c.args.price budget))
    (λ _ is budget within.
    ap (λ (l : List Point). least_among l budget) is
    ∙ least_among-append old moved budget
    ∙ ap (lesser (least_among old budget))
    (least_among-shifted c.args.loss c.args.price c.args.front.now part c.args.cap c.in-Some.room enough room c.points_within-points.ensures.front
    (λ b low. c.points_within-points.ensures.prices b low ∙ ap (λ (l : List Point). cheapest l b) c.points.ensures.value) budget within)
    ∙ ap (λ l. lesser (least_among (points_of l) budget) (shifted c.args.front.now c.args.loss c.args.price budget)) (sym c.in-Few.is))
    c.push_moved.ensures.items

pub returns-in-Many-clause-least : goal.returns-in-Many-clause-least
returns-in-Many-clause-least c budget within =
    let part : List Point = c.points_within-points.result.now in
    let (enough, room) = c.in-Some.ensures in
    let old : List Point = points_from 0 c.in-Many.prices in
    c.lay.ensures.least budget
    ∙ ap (lesser (least_among old budget))
    (least_among-shifted c.args.loss c.args.price c.args.front.now part c.args.cap c.in-Some.room enough room c.points_within-points.ensures.front
    (λ b low. c.points_within-points.ensures.prices b low ∙ ap (λ (l : List Point). cheapest l b) c.points.ensures.value) budget within)
    ∙ ap (λ l. lesser (least_among (points_of l) budget) (shifted c.args.front.now c.args.loss c.args.price budget)) (sym c.in-Many.is)
