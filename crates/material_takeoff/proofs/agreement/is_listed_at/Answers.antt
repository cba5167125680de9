use Rattle.material_takeoff.proofs.ListedAt.{listed_there, listed_nowhere, not_less}
use Rattle.material_takeoff.proofs.agreement.is_listed_at.Goals as goal

pub returns-then-place-sections : goal.returns-then-place-sections
returns-then-place-sections c =
    listed_there c.args.sections.now c.args.place c.index-sections-place.result c.args.name.now c.eq.result c.if-place-sections.true
    c.index-sections-place.is c.eq.ensures

pub returns-else-place-sections : goal.returns-else-place-sections
returns-else-place-sections c = (
  (λ there. absurd (not_less c.args.place _ there c.if-place-sections.false)),
  (λ there. absurd (listed_nowhere c.args.sections.now c.args.place c.args.name.now c.if-place-sections.false there)),
)
