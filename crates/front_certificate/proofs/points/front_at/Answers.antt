use Rattle.std.proofs.Common.{◌≡◌, ℕ, List, [], ◌∷◌, ◌++◌, sym, subst, ◌∙◌, refl}
use Rattle.std.proofs.lemmas.Bool.{false≢true}
use Rattle.pareto_front.specs.declared.point.Point.{Point}
use Rattle.pareto_front.specs.Front.{IsFront}
use Rattle.front_certificate.specs.Reading.{IsFrontAt}
use Rattle.front_certificate.proofs.PointReading.{IsSoFar, so_far-start, so_far-next, not-on, no-point, front-from, line-is}
use Rattle.front_certificate.proofs.points.front_at.Goals as goal

pub returns-in_default : goal.returns-in_default
returns-in_default c ps more at = c.in_default.ensures.none _ (at.spelled ∙ line-is ps more)

pub loop-point-init : goal.loop-point-init
loop-point-init c =
    subst (λ (l : List Point). IsSoFar c.args.bytes.now l c.in-Some.rest.now) (sym c.new-points.ensures.items)
    (so_far-start c.args.bytes.now c.in-Some.rest.now c.in-Some.ensures.some)

pub returns-then-not-goes_on : goal.returns-then-not-goes_on
returns-then-not-goes_on c =
    not-on c.args.bytes.now c.loop-point.points.items c.loop-point.rest.now c.in-Some-point_at.point c.in-Some-point_at.after.now
    c.loop-point.invariant c.in-Some-point_at.ensures.only.0 c.in-Some-point_at.ensures.only.1
    (λ front. false≢true (c.if-not-goes_on.ensures.1
    (subst (λ (l : List Point). IsFront (l ++ c.in-Some-point_at.point ∷ [])) (sym c.deref.ensures.value) front)))

pub loop-point-preserved : goal.loop-point-preserved
loop-point-preserved c =
    subst (λ (l : List Point). IsSoFar c.args.bytes.now l c.in-Some-point_at.after.now) (sym c.in_ok-push.ensures.items)
    (so_far-next c.args.bytes.now c.loop-point.points.items c.loop-point.rest.now c.in-Some-point_at.point
    c.in-Some-point_at.after.now c.loop-point.invariant c.in-Some-point_at.ensures.only.0 c.in-Some-point_at.ensures.only.1
    (subst (λ (l : List Point). IsFront (l ++ c.in-Some-point_at.point ∷ [])) c.deref.ensures.value
    (c.if-not-goes_on.ensures.0 refl)))

pub returns-in-Some-behind : goal.returns-in-Some-behind
returns-in-Some-behind c =
    let bytes = c.args.bytes.now in
    let points = c.loop-point.points.items in
    let rest = c.loop-point.rest.now in
    let after = c.in-Some-behind.rest.now in
    let is = c.from_points.ensures ∙ c.from_vec.ensures in
    let ends = c.in-Some-behind.ensures.some in
    subst (λ (l : List Point). IsFrontAt bytes l after
    × ((x : List Point) (more : List ℕ) → IsFrontAt bytes x more → (x ≡ l) × (more ≡ after))) (sym is) (
      front-from bytes points rest after c.loop-point.invariant ends,
      λ ps more at.
          let found = no-point bytes points rest c.loop-point.invariant c.in_default-point_at.ensures.only ps more at in
          (found.0, (let same : 10 ∷ more ≡ 10 ∷ after = sym found.1 ∙ ends in cc same)),
    )

pub returns : goal.returns
returns c ps more at =
    let found = no-point c.args.bytes.now c.loop-point.points.items c.loop-point.rest.now c.loop-point.invariant
    c.in_default-point_at.ensures.only ps more at in
    c.in-None.ensures.none more found.1
