use Rattle.std.proofs.Common.{sym, arith}
use Rattle.std.proofs.lemmas.Bool.{ltb-true, lt-ltb}
use Rattle.front_certificate.proofs.PointReading.{front-behind, behind-front}
use Rattle.front_certificate.proofs.points.goes_on.Goals as goal

pub returns-then-last-point : goal.returns-then-last-point
returns-then-last-point c =
    let ps = c.args.points.now in
    let last = c.in-Some.last.now in
    let p = c.args.point.now in (
      λ yes. front-behind ps last p c.requires (sym c.in-Some.ensures.value) (c.if-last-point.true, ltb-true p.cost last.cost yes),
      λ front. lt-ltb p.cost last.cost (behind-front ps last p (sym c.in-Some.ensures.value) front).1,
    )

pub returns-else-last-point : goal.returns-else-last-point
returns-else-last-point c =
    let ps = c.args.points.now in
    let last = c.in-Some.last.now in
    let p = c.args.point.now in (
      λ yes. (let no = c.if-last-point.false in let less = ltb-true last.need p.need yes in absurd (omega arith)),
      λ front. lt-ltb last.need p.need (behind-front ps last p (sym c.in-Some.ensures.value) front).0,
    )
