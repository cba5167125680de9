use Rattle.std.proofs.Common.{subst}
use Rattle.pareto_front.specs.Front.{IsFront}
use Rattle.front_certificate.specs.Certificates.{front_at}
use Rattle.front_certificate.specs.Tests.{Stated}
use Rattle.front_certificate.proofs.Places.{front_at-rising}
use Rattle.front_certificate.proofs.stated.Stated.tell_fronts.Goals as goal

pub returns : goal.returns
returns c s g =
    let own = c.self.inside in
    subst (λ (v : Stated). IsFront (front_at v.net v.fronts s g)) c.self.view_is
    (front_at-rising own.net.now own.fronts.now c.self.invariant.rising s g)
