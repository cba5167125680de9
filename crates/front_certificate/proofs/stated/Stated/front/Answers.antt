use Rattle.std.proofs.Common.{◌≡◌, ◌+◌, arith, subst, get_or}
use Rattle.front_certificate.specs.Certificates.{front_at}
use Rattle.front_certificate.specs.Tests.{Stated}
use Rattle.front_certificate.proofs.Places.{place-seen}
use Rattle.front_certificate.proofs.stated.Stated.front.Goals as goal

pub bounds-self-inside-s : goal.bounds-self-inside-s
bounds-self-inside-s c =
    let own = c.self.inside in
    let at = place-seen own.net.now own.fronts.now own.firsts c.args.s c.args.g c.args.self.now c.self.view_is
    c.self.invariant c.requires.section c.requires.beside in
    omega arith

pub overflow_add-result : goal.overflow_add-result
overflow_add-result c =
    let own = c.self.inside in
    let at = place-seen own.net.now own.fronts.now own.firsts c.args.s c.args.g c.args.self.now c.self.view_is
    c.self.invariant c.requires.section c.requires.beside in
    omega arith

pub offset_bounds-self-inside-self-inside : goal.offset_bounds-self-inside-self-inside
offset_bounds-self-inside-self-inside c =
    let own = c.self.inside in
    let at = place-seen own.net.now own.fronts.now own.firsts c.args.s c.args.g c.args.self.now c.self.view_is
    c.self.invariant c.requires.section c.requires.beside in
    omega arith

pub bounds-self-inside-self-inside : goal.bounds-self-inside-self-inside
bounds-self-inside-self-inside c =
    let own = c.self.inside in
    let at = place-seen own.net.now own.fronts.now own.firsts c.args.s c.args.g c.args.self.now c.self.view_is
    c.self.invariant c.requires.section c.requires.beside in
    at.within

pub returns : goal.returns
returns c =
    let own = c.self.inside in
    let at = place-seen own.net.now own.fronts.now own.firsts c.args.s c.args.g c.args.self.now c.self.view_is
    c.self.invariant c.requires.section c.requires.beside in
    subst (λ (v : Stated). get_or own.fronts.now (get_or own.firsts c.args.s 0 + c.args.g) c.index-self-self.result
    ≡ front_at v.net v.fronts c.args.s c.args.g) c.self.view_is
    (at.read c.index-self-self.result)
