use Rattle.std.proofs.Common.{◌≡◌, ℕ, List, ap, sym, ◌∙◌, subst}
use Rattle.duct_definitions.specs.Tree.{children}
use Rattle.front_certificate.specs.Tests.{Stated, AreBeside}
use Rattle.front_certificate.proofs.TreeParts.{children-beside}
use Rattle.front_certificate.proofs.stated.Stated.children.Goals as goal

pub returns-clause-beside : goal.returns-clause-beside
returns-clause-beside c k size =
    let is = subst (λ (v : Stated). c.children.result.now ≡ children v.net.tree c.args.s) c.self.view_is
    (c.children.ensures.value ∙ ap (λ t. children t c.args.s) c.tree.ensures.tree) in
    subst (λ (l : List ℕ). AreBeside c.args.self.now.net k l) (sym is)
    (children-beside c.args.self.now.net c.args.s k size)
