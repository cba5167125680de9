use Rattle.std.proofs.Common.{◌≡◌, ℕ, List, ap, sym, ◌∙◌, subst}
use Rattle.duct_definitions.specs.Tree.{roots}
use Rattle.front_certificate.specs.Tests.{Stated, AreBeside}
use Rattle.front_certificate.proofs.TreeParts.{roots-beside}
use Rattle.front_certificate.proofs.stated.Stated.roots.Goals as goal

pub returns-clause-beside : goal.returns-clause-beside
returns-clause-beside c =
    let is = subst (λ (v : Stated). c.roots.result.now ≡ roots v.net.tree c.args.side) c.self.view_is
    (c.roots.ensures.value ∙ ap (λ t. roots t c.args.side) c.tree.ensures.tree) in
    subst (λ (l : List ℕ). AreBeside c.args.self.now.net 0 l) (sym is)
    (roots-beside c.args.self.now.net c.args.side)
