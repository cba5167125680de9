use Rattle.std.proofs.Common.{◌≡◌, true, false, Some, Contains, subst}
use Rattle.size_catalogue.specs.Catalogue.{Catalogue}
use Rattle.name_index.proofs.PlaceLaws.{no_place}
use Rattle.size_catalogue.proofs.sizes.Sizes.list.Goals as goal

pub returns-clause-none : goal.returns-clause-none
returns-clause-none c =
    subst (λ (catalogue : Catalogue). (true ≡ false → Contains catalogue.lists c.args.name.now → ⊥) × ((Contains catalogue.lists c.args.name.now → ⊥) → true ≡ false)) c.self.view_is
    (no_place (Some c.in_ok-list.list) c.args.name.now c.self.inside.lists c.in_ok-list.ensures.value)
