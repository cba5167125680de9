use Rattle.std.proofs.Common.{◌≡◌, true, false, Some, Contains, subst, arith, ◌∙◌, ap, length}
use Rattle.std.proofs.lemmas.List.{length-map}
use Rattle.size_catalogue.specs.declared.row.Size.{Size}
use Rattle.name_index.specs.Places.{place_of}
use Rattle.size_catalogue.specs.Catalogue.{Catalogue, names_of}
use Rattle.size_catalogue.specs.CatalogueIndex.{catalogue_of}
use Rattle.size_catalogue.proofs.CatalogueLaws.{few}
use Rattle.name_index.proofs.PlaceLaws.{no_place}
use Rattle.size_catalogue.proofs.sizes.Sizes.named.Goals as goal

pub overflow_cast-result : goal.overflow_cast-result
overflow_cast-result c = omega (arith, few (catalogue_of c.self.inside) c.self.invariant.is, c.in_ok-number.ensures.within, ap length c.self.invariant.names, length-map c.self.inside.sizes.items (λ (size : Size). size.name))

pub returns-clause-none : goal.returns-clause-none
returns-clause-none c =
    subst (λ (catalogue : Catalogue). (true ≡ false → Contains (names_of catalogue.sizes) c.args.name.now → ⊥) × ((Contains (names_of catalogue.sizes) c.args.name.now → ⊥) → true ≡ false)) c.self.view_is
    (no_place (Some c.in_ok-number.number) c.args.name.now (names_of c.self.inside.sizes.items) (c.in_ok-number.ensures.value ∙ ap (place_of c.args.name.now) c.self.invariant.names))
