use Rattle.std.proofs.Common.{◌≡◌, ◌<◌, length, slice_get, Some, subst, sym, arith}
use Rattle.size_catalogue.specs.Catalogue.{Catalogue, numbers_of}
use Rattle.size_catalogue.proofs.NumberLaws.{numbers_of-below}
use Rattle.size_catalogue.proofs.CatalogueLaws.{number_is}
use Rattle.size_catalogue.proofs.sizes.Sizes.number.Goals as goal

pub returns-clause-value : goal.returns-clause-value
returns-clause-value c =
    let there : c.args.list < length c.self.inside.lists = subst (λ (held : Catalogue). c.args.list < length held.lists) (sym c.self.view_is) c.requires.list in
    let inside : c.args.list < length c.self.inside.numbers.items = omega (arith, c.self.invariant.lists, c.self.inside.numbers.ok.0) in
    let place = subst (λ (held : Catalogue). c.args.k < length (numbers_of c.args.list held.sizes)) (sym c.self.view_is) c.requires.size in
    subst (λ (held : Catalogue). slice_get (numbers_of c.args.list held.sizes) c.args.k ≡ Some c.index-2.result.now) c.self.view_is
    (number_is c.self.inside.numbers.items c.args.list c.args.k c.index-2.result.now c.index.result.now (numbers_of c.args.list c.self.inside.sizes.items)
    inside c.index.ensures (c.self.invariant.numbers c.args.list) place c.index-2.ensures)

pub returns-clause-within : goal.returns-clause-within
returns-clause-within c = numbers_of-below c.args.list c.args.self.now.sizes c.args.k c.index-2.result.now (returns-clause-value c)
