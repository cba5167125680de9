use Rattle.std.proofs.Common.{arith}
use Rattle.size_catalogue.specs.CatalogueIndex.{catalogue_of}
use Rattle.size_catalogue.proofs.CatalogueLaws.{few}
use Rattle.size_catalogue.proofs.sizes.Sizes.len.Goals as goal

pub overflow_cast-result : goal.overflow_cast-result
overflow_cast-result c = omega (arith, few (catalogue_of c.self.inside) c.self.invariant.is)

pub returns-clause-most : goal.returns-clause-most
returns-clause-most c = omega (arith, few (catalogue_of c.self.inside) c.self.invariant.is)
