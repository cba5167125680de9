use Rattle.std.proofs.Common.{◌≡◌, ◌<◌, length, take, All}
use Rattle.size_catalogue.specs.Catalogue.{numbers_of}
use Rattle.net_build.proofs.catalogues.numbers_of.Given as goal

abbrev pub invariant-loop-k : goal.invariant-loop-k
invariant-loop-k l =
    record {
      numbers : l.numbers.items ≡ take l.k (numbers_of l.list l.sizes.sizes);
      within : All (λ n. n < length l.sizes.sizes) l.numbers.items;
    }
