use Rattle.duct_load.proofs.PlaceLaws.{place_counts}
use Rattle.duct_load.proofs.laws.places_count_a_side.Goals as goal

pub returns : goal.returns
returns c = λ i. place_counts i
