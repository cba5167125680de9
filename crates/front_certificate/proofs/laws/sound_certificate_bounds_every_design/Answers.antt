use Rattle.front_certificate.proofs.AllDesigns.{bounds_every_design}
use Rattle.front_certificate.proofs.laws.sound_certificate_bounds_every_design.Goals as goal

pub returns : goal.returns
returns c net tree certificate sound = bounds_every_design net tree certificate sound
