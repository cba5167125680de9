use Rattle.std.proofs.Common.{◌≡◌, ◌++◌, drop}
use Rattle.std.specs.List.{flat_map}
use Rattle.front_certificate.specs.CertificateText.{front_line}
use Rattle.front_certificate.proofs.writing.add_fronts.Given as goal

-- the text so far and the lines of the fronts that are left are the whole text
abbrev pub invariant-loop-front : goal.invariant-loop-front
invariant-loop-front l =
    l.fn.text ++ flat_map front_line l.fronts ≡ l.text ++ flat_map front_line (drop l.front-index l.fronts)
