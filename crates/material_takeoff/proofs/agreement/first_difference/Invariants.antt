use Rattle.std.proofs.Common.{◌≡◌, take, map}
use Rattle.material_takeoff.proofs.agreement.first_difference.Given as goal

-- the names so far are the same
abbrev pub invariant-loop-place : goal.invariant-loop-place
invariant-loop-place l = take l.place l.names ≡ take l.place (map (λ s. s.name) l.sections)
