use Rattle.std.proofs.Common.{◌≡◌, ◌≤◌, ◌*◌, ◌^◌, take, sum_by}
use Rattle.material_takeoff.proofs.agreement.sections_price.Given as goal

-- the prices of the sections so far
abbrev pub invariant-loop-section : goal.invariant-loop-section
invariant-loop-section l = record {
  so_far : l.price ≡ sum_by (λ s. s.price) (take l.section-index l.sections);
  bound : l.price ≤ l.section-index * 2 ^ 64;
}
