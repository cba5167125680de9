use Rattle.std.proofs.Common.{◌≡◌, ◌≤◌, ◌*◌, ◌^◌, take, map, sum_by}
use Rattle.std.specs.List.{zip}
use Rattle.duct_definitions.specs.declared.duct.TheConstants.{MAX_LENGTH}
use Rattle.material_takeoff.specs.Uses.{uses}
use Rattle.material_takeoff.proofs.counting.size_uses.Given as goal

-- the sections so far are counted
abbrev pub invariant-loop-s : goal.invariant-loop-s
invariant-loop-s l = record {
  names : l.sizes ≡ map (λ u. u.name) l.uses.items;
  counted : l.uses.items ≡ uses (take l.s (zip l.sections l.lengths));
  count : sum_by (λ u. u.count) l.uses.items ≤ l.s;
  length : sum_by (λ u. u.length) l.uses.items ≤ l.s * MAX_LENGTH;
  price : sum_by (λ u. u.price) l.uses.items ≤ l.s * 2 ^ 64;
}
