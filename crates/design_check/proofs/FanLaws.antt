-- Listed fans that agree are fans of the list, with its pressures and costs.
use Rattle.std.proofs.Common.{◌≡◌, ℕ, ◌<◌, ◌≤◌, true, Option, Some, None, List, length, refl, sym, subst, arith}
use Rattle.std.specs.Prelude.{is_some, unwrap_or, ◌&&◌, ◌==◌}
use Rattle.std.specs.Str.{bytes_eq}
use Rattle.std.proofs.lemmas.Bool.{and_parts, eqb-true}
use Rattle.std.proofs.lemmas.Option.{unwrap_or-slice_get}
use Rattle.std.proofs.lemmas.Slice.Eq.{bytes_eq-Decides}
use Rattle.duct_definitions.specs.declared.design.NetFan.{NetFan}
use Rattle.duct_definitions.specs.declared.limits.TheConstants.{MAX_FAN_COST}
use Rattle.duct_definitions.specs.declared.listed.ListedFan.{ListedFan}
use Rattle.duct_definitions.specs.Network.{AreFans, IsFan, no_fan}
use Rattle.design_check.specs.Named.{fan_of, fan_named, fan_number}
use Rattle.design_check.specs.Verdicts.{fan_agrees}
use Rattle.design_check.proofs.SearchLaws.{found_number}

-- the fan of the listed name, with the listed numbers
pub record IsListedFan (fans : List NetFan) (fan : ListedFan) : Type 0 where
  pub within : fan_number fans fan.name < length fans
  pub name : (fan_of fans (fan_number fans fan.name)).name ≡ fan.name
  pub pressure : (fan_of fans (fan_number fans fan.name)).pressure ≡ fan.pressure
  pub cost : (fan_of fans (fan_number fans fan.name)).cost ≡ fan.cost

-- an answer that is some is the one with a default
pub some_is : (o : Option ℕ) (d : ℕ) → is_some o ≡ true → o ≡ Some (unwrap_or o d)
some_is None d e = absurd cc
some_is (Some x) d e = refl

pub listed_fan_is : (fans : List NetFan) (fan : ListedFan) → fan_agrees fans fan ≡ true → IsListedFan fans fan
listed_fan_is fans fan e =
    let i = fan_number fans fan.name in
    let a = and_parts (is_some (fan_named fans fan.name) && (fan_of fans i).pressure == fan.pressure) ((fan_of fans i).cost == fan.cost) e in
    let b = and_parts (is_some (fan_named fans fan.name)) ((fan_of fans i).pressure == fan.pressure) a.0 in
    let found = found_number (λ k. bytes_eq (fan_of fans k).name fan.name) (length fans) i (some_is (fan_named fans fan.name) 0 b.0) in
    record {
      within = found.0;
      name = (bytes_eq-Decides (fan_of fans i).name fan.name).0 found.1;
      pressure = eqb-true (fan_of fans i).pressure fan.pressure b.1;
      cost = eqb-true (fan_of fans i).cost fan.cost a.1;
    }

pub fan_bounds : (fans : List NetFan) (i : ℕ) → AreFans fans → i < length fans → IsFan (fan_of fans i)
fan_bounds fans i are within = subst IsFan (sym (unwrap_or-slice_get fans i no_fan)) (are.bounds i no_fan within)

pub listed_cost_le : (fans : List NetFan) (fan : ListedFan) → AreFans fans → fan_agrees fans fan ≡ true → fan.cost ≤ MAX_FAN_COST
listed_cost_le fans fan are e =
    let is = listed_fan_is fans fan e in
    let bounds = fan_bounds fans (fan_number fans fan.name) are is.within in
    omega (arith, is.cost, bounds.cost)
