-- The fields of a design that meets the rules are in range, so its text is read and gives them back.
use Rattle.std.proofs.Common.{◌≡◌, inl, inr, ℕ, zero, suc, ◌+◌, ◌*◌, ◌<◌, ◌≤◌, List, [], length, map, Option, Some, None, Ok, sym, ap, subst, ◌∙◌, arith}
use Rattle.std.specs.Prelude.{All, IsTrue, IfSome, unwrap_or, slice_get, slice_index, nat_le}
use Rattle.std.specs.List.{range_with_len, AllByRecursion}
use Rattle.std.proofs.lemmas.Bool.{cases_lt, leb-true}
use Rattle.std.proofs.lemmas.List.{get_or-map, get_or_past, length-map}
use Rattle.std.proofs.lemmas.List.FromFn.{length-map-range_with_len}
use Rattle.std.proofs.lemmas.Option.{unwrap_or-slice_get}
use Rattle.duct_units.specs.Name.{is_name}
use Rattle.duct_units.proofs.RuleLaws.{rule_holds}
use Rattle.duct_units.specs.declared.side.Side.TheVariants.{Supply, Return}
use Rattle.duct_definitions.specs.declared.design.Design.{Design}
use Rattle.duct_definitions.specs.declared.design.NetFan.{NetFan}
use Rattle.duct_definitions.specs.declared.design.Pair.{Pair}
use Rattle.duct_definitions.specs.declared.listed.ListedSection.{ListedSection}
use Rattle.duct_definitions.specs.declared.limits.TheConstants.{MAX_LOSS, MAX_PRICE, MAX_PRESSURE, MAX_FAN_COST}
use Rattle.duct_definitions.specs.Tree.{Tree, IsTree, section_count, side}
use Rattle.duct_definitions.specs.Network.{Network, IsNetwork, IsFan, AreNames, AreFans, IsBounded, no_fan, sizes_of, pairs_of}
use Rattle.duct_definitions.specs.Designs.{Meets, pair_of, loss_of, price_of, fans_cost, return_fan_cost}
use Rattle.duct_definitions.specs.DesignText.{listed, listed_fan, listed_back, listed_section, text}
use Rattle.duct_definitions.proofs.TreeLaws.{few_sections}
use Rattle.net_model.proofs.DesignSums.{cost-le}
use Rattle.damper_balance.specs.FoundPaths.{pressure_on, return_pressure}
use Rattle.damper_balance.proofs.FoundPathLaws.{within_pressure}
use Rattle.design_text.specs.Texts.{IsListedFan, IsListedSection, IsInRange}
use Rattle.design_text.specs.Reading.{reading}
use Rattle.design_text.proofs.ReadLaws.{text_again}

-- ---- names and fans

name_at_place : (names : List (List ℕ)) (i : ℕ) → AreNames names → i < length names → IsTrue (is_name (unwrap_or (slice_get names i) []))
name_at_place names i are within = subst (λ (n : List ℕ). IsTrue (is_name n)) (sym (unwrap_or-slice_get names i [])) (are.form i [] within)

abbrev name_of_fan : NetFan → List ℕ
name_of_fan fan = fan.name

-- the fan of a list at a place
abbrev fan_of : List NetFan → ℕ → NetFan
fan_of fans i = unwrap_or (slice_get fans i) no_fan

fan_name : (fans : List NetFan) (i : ℕ) → AreFans fans → i < length fans → IsTrue (is_name (fan_of fans i).name)
fan_name fans i are within =
    let named = are.names.form i [] (let w : i < length (map name_of_fan fans) = omega (arith, within, length-map fans name_of_fan) in w) in
    subst (λ (n : List ℕ). IsTrue (is_name n)) (get_or-map name_of_fan fans i no_fan [] within ∙ ap name_of_fan (sym (unwrap_or-slice_get fans i no_fan))) named

fan_bounds : (fans : List NetFan) (i : ℕ) → AreFans fans → i < length fans → IsFan (fan_of fans i)
fan_bounds fans i are within = subst IsFan (sym (unwrap_or-slice_get fans i no_fan)) (are.bounds i no_fan within)

fan_in_range : (fans : List NetFan) (i : ℕ) → AreFans fans → i < length fans → IsListedFan (listed_fan (fan_of fans i))
fan_in_range fans i are within =
    let bounds = fan_bounds fans i are within in
    record { name = fan_name fans i are within; pressure = omega (arith, bounds.pressure); cost = omega (arith, bounds.cost) }

back_in_range : (net : Network) (back : Option ℕ) → IsNetwork net → IfSome back (λ i. i < length net.return_fans) → IfSome (listed_back net back) IsListedFan
back_in_range net None valid within = tt
back_in_range net (Some i) valid within = fan_in_range net.return_fans i valid.return_fans within

-- ---- pressures

return_le : (net : Network) (fan : ℕ) (back : Option ℕ) → IsNetwork net → fan < length net.fans → IfSome back (λ i. i < length net.return_fans) → return_pressure net fan back ≤ MAX_PRESSURE
return_le net fan None valid within there = (fan_bounds net.fans fan valid.fans within).pressure
return_le net fan (Some i) valid within there = (fan_bounds net.return_fans i valid.return_fans there).pressure

pressure_le : (net : Network) (d : Design) (x : _) → IsNetwork net → Meets net d → pressure_on net d x ≤ MAX_PRESSURE
pressure_le net d Supply valid meets = (fan_bounds net.fans d.fan valid.fans meets.fits.fan).pressure
pressure_le net d Return valid meets = return_le net d.fan d.back valid meets.fits.fan meets.fits.back

-- ---- sections

bounded_at : (pairs : List (Option Pair)) (i : ℕ) → All IsBounded pairs → IsBounded (unwrap_or (slice_get pairs i) None)
bounded_at pairs i all =
    subst (λ (o : Option Pair). IsBounded o) (sym (unwrap_or-slice_get pairs i None))
    (elim (cases_lt i (length pairs)) [
      | inl within ↦ all i None within
      | inr past ↦ subst (λ (o : Option Pair). IsBounded o) (sym (get_or_past pairs i None past)) tt
    ])

loss_le : (o : Option Pair) → IsBounded o → loss_of o ≤ MAX_LOSS
loss_le None bounded = omega arith
loss_le (Some pair) bounded = bounded.0

price_le : (o : Option Pair) → IsBounded o → price_of o ≤ MAX_PRICE
price_le None bounded = omega arith
price_le (Some pair) bounded = bounded.1

section_in_range : (net : Network) (d : Design) (s : ℕ) → IsNetwork net → Meets net d → s < section_count net.tree → IsListedSection (listed_section net d s)
section_in_range net d s valid meets within =
    let bounded = bounded_at (pairs_of net s) _ (valid.sections s within).bounds in
    let taken = (within_pressure net d meets).damper s in
    let most = pressure_le net d (side net.tree s) valid meets in
    let loss = loss_le (pair_of net d s) bounded in
    let price = price_le (pair_of net d s) bounded in
    record {
      name = name_at_place net.names s valid.names (omega (arith, within, valid.name_count));
      size = name_at_place (sizes_of net s) (slice_index d.sizes s) (valid.sections s within).sizes (meets.fits.each s within);
      loss = omega (arith, loss);
      price = omega (arith, price);
      damper = omega (arith, taken, most);
    }

each_in_range : (f : ℕ → ListedSection) (a n : ℕ) → ((s : ℕ) → a ≤ s → s < a + n → IsListedSection (f s)) → AllByRecursion IsListedSection (map f (range_with_len a n))
each_in_range f a zero each = tt
each_in_range f a (suc n) each =
    (each a (omega arith) (omega arith), each_in_range f (a + 1) n (λ s low high. each s (omega (arith, low)) (omega (arith, high))))

-- ---- the whole

back_cost_le : (net : Network) (back : Option ℕ) → IsNetwork net → IfSome back (λ i. i < length net.return_fans) → return_fan_cost net back ≤ MAX_FAN_COST
back_cost_le net None valid within = omega arith
back_cost_le net (Some i) valid within = (fan_bounds net.return_fans i valid.return_fans within).cost

some_sections : (t : Tree) → IsTree t → 1 ≤ section_count t
some_sections t tree = leb-true 1 (section_count t) (rule_holds (nat_le 1 (section_count t)) _ _ tree.rules).0

listed_in_range : (net : Network) (d : Design) → IsNetwork net → Meets net d → IsInRange (listed net d)
listed_in_range net d valid meets =
    let within = within_pressure net d meets in
    let supply = pressure_le net d Supply valid meets in
    let back = pressure_le net d Return valid meets in
    let fan_cost = (fan_bounds net.fans d.fan valid.fans meets.fits.fan).cost in
    let back_cost = back_cost_le net d.back valid meets.fits.back in
    let whole = cost-le net d valid (let both : fans_cost net d.fan d.back ≤ 2 * MAX_FAN_COST = omega (arith, fan_cost, back_cost) in both) in
    let count = length-map-range_with_len (listed_section net d) 0 (section_count net.tree) in
    record {
      project = valid.name;
      fan = fan_in_range net.fans d.fan valid.fans meets.fits.fan;
      back = back_in_range net d.back valid meets.fits.back;
      supply_worst = omega (arith, within.worst Supply, within.head Supply, supply);
      supply_head = omega (arith, within.head Supply, supply);
      return_worst = omega (arith, within.worst Return, within.head Return, back);
      return_head = omega (arith, within.head Return, back);
      some = omega (arith, count, some_sections net.tree valid.tree);
      few = omega (arith, count, few_sections net.tree valid.tree);
      sections = each_in_range (listed_section net d) 0 (section_count net.tree) (λ s low high. section_in_range net d s valid meets (omega (arith, high)));
      total = omega (arith, whole);
    }

-- the text of a design that meets the rules is read, and gives its fields back
pub printed_again : (net : Network) (d : Design) → IsNetwork net → Meets net d → reading (text (listed net d)) ≡ Ok (listed net d)
printed_again net d valid meets = text_again (listed net d) (listed_in_range net d valid meets)
