-- The text of a design that meets the rules names this design, and nothing differs.
use Rattle.std.proofs.Common.{◌≡◌, inl, inr, ℕ, suc, ◌+◌, ◌<◌, true, Option, Some, None, List, [], ◌∷◌, length, map, get_or, refl, sym, ap, ◌∙◌, subst, arith, eq-eqb}
use Rattle.std.specs.Prelude.{IsSome, IfSome, is_some, unwrap_or, slice_get, slice_index, option_map, ◌&&◌, ◌==◌}
use Rattle.std.specs.List.{range_with_len}
use Rattle.std.specs.Str.{bytes_eq}
use Rattle.std.proofs.lemmas.Bool.{and_from, le-leb, cases_lt}
use Rattle.std.proofs.lemmas.List.{length-map}
use Rattle.std.proofs.lemmas.List.FromFn.{get_or-map-range_with_len, length-map-range_with_len}
use Rattle.std.proofs.lemmas.Option.{unwrap_or-slice_get, slice_get-get_or, slice_get-map}
use Rattle.std.proofs.lemmas.Slice.Eq.{bytes_eq-Decides}
use Rattle.duct_units.specs.declared.side.Side.TheVariants.{Supply, Return}
use Rattle.duct_definitions.specs.declared.design.Design.{Design}
use Rattle.duct_definitions.specs.declared.design.NetFan.{NetFan}
use Rattle.duct_definitions.specs.declared.listed.Listed.{Listed}
use Rattle.duct_definitions.specs.declared.listed.ListedSection.{ListedSection}
use Rattle.duct_definitions.specs.Tree.{section_count, sections}
use Rattle.duct_definitions.specs.Network.{Network, IsNetwork, AreNames, AreFans, sizes_of, no_fan, section_name, size_name, size_count}
use Rattle.duct_definitions.specs.Designs.{Fits, Meets, Covers, pair_of, loss_of, price_of, worst, cost}
use Rattle.duct_definitions.specs.Dampers.{head, damper}
use Rattle.duct_definitions.specs.DesignText.{listed, listed_fan, listed_back, listed_section}
use Rattle.design_check.specs.declared.verdict.Verdict.TheVariants as verdicts
use Rattle.design_check.specs.Named.{no_line, line_at, size_named, size_of, fan_of, fan_named, fan_number, back_number, named}
use Rattle.design_check.specs.Verdicts.{name_agrees, pair_agrees, loss_agrees, fan_agrees, back_agrees, covers, heads_agree, damper_agrees, verdict}
use Rattle.design_check.specs.Designs.{IsOfDesign}
use Rattle.design_check.proofs.SearchLaws.{only_passing, no_section_fails, sections_all}
use Rattle.design_check.proofs.YesLaws.{Agrees, agrees_yes}

-- ---- numbers from names

there : {A : Type 0} (xs : List A) (d : A) (k : ℕ) → k < length xs → slice_get xs k ≡ Some (unwrap_or (slice_get xs k) d)
there xs d k within = slice_get-get_or xs k d within ∙ ap (λ x. Some x) (sym (unwrap_or-slice_get xs k d))

one_place : (names : List (List ℕ)) (i k : ℕ) → AreNames names → i < length names → k < length names → slice_get names i ≡ slice_get names k → i ≡ k
one_place names i k are first second same =
    elim (cases_lt i k) [
      | inl below ↦ absurd (are.distinct i k below second same)
      | inr past ↦ elim (cases_lt k i) [
        | inl above ↦ absurd (are.distinct k i above first (sym same))
        | inr not ↦ omega (arith, past, not)
      ]
    ]

size_again : (net : Network) (s k : ℕ) → IsNetwork net → s < section_count net.tree → k < size_count net s → size_named net s (size_name net s k) ≡ Some k
size_again net s k valid within fits =
    only_passing (λ j. bytes_eq (size_name net s j) (size_name net s k)) (size_count net s) k fits ((bytes_eq-Decides (size_name net s k) (size_name net s k)).1 refl)
    (λ j inside passes. one_place (sizes_of net s) j k (valid.sections s within).sizes inside fits
    (there (sizes_of net s) [] j inside ∙ ap (λ (n : List ℕ). Some n) ((bytes_eq-Decides (size_name net s j) (size_name net s k)).0 passes) ∙ sym (there (sizes_of net s) [] k fits)))

abbrev name_of_fan : NetFan → List ℕ
name_of_fan fan = fan.name

fan_place : (fans : List NetFan) (k : ℕ) → k < length fans → slice_get (map name_of_fan fans) k ≡ Some (fan_of fans k).name
fan_place fans k within = slice_get-map name_of_fan fans k ∙ ap (option_map name_of_fan) (there fans no_fan k within)

named_within : (fans : List NetFan) (k : ℕ) → k < length fans → k < length (map name_of_fan fans)
named_within fans k within = omega (arith, within, length-map fans name_of_fan)

fan_again : (fans : List NetFan) (i : ℕ) → AreFans fans → i < length fans → fan_named fans (fan_of fans i).name ≡ Some i
fan_again fans i are within =
    only_passing (λ k. bytes_eq (fan_of fans k).name (fan_of fans i).name) (length fans) i within ((bytes_eq-Decides (fan_of fans i).name (fan_of fans i).name).1 refl)
    (λ k inside passes. one_place (map name_of_fan fans) k i are.names (named_within fans k inside) (named_within fans i within)
    (fan_place fans k inside ∙ ap (λ (n : List ℕ). Some n) ((bytes_eq-Decides (fan_of fans k).name (fan_of fans i).name).0 passes) ∙ sym (fan_place fans i within)))

-- ---- the design that the text names

line_listed : (net : Network) (d : Design) (s : ℕ) → s < section_count net.tree → line_at (listed net d) s ≡ listed_section net d s
line_listed net d s within =
    unwrap_or-slice_get (listed net d).sections s no_line ∙ get_or-map-range_with_len (listed_section net d) 0 (section_count net.tree) s s no_line within (omega arith)

numbers_same : (f : ℕ → ℕ) (xs : List ℕ) (a : ℕ) → ((s : ℕ) → s < length xs → f (a + s) ≡ get_or xs s 0) → map f (range_with_len a (length xs)) ≡ xs
numbers_same f [] a each = refl
numbers_same f (x ∷ xs) a each =
    let first : f a ≡ x = ap f (let e : a ≡ a + 0 = omega arith in e) ∙ each 0 (omega arith) in
    let rest : map f (range_with_len (a + 1) (length xs)) ≡ xs =
    numbers_same f xs (a + 1) (λ s within. ap f (let e : a + 1 + s ≡ a + suc s = omega arith in e) ∙ each (suc s) (omega (arith, within))) in
    ap (λ (ys : List ℕ). f a ∷ ys) rest ∙ ap (λ (y : ℕ). y ∷ xs) first

size_found : (net : Network) (d : Design) (s : ℕ) → IsNetwork net → Fits net d → s < section_count net.tree → size_named net s (line_at (listed net d) s).size ≡ Some (slice_index d.sizes s)
size_found net d s valid fits within =
    ap (λ (x : ListedSection). size_named net s x.size) (line_listed net d s within) ∙ size_again net s (slice_index d.sizes s) valid within (fits.each s within)

back_again : (net : Network) (back : Option ℕ) → IsNetwork net → IfSome back (λ i. i < length net.return_fans) → back_number net.return_fans (listed_back net back) ≡ back
back_again net None valid within = refl
back_again net (Some i) valid within = ap (λ (o : Option ℕ). Some (unwrap_or o 0)) (fan_again net.return_fans i valid.return_fans within)

abbrev design_of : ℕ → Option ℕ → List ℕ → Design
design_of fan back sizes = record { fan = fan; back = back; sizes = sizes }

named_again : (net : Network) (d : Design) → IsNetwork net → Fits net d → named net (listed net d) ≡ d
named_again net d valid fits =
    let l = listed net d in
    let fan : fan_number net.fans l.fan ≡ d.fan = ap (λ (o : Option ℕ). unwrap_or o 0) (fan_again net.fans d.fan valid.fans fits.fan) in
    let back : back_number net.return_fans l.back ≡ d.back = back_again net d.back valid fits.back in
    let sizes : map (size_of net l) (sections net.tree) ≡ d.sizes =
    ap (λ (n : ℕ). map (size_of net l) (range_with_len 0 n)) (sym fits.sizes)
    ∙ numbers_same (size_of net l) d.sizes 0
    (λ s within. ap (size_of net l) (let e : 0 + s ≡ s = omega arith in e) ∙ ap (λ (o : Option ℕ). unwrap_or o 0) (size_found net d s valid fits (omega (arith, within, fits.sizes)))) in
    ap (λ (n : ℕ). design_of n (back_number net.return_fans l.back) (map (size_of net l) (sections net.tree))) fan
    ∙ ap (λ (o : Option ℕ). design_of d.fan o (map (size_of net l) (sections net.tree))) back
    ∙ ap (λ (ns : List ℕ). design_of d.fan d.back ns) sizes

-- ---- nothing differs

fan_listed : (fans : List NetFan) (i : ℕ) → AreFans fans → i < length fans → fan_agrees fans (listed_fan (fan_of fans i)) ≡ true
fan_listed fans i are within =
    rw (fan_again fans i are within) (and_from _ _ (eq-eqb (fan_of fans i).pressure (fan_of fans i).pressure refl) (eq-eqb (fan_of fans i).cost (fan_of fans i).cost refl))

back_listed : (net : Network) (back : Option ℕ) → IsNetwork net → IfSome back (λ i. i < length net.return_fans) → back_agrees net.return_fans (listed_back net back) ≡ true
back_listed net None valid within = refl
back_listed net (Some i) valid within = fan_listed net.return_fans i valid.return_fans within

covers_from : (net : Network) (d : Design) (back : Option ℕ) → Covers net d back → covers net d back ≡ true
covers_from net d None is = le-leb _ _ is
covers_from net d (Some i) is = and_from _ _ (le-leb _ _ is.0) (le-leb _ _ is.1)

is_some_of : {A : Type 0} (o : Option A) → IsSome o → is_some o ≡ true
is_some_of None is = absurd cc
is_some_of (Some x) is = refl

same_is : (n : ℕ) → (n == n) ≡ true
same_is n = eq-eqb n n refl

listed_agrees : (net : Network) (d : Design) → IsNetwork net → Meets net d → Agrees net (listed net d)
listed_agrees net d valid meets =
    let l = listed net d in
    let same : d ≡ named net l = sym (named_again net d valid meets.fits) in
    record {
      names = and_from _ _ (and_from _ _ ((bytes_eq-Decides net.name net.name).1 refl) (eq-eqb (length l.sections) (section_count net.tree) (length-map-range_with_len (listed_section net d) 0 (section_count net.tree))))
          (sections_all net (name_agrees net l) (λ s within. ap (λ (x : ListedSection). bytes_eq x.name (section_name net s)) (line_listed net d s within) ∙ (bytes_eq-Decides (section_name net s) (section_name net s)).1 refl));
      pairs = no_section_fails net (pair_agrees net l) (λ s within. and_from _ _
          (ap (λ (o : Option ℕ). is_some o) (size_found net d s valid meets.fits within))
          (subst (λ e. is_some (pair_of net e s) ≡ true) same (is_some_of (pair_of net d s) (meets.pairs s within))));
      losses = no_section_fails net (loss_agrees net l) (λ s within.
          subst (λ e. ((line_at l s).loss == loss_of (pair_of net e s) && (line_at l s).price == price_of (pair_of net e s)) ≡ true) same
          (ap (λ (x : ListedSection). x.loss == loss_of (pair_of net d s) && x.price == price_of (pair_of net d s)) (line_listed net d s within)
          ∙ and_from _ _ (same_is (loss_of (pair_of net d s))) (same_is (price_of (pair_of net d s)))));
      fans = and_from _ _ (fan_listed net.fans d.fan valid.fans meets.fits.fan) (back_listed net d.back valid meets.fits.back);
      heads = subst (λ e. heads_agree net l e ≡ true) same
          (and_from _ _ (and_from _ _ (and_from _ _ (and_from _ _ (covers_from net d d.back meets.pressure) (same_is (worst net d Supply))) (same_is (head net d Supply))) (same_is (worst net d Return))) (same_is (head net d Return)));
      dampers = no_section_fails net (damper_agrees net l) (λ s within.
          subst (λ e. ((line_at l s).damper == damper net e s) ≡ true) same
          (ap (λ (x : ListedSection). x.damper == damper net d s) (line_listed net d s within) ∙ same_is (damper net d s)));
      total = subst (λ e. (l.total == cost net e) ≡ true) same (same_is (cost net d));
    }

pub design_yes : (net : Network) (l : Listed) → IsNetwork net → IsOfDesign net l → verdict net l ≡ verdicts.Yes
design_yes net l valid is = subst (λ x. verdict net x ≡ verdicts.Yes) (sym is.2) (agrees_yes net (listed net is.0) (listed_agrees net is.0 valid is.1))
