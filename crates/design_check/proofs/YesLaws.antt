-- Yes exactly where the text is that of a design that meets the rules.
use Rattle.std.proofs.Common.{◌≡◌, ℕ, suc, ◌+◌, ◌<◌, Bool, true, false, Option, Some, None, List, [], ◌∷◌, length, map, refl, sym, ap, ◌∙◌, arith}
use Rattle.std.specs.Prelude.{is_some, unwrap_or, slice_get, slice_index, option_map, ◌&&◌, ◌==◌}
use Rattle.std.specs.List.{list_all, range_with_len}
use Rattle.std.specs.Str.{bytes_eq}
use Rattle.std.proofs.lemmas.Bool.{and_parts, eqb-true}
use Rattle.std.proofs.lemmas.Slice.Eq.{bytes_eq-Decides}
use Rattle.duct_definitions.specs.declared.listed.Listed.{Listed}
use Rattle.duct_definitions.specs.declared.listed.ListedFan.{ListedFan}
use Rattle.duct_definitions.specs.declared.listed.ListedSection.{ListedSection}
use Rattle.duct_definitions.specs.Tree.{section_count, sections}
use Rattle.duct_definitions.specs.Network.{Network, IsNetwork, fan_at, section_name, size_name, size_count}
use Rattle.duct_definitions.specs.Designs.{pair_of, loss_of, price_of, cost}
use Rattle.duct_definitions.specs.Dampers.{damper}
use Rattle.duct_definitions.specs.DesignText.{listed, listed_fan, listed_back, listed_section, first_fan}
use Rattle.design_check.specs.declared.verdict.Verdict.{Verdict}
use Rattle.design_check.specs.declared.verdict.Verdict.TheVariants as verdicts
use Rattle.design_check.specs.Named.{no_line, line_at, size_named, size_of, fan_of, fan_number, back_number, named}
use Rattle.design_check.specs.Verdicts.{name_agrees, names_agree, pair_agrees, loss_agrees, fan_agrees, back_agrees, fans_agree, heads_agree, damper_agrees, first_failing, unless, first_of, verdict}
use Rattle.design_check.specs.Designs.{IsOfDesign}
use Rattle.design_check.proofs.SearchLaws.{found_number, every_section, all_sections}
use Rattle.design_check.proofs.FanLaws.{some_is, listed_fan_is}
use Rattle.design_check.proofs.NamedLaws.{named_size}
use Rattle.design_check.proofs.AgreeLaws.{listed_heads, meets_named}

-- ---- a yes has no difference

step_unless : (b : Bool) (v : Verdict) (os : List (Option Verdict)) → (v ≡ verdicts.Yes → ⊥) → first_of (unless b v ∷ os) ≡ verdicts.Yes → (b ≡ true) × (first_of os ≡ verdicts.Yes)
step_unless true v os other e = (refl, e)
step_unless false v os other e = absurd (other e)

step_section : (o : Option ℕ) (f : ℕ → Verdict) (os : List (Option Verdict)) → ((s : ℕ) → f s ≡ verdicts.Yes → ⊥) → first_of (option_map f o ∷ os) ≡ verdicts.Yes → (o ≡ None) × (first_of os ≡ verdicts.Yes)
step_section None f os other e = (refl, e)
step_section (Some s) f os other e = absurd (other s e)

not_name : verdicts.Name ≡ verdicts.Yes → ⊥
not_name e = cc

not_pair : (s : ℕ) → verdicts.Pair s ≡ verdicts.Yes → ⊥
not_pair s e = cc

not_loss : (s : ℕ) → verdicts.Loss s ≡ verdicts.Yes → ⊥
not_loss s e = cc

not_fan : verdicts.Fan ≡ verdicts.Yes → ⊥
not_fan e = cc

not_head : verdicts.Head ≡ verdicts.Yes → ⊥
not_head e = cc

not_damper : (s : ℕ) → verdicts.Damper s ≡ verdicts.Yes → ⊥
not_damper s e = cc

not_cost : verdicts.Cost ≡ verdicts.Yes → ⊥
not_cost e = cc

-- nothing differs
pub record Agrees (net : Network) (l : Listed) : Type 0 where
  pub names : names_agree net l ≡ true
  pub pairs : first_failing net (pair_agrees net l) ≡ None
  pub losses : first_failing net (loss_agrees net l) ≡ None
  pub fans : fans_agree net l ≡ true
  pub heads : heads_agree net l (named net l) ≡ true
  pub dampers : first_failing net (damper_agrees net l) ≡ None
  pub total : (l.total == cost net (named net l)) ≡ true

yes_agrees : (net : Network) (l : Listed) → verdict net l ≡ verdicts.Yes → Agrees net l
unfolding verdict
yes_agrees net l e =
    let a = step_unless (names_agree net l) verdicts.Name _ not_name e in
    let b = step_section (first_failing net (pair_agrees net l)) verdicts.Pair _ not_pair a.1 in
    let c = step_section (first_failing net (loss_agrees net l)) verdicts.Loss _ not_loss b.1 in
    let f = step_unless (fans_agree net l) verdicts.Fan _ not_fan c.1 in
    let h = step_unless (heads_agree net l (named net l)) verdicts.Head _ not_head f.1 in
    let d = step_section (first_failing net (damper_agrees net l)) verdicts.Damper _ not_damper h.1 in
    let t = step_unless (l.total == cost net (named net l)) verdicts.Cost _ not_cost d.1 in
    record { names = a.0; pairs = b.0; losses = c.0; fans = f.0; heads = h.0; dampers = d.0; total = t.0 }

pub agrees_yes : (net : Network) (l : Listed) → Agrees net l → verdict net l ≡ verdicts.Yes
unfolding verdict
agrees_yes net l is = rw (is.names, is.pairs, is.losses, is.fans, is.heads, is.dampers, is.total) refl

-- ---- from agreeing fields to the design's fields

-- a list with one line for each number
lines_same : (f : ℕ → ListedSection) (xs : List ListedSection) (a : ℕ) → ((s : ℕ) → s < length xs → unwrap_or (slice_get xs s) no_line ≡ f (a + s)) → xs ≡ map f (range_with_len a (length xs))
lines_same f [] a each = refl
lines_same f (x ∷ xs) a each =
    let first : x ≡ f a = each 0 (omega arith) ∙ ap f (let e : a + 0 ≡ a = omega arith in e) in
    let rest : xs ≡ map f (range_with_len (a + 1) (length xs)) =
    lines_same f xs (a + 1) (λ s within. each (suc s) (omega (arith, within)) ∙ ap f (let e : a + suc s ≡ a + 1 + s = omega arith in e)) in
    ap (λ (y : ListedSection). y ∷ xs) first ∙ ap (λ (ys : List ListedSection). f a ∷ ys) rest

-- a line of these fields
abbrev line_of : List ℕ → List ℕ → ℕ → ℕ → ℕ → ListedSection
line_of name size loss price damper = record { name = name; size = size; loss = loss; price = price; damper = damper }

line_same : (x y : ListedSection) → x.name ≡ y.name → x.size ≡ y.size → x.loss ≡ y.loss → x.price ≡ y.price → x.damper ≡ y.damper → x ≡ y
line_same x y name size loss price damper =
    ap (λ (n : List ℕ). line_of n x.size x.loss x.price x.damper) name
    ∙ ap (λ (n : List ℕ). line_of y.name n x.loss x.price x.damper) size
    ∙ ap (λ (n : ℕ). line_of y.name y.size n x.price x.damper) loss
    ∙ ap (λ (n : ℕ). line_of y.name y.size y.loss n x.damper) price
    ∙ ap (λ (n : ℕ). line_of y.name y.size y.loss y.price n) damper

size_is : (net : Network) (l : Listed) (s : ℕ) → s < section_count net.tree → pair_agrees net l s ≡ true → (line_at l s).size ≡ size_name net s (slice_index (named net l).sizes s)
size_is net l s within e =
    let parts = and_parts (is_some (size_named net s (line_at l s).size)) (is_some (pair_of net (named net l) s)) e in
    let found = found_number (λ k. bytes_eq (size_name net s k) (line_at l s).size) (size_count net s) (size_of net l s) (some_is (size_named net s (line_at l s).size) 0 parts.0) in
    sym ((bytes_eq-Decides (size_name net s (size_of net l s)) (line_at l s).size).0 found.1) ∙ ap (size_name net s) (sym (named_size net l s within))

line_is : (net : Network) (l : Listed) → Agrees net l → (s : ℕ) → s < section_count net.tree → line_at l s ≡ listed_section net (named net l) s
line_is net l is s within =
    let names = and_parts (bytes_eq l.project net.name && length l.sections == section_count net.tree) (list_all (name_agrees net l) (sections net.tree)) is.names in
    let loss = and_parts ((line_at l s).loss == loss_of (pair_of net (named net l) s)) ((line_at l s).price == price_of (pair_of net (named net l) s)) (every_section net (loss_agrees net l) is.losses s within) in
    line_same (line_at l s) (listed_section net (named net l) s)
    ((bytes_eq-Decides (line_at l s).name (section_name net s)).0 (all_sections net (name_agrees net l) names.1 s within))
    (size_is net l s within (every_section net (pair_agrees net l) is.pairs s within))
    (eqb-true _ _ loss.0) (eqb-true _ _ loss.1)
    (eqb-true _ _ (every_section net (damper_agrees net l) is.dampers s within))

-- a fan's line of these fields
abbrev fan_line_of : List ℕ → ℕ → ℕ → ListedFan
fan_line_of name pressure cost = record { name = name; pressure = pressure; cost = cost }

fan_same : (x y : ListedFan) → x.name ≡ y.name → x.pressure ≡ y.pressure → x.cost ≡ y.cost → x ≡ y
fan_same x y name pressure cost =
    ap (λ (n : List ℕ). fan_line_of n x.pressure x.cost) name
    ∙ ap (λ (n : ℕ). fan_line_of y.name n x.cost) pressure
    ∙ ap (λ (n : ℕ). fan_line_of y.name y.pressure n) cost

back_is : (net : Network) (back : Option ListedFan) → back_agrees net.return_fans back ≡ true → back ≡ listed_back net (back_number net.return_fans back)
back_is net None e = refl
back_is net (Some fan) e =
    let is = listed_fan_is net.return_fans fan e in
    ap (λ (f : ListedFan). Some f) (fan_same fan (listed_fan (fan_of net.return_fans (fan_number net.return_fans fan.name))) (sym is.name) (sym is.pressure) (sym is.cost))

-- fields of a text, one after the other
abbrev made : List ℕ → List ℕ → ℕ → ℕ → Option ListedFan → ℕ → ℕ → ℕ → ℕ → List ListedSection → ℕ → Listed
made project fan pressure fan_cost back sw sh rw rh sections total = record {
  project = project;
  fan = fan;
  pressure = pressure;
  fan_cost = fan_cost;
  back = back;
  supply_worst = sw;
  supply_head = sh;
  return_worst = rw;
  return_head = rh;
  sections = sections;
  total = total;
}

listed_same : (l m : Listed) → l.project ≡ m.project → first_fan l ≡ first_fan m → l.back ≡ m.back → l.supply_worst ≡ m.supply_worst → l.supply_head ≡ m.supply_head
    → l.return_worst ≡ m.return_worst → l.return_head ≡ m.return_head → l.sections ≡ m.sections → l.total ≡ m.total → l ≡ m
listed_same l m project fan back sw sh rw rh sections total =
    ap (λ (x : List ℕ). made x l.fan l.pressure l.fan_cost l.back l.supply_worst l.supply_head l.return_worst l.return_head l.sections l.total) project
    ∙ ap (λ (f : ListedFan). made m.project f.name f.pressure f.cost l.back l.supply_worst l.supply_head l.return_worst l.return_head l.sections l.total) fan
    ∙ ap (λ (o : Option ListedFan). made m.project m.fan m.pressure m.fan_cost o l.supply_worst l.supply_head l.return_worst l.return_head l.sections l.total) back
    ∙ ap (λ (n : ℕ). made m.project m.fan m.pressure m.fan_cost m.back n l.supply_head l.return_worst l.return_head l.sections l.total) sw
    ∙ ap (λ (n : ℕ). made m.project m.fan m.pressure m.fan_cost m.back m.supply_worst n l.return_worst l.return_head l.sections l.total) sh
    ∙ ap (λ (n : ℕ). made m.project m.fan m.pressure m.fan_cost m.back m.supply_worst m.supply_head n l.return_head l.sections l.total) rw
    ∙ ap (λ (n : ℕ). made m.project m.fan m.pressure m.fan_cost m.back m.supply_worst m.supply_head m.return_worst n l.sections l.total) rh
    ∙ ap (λ (ss : List ListedSection). made m.project m.fan m.pressure m.fan_cost m.back m.supply_worst m.supply_head m.return_worst m.return_head ss l.total) sections
    ∙ ap (λ (n : ℕ). made m.project m.fan m.pressure m.fan_cost m.back m.supply_worst m.supply_head m.return_worst m.return_head m.sections n) total

agrees_listed : (net : Network) (l : Listed) → Agrees net l → l ≡ listed net (named net l)
agrees_listed net l is =
    let d = named net l in
    let names = and_parts (bytes_eq l.project net.name && length l.sections == section_count net.tree) (list_all (name_agrees net l) (sections net.tree)) is.names in
    let heading = and_parts (bytes_eq l.project net.name) (length l.sections == section_count net.tree) names.0 in
    let count : length l.sections ≡ section_count net.tree = eqb-true (length l.sections) (section_count net.tree) heading.1 in
    let fans = and_parts (fan_agrees net.fans (first_fan l)) (back_agrees net.return_fans l.back) is.fans in
    let fan = listed_fan_is net.fans (first_fan l) fans.0 in
    let heads = listed_heads net l d is.heads in
    let lines : l.sections ≡ map (listed_section net d) (sections net.tree) =
    lines_same (listed_section net d) l.sections 0 (λ s within. line_is net l is s (omega (arith, within, count)) ∙ ap (listed_section net d) (let e : s ≡ 0 + s = omega arith in e))
    ∙ ap (λ (n : ℕ). map (listed_section net d) (range_with_len 0 n)) count in
    listed_same l (listed net d)
    ((bytes_eq-Decides l.project net.name).0 heading.0)
    (fan_same (first_fan l) (listed_fan (fan_at net d.fan)) (sym fan.name) (sym fan.pressure) (sym fan.cost))
    (back_is net l.back fans.1)
    heads.supply_worst heads.supply_head heads.return_worst heads.return_head lines (eqb-true l.total (cost net d) is.total)

pub yes_is : (net : Network) (l : Listed) → IsNetwork net → verdict net l ≡ verdicts.Yes → IsOfDesign net l
yes_is net l valid e =
    let is = yes_agrees net l e in
    (named net l, meets_named net l valid is.pairs is.fans is.heads, agrees_listed net l is)
