-- Where names, pairs, fans and heads agree, the design that the text names meets the rules.
use Rattle.std.proofs.Common.{◌≡◌, ℕ, ◌+◌, ◌<◌, ◌≤◌, true, Option, Some, None, refl, sym, subst, arith, length}
use Rattle.std.specs.Prelude.{IsSome, IfSome, is_some, unwrap_or, nat_le, ◌&&◌, ◌==◌}
use Rattle.std.specs.Str.{bytes_eq}
use Rattle.std.proofs.lemmas.Bool.{and_parts, leb-true, eqb-true}
use Rattle.std.proofs.lemmas.List.FromFn.{length-map-range_with_len}
use Rattle.duct_units.specs.declared.side.Side.TheVariants.{Supply, Return}
use Rattle.duct_definitions.specs.declared.design.Design.{Design}
use Rattle.duct_definitions.specs.declared.listed.Listed.{Listed}
use Rattle.duct_definitions.specs.declared.listed.ListedFan.{ListedFan}
use Rattle.duct_definitions.specs.Tree.{section_count}
use Rattle.duct_definitions.specs.Network.{Network, IsNetwork, fan_at, return_fan_at, size_count, size_name}
use Rattle.duct_definitions.specs.Designs.{Fits, Meets, Covers, pair_of, worst}
use Rattle.duct_definitions.specs.Dampers.{head}
use Rattle.duct_definitions.specs.DesignText.{first_fan}
use Rattle.design_check.specs.Named.{line_at, size_named, size_of, back_number, named}
use Rattle.design_check.specs.Verdicts.{pair_agrees, loss_agrees, fan_agrees, back_agrees, fans_agree, covers, heads_agree, first_failing}
use Rattle.design_check.proofs.SearchLaws.{found_number, every_section}
use Rattle.design_check.proofs.FanLaws.{listed_fan_is}
use Rattle.design_check.proofs.NamedLaws.{named_size}

size_within : (net : Network) (s : ℕ) (name : _) (o : Option ℕ) → size_named net s name ≡ o → 1 ≤ size_count net s → unwrap_or o 0 < size_count net s
size_within net s name None e some = omega (arith, some)
size_within net s name (Some k) e some = (found_number (λ k. bytes_eq (size_name net s k) name) (size_count net s) k e).0

back_within : (net : Network) (back : Option ListedFan) → back_agrees net.return_fans back ≡ true → IfSome (back_number net.return_fans back) (λ i. i < length net.return_fans)
back_within net None e = tt
back_within net (Some fan) e = (listed_fan_is net.return_fans fan e).within

named_fits : (net : Network) (l : Listed) → IsNetwork net → fan_agrees net.fans (first_fan l) ≡ true → back_agrees net.return_fans l.back ≡ true → Fits net (named net l)
named_fits net l valid fan back = record {
  fan = (listed_fan_is net.fans (first_fan l) fan).within;
  back = back_within net l.back back;
  sizes = length-map-range_with_len (size_of net l) 0 (section_count net.tree);
  each = λ s within. subst (λ k. k < size_count net s) (sym (named_size net l s within))
      (size_within net s (line_at l s).size (size_named net s (line_at l s).size) refl (valid.sections s within).some);
}

is_there : {A : Type 0} (o : Option A) → is_some o ≡ true → IsSome o
is_there None e = absurd cc
is_there (Some x) e = refl

covers_are : (net : Network) (d : Design) (back : Option ℕ) → covers net d back ≡ true → Covers net d back
covers_are net d None e = leb-true (worst net d Supply + worst net d Return) (fan_at net d.fan).pressure e
covers_are net d (Some i) e =
    let parts = and_parts (nat_le (worst net d Supply) (fan_at net d.fan).pressure) (nat_le (worst net d Return) (return_fan_at net i).pressure) e in
    (leb-true _ _ parts.0, leb-true _ _ parts.1)

-- what agrees where the heads do
pub record AreListedHeads (net : Network) (l : Listed) (d : Design) : Type 0 where
  pub covers : covers net d d.back ≡ true
  pub supply_worst : l.supply_worst ≡ worst net d Supply
  pub supply_head : l.supply_head ≡ head net d Supply
  pub return_worst : l.return_worst ≡ worst net d Return
  pub return_head : l.return_head ≡ head net d Return

pub listed_heads : (net : Network) (l : Listed) (d : Design) → heads_agree net l d ≡ true → AreListedHeads net l d
listed_heads net l d e =
    let p1 = and_parts (covers net d d.back && l.supply_worst == worst net d Supply && l.supply_head == head net d Supply && l.return_worst == worst net d Return) (l.return_head == head net d Return) e in
    let p2 = and_parts (covers net d d.back && l.supply_worst == worst net d Supply && l.supply_head == head net d Supply) (l.return_worst == worst net d Return) p1.0 in
    let p3 = and_parts (covers net d d.back && l.supply_worst == worst net d Supply) (l.supply_head == head net d Supply) p2.0 in
    let p4 = and_parts (covers net d d.back) (l.supply_worst == worst net d Supply) p3.0 in
    record {
      covers = p4.0;
      supply_worst = eqb-true _ _ p4.1;
      supply_head = eqb-true _ _ p3.1;
      return_worst = eqb-true _ _ p2.1;
      return_head = eqb-true _ _ p1.1;
    }

pub meets_named : (net : Network) (l : Listed) → IsNetwork net → first_failing net (pair_agrees net l) ≡ None
    → fans_agree net l ≡ true → heads_agree net l (named net l) ≡ true → Meets net (named net l)
meets_named net l valid pairs fans heads =
    let parts = and_parts (fan_agrees net.fans (first_fan l)) (back_agrees net.return_fans l.back) fans in record {
      fits = named_fits net l valid parts.0 parts.1;
      pairs = λ s within. is_there (pair_of net (named net l) s)
          (and_parts (is_some (size_named net s (line_at l s).size)) (is_some (pair_of net (named net l) s)) (every_section net (pair_agrees net l) pairs s within)).1;
      pressure = covers_are net (named net l) (named net l).back (listed_heads net l (named net l) heads).covers;
    }

-- every listed loss and price is its pair's
pub losses_all : (net : Network) (l : Listed) → first_failing net (loss_agrees net l) ≡ None → (s : ℕ) → s < section_count net.tree → loss_agrees net l s ≡ true
losses_all net l none = every_section net (loss_agrees net l) none
