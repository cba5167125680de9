-- What a text says otherwise than the design that it names.
--   names_agree, pair_agrees, ..   what has to hold
--   verdict net l                  the first that doesn't
use Rattle.std.specs.Prelude.{ℕ, ◌+◌, ◌<◌, ◌==◌, Bool, true, ◌&&◌, not, nat_le, if◌then◌else◌, List, [], ◌∷◌, length, Option, Some, None, is_some, option_map}
use Rattle.std.specs.List.{list_all}
use Rattle.std.specs.Str.{bytes_eq}
use Rattle.duct_units.specs.declared.side.Side.TheVariants.{Supply, Return}
use Rattle.duct_definitions.specs.declared.design.Design.{Design}
use Rattle.duct_definitions.specs.declared.design.NetFan.{NetFan}
use Rattle.duct_definitions.specs.declared.listed.Listed.{Listed}
use Rattle.duct_definitions.specs.declared.listed.ListedFan.{ListedFan}
use Rattle.duct_definitions.specs.Tree.{section_count, sections}
use Rattle.duct_definitions.specs.Network.{Network, section_name, fan_at, return_fan_at}
use Rattle.duct_definitions.specs.Designs.{pair_of, loss_of, price_of, worst, cost}
use Rattle.duct_definitions.specs.Dampers.{head, damper}
use Rattle.duct_definitions.specs.DesignText.{first_fan}
use Rattle.design_check.specs.declared.verdict.Verdict.{Verdict}
use Rattle.design_check.specs.declared.verdict.Verdict.TheVariants as verdicts
use Rattle.design_check.specs.Named.{first_number, line_at, size_named, fan_of, fan_named, fan_number, named}

-- the section's listed name is its own
abbrev pub name_agrees : Network → Listed → ℕ → Bool
name_agrees net l s = bytes_eq (line_at l s).name (section_name net s)

-- the project's name, the number of sections, and every section's name in order
abbrev pub names_agree : Network → Listed → Bool
names_agree net l =
    bytes_eq l.project net.name && length l.sections == section_count net.tree && list_all (name_agrees net l) (sections net.tree)

-- the section has its listed size, and its pair is there
abbrev pub pair_agrees : Network → Listed → ℕ → Bool
pair_agrees net l s = is_some (size_named net s (line_at l s).size) && is_some (pair_of net (named net l) s)

-- the section's listed loss and price are those of its pair
abbrev pub loss_agrees : Network → Listed → ℕ → Bool
loss_agrees net l s =
    (line_at l s).loss == loss_of (pair_of net (named net l) s) && (line_at l s).price == price_of (pair_of net (named net l) s)

-- a fan of this name is in the list, with this pressure and this cost
abbrev pub fan_agrees : List NetFan → ListedFan → Bool
fan_agrees fans fan =
    is_some (fan_named fans fan.name)
    && (fan_of fans (fan_number fans fan.name)).pressure == fan.pressure && (fan_of fans (fan_number fans fan.name)).cost == fan.cost

-- the same of a return fan, where one is listed
abbrev pub back_agrees : List NetFan → Option ListedFan → Bool
back_agrees fans None = true
back_agrees fans (Some fan) = fan_agrees fans fan

-- the fan and the return fan agree
abbrev pub fans_agree : Network → Listed → Bool
fans_agree net l = fan_agrees net.fans (first_fan l) && back_agrees net.return_fans l.back

-- the fan's pressure covers both sides; or with a return fan the supply side, and the return fan's the return side
abbrev pub covers : Network → Design → Option ℕ → Bool
covers net d None = nat_le (worst net d Supply + worst net d Return) (fan_at net d.fan).pressure
covers net d (Some i) =
    nat_le (worst net d Supply) (fan_at net d.fan).pressure && nat_le (worst net d Return) (return_fan_at net i).pressure

-- the fans cover both sides, and each side's worst loss and head are the listed ones
abbrev pub heads_agree : Network → Listed → Design → Bool
heads_agree net l d =
    covers net d d.back
    && l.supply_worst == worst net d Supply && l.supply_head == head net d Supply
    && l.return_worst == worst net d Return && l.return_head == head net d Return

-- the section's listed damper is the design's
abbrev pub damper_agrees : Network → Listed → ℕ → Bool
damper_agrees net l s = (line_at l s).damper == damper net (named net l) s

-- the first section that fails
abbrev pub first_failing : Network → (ℕ → Bool) → Option ℕ
first_failing net test = first_number (λ s. not (test s)) (section_count net.tree)

-- the verdict, where the test fails
abbrev pub unless : Bool → Verdict → Option Verdict
unless holds verdict = if holds then None else Some verdict

-- the first difference, or that there is none
abbrev pub first_of : List (Option Verdict) → Verdict
first_of [] = verdicts.Yes
first_of (None ∷ others) = first_of others
first_of (Some verdict ∷ others) = verdict

-- the first difference between the text and the design that it names
unfoldable pub verdict : Network → Listed → Verdict
verdict net l = first_of (
    unless (names_agree net l) verdicts.Name
    ∷ option_map verdicts.Pair (first_failing net (pair_agrees net l))
    ∷ option_map verdicts.Loss (first_failing net (loss_agrees net l))
    ∷ unless (fans_agree net l) verdicts.Fan
    ∷ unless (heads_agree net l (named net l)) verdicts.Head
    ∷ option_map verdicts.Damper (first_failing net (damper_agrees net l))
    ∷ unless (l.total == cost net (named net l)) verdicts.Cost
    ∷ [])

-- the section that a verdict names is one of the network
abbrev pub NamesSection : Network → Verdict → Type 0
NamesSection net (verdicts.Pair s) = s < section_count net.tree
NamesSection net (verdicts.Loss s) = s < section_count net.tree
NamesSection net (verdicts.Damper s) = s < section_count net.tree
NamesSection net verdict = Unit {0}
