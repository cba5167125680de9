-- A network that is made again from the parts of one before.
use Rattle.std.proofs.Common.{◌≡◌, ℕ, ◌<◌, List, [], map, All, Option, Some, None, Ok, Err, ap, sym, ◌∙◌, subst, arith}
use Rattle.std.specs.Prelude.{unwrap_or}
use Rattle.std.proofs.lemmas.Option.{slice_get-get_or}
use Rattle.duct_units.specs.declared.fault.Fault.{Fault}
use Rattle.duct_units.specs.declared.fault.ReadError.{ReadError}
use Rattle.duct_units.specs.declared.fault.ReadError.TheVariants.{Refused}
use Rattle.duct_units.specs.Rules.{Fails, first_broken, unless_refused}
use Rattle.duct_units.proofs.RuleLaws.{none_broken}
use Rattle.duct_definitions.specs.declared.design.NetFan.{NetFan}
use Rattle.duct_definitions.specs.declared.design.Pair.{Pair}
use Rattle.duct_definitions.specs.Airflow.{fan_flow}
use Rattle.duct_definitions.specs.Network.{Network, IsNetwork, IsBounded, AreFans}
use Rattle.duct_definitions.specs.Tree.{section_count, sections}
use Rattle.fan_points.specs.declared.row.FanRow.{FanRow}
use Rattle.project_file.specs.declared.project.Project.{Project}
use Rattle.project_file.specs.Projects.{IsProject}
use Rattle.size_catalogue.specs.Catalogue.{IsCatalogue}
use Rattle.design_rules.specs.Meanings.{Meaning}
use Rattle.net_model.specs.declared.network.NetworkParts.{NetworkParts}
use Rattle.net_model.specs.Parts.{parts_of}
use Rattle.net_build.specs.Built.{network_of, section_pairs, with_pairs_and_fans}
use Rattle.net_build.specs.Catalogues.{Catalogues}
use Rattle.net_build.specs.Fans.{offered}
use Rattle.net_build.specs.Joining.{joining_rules, rules_of_section}
use Rattle.net_build.proofs.NetworkLaws.{is-network}

-- where every name joins something, no section is refused
pub section-joins : (p : Project) (c : Catalogues) (s : ℕ) → first_broken (joining_rules p c) ≡ None → s < section_count p.tree → first_broken (rules_of_section p c s) ≡ None
section-joins p c s joined within = none_broken (rules_of_section p c) 0 (section_count p.tree) s joined (omega arith) (omega arith)

pub never-refused : {Y : Type 0} (o : Option Fault) (value : Y) (error : ReadError) (fault : Fault) → o ≡ None → error ≡ Refused fault → Fails error (unless_refused o value) → ⊥
never-refused None value error fault none is fails = (let e : Ok value ≡ Err fault = subst (λ (x : ReadError). Fails x (Ok value)) is fails in cc e)
never-refused (Some other) value error fault none is fails = cc none

-- every pair of a network is within its bounds
pub pairs-bounded : (net : Network) → IsNetwork net → All (All IsBounded) net.pairs
pairs-bounded net is k d less =
    (let count = is.pair_lists in
    subst (All IsBounded) (ap (λ o. unwrap_or o []) (slice_get-get_or net.pairs k d less)) (is.sections k (omega arith)).bounds)

pub remade : (p : Project) (c : Catalogues) (rows : List FanRow) (rules : List Meaning) (net : Network) (parts : NetworkParts) (pairs : List (List (Option Pair))) (fans : List NetFan) → parts ≡ parts_of net
    → net ≡ with_pairs_and_fans p c net.pairs net.fans → pairs ≡ map (section_pairs p c rules) (sections p.tree) → fans ≡ offered rows p.energy (fan_flow p.flows)
    → ◌≡◌ {A = Network} (record { name = parts.name; tree = parts.tree; names = parts.names; sizes = parts.sizes; pairs = pairs; fans = fans; return_fans = [] }) (network_of p c rows rules)
remade p c rows rules net parts pairs fans are frame made offer =
    ap (λ (x : NetworkParts). record { name = x.name; tree = x.tree; names = x.names; sizes = x.sizes; pairs = pairs; fans = fans; return_fans = [] }) are
    ∙ ap (λ (n : Network). record { name = n.name; tree = n.tree; names = n.names; sizes = n.sizes; pairs = pairs; fans = fans; return_fans = [] }) frame
    ∙ ap (λ ps. with_pairs_and_fans p c ps fans) made
    ∙ ap (λ f. with_pairs_and_fans p c (map (section_pairs p c rules) (sections p.tree)) f) offer

pub remade-is : (p : Project) (c : Catalogues) (rows : List FanRow) (rules : List Meaning) (net : Network) (parts : NetworkParts) (pairs : List (List (Option Pair))) (fans : List NetFan) → parts ≡ parts_of net
    → net ≡ with_pairs_and_fans p c net.pairs net.fans → pairs ≡ map (section_pairs p c rules) (sections p.tree) → fans ≡ offered rows p.energy (fan_flow p.flows)
    → IsProject p → IsCatalogue c.sizes → first_broken (joining_rules p c) ≡ None → AreFans fans → All (All IsBounded) pairs
    → IsNetwork (record { name = parts.name; tree = parts.tree; names = parts.names; sizes = parts.sizes; pairs = pairs; fans = fans; return_fans = [] })
remade-is p c rows rules net parts pairs fans are frame made offer is sizes joined names bounds =
    subst IsNetwork (sym (remade p c rows rules net parts pairs fans are frame made offer))
    (is-network p c rows rules is sizes joined (subst AreFans offer names) (subst (All (All IsBounded)) made bounds))
