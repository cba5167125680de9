-- The flows of a tree have an entry for each of its sections.
use Rattle.std.proofs.Common.{◌≡◌, length, Option, Some, None, Ok, ap, sym, ◌∙◌}
use Rattle.std.proofs.lemmas.List.FromFn.{length-map-range_with_len}
use Rattle.duct_units.specs.declared.fault.Fault.{Fault}
use Rattle.duct_units.specs.Rules.{first_broken, unless_refused}
use Rattle.duct_definitions.specs.Airflow.{Airflows, Flows, flow, flow_rules, flows_of}
use Rattle.duct_definitions.specs.Tree.{Tree, section_count}

given : (refusal : Option Fault) (value got : Flows) → unless_refused refusal value ≡ Ok got → value ≡ got
given None value got is = cc
given (Some fault) value got is = cc

pub length-flows : (t : Tree) (air : Airflows) (flows : Flows) → unless_refused (first_broken (flow_rules t air)) (flows_of t air) ≡ Ok flows
    → length flows.sections ≡ section_count t
length-flows t air flows is =
    sym (ap (λ (f : Flows). length f.sections) (given (first_broken (flow_rules t air)) (flows_of t air) flows is))
    ∙ length-map-range_with_len (flow t air) 0 (section_count t)
