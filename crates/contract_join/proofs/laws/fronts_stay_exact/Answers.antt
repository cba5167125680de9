use Rattle.std.proofs.Common.{ℕ, ◌*◌, ◌<◌, sym, ◌∙◌, subst}
use Rattle.std.specs.Prelude.{All}
use Rattle.pareto_front.specs.Front.{NeedsWithin, CostsWithin, cheapest}
use Rattle.duct_definitions.specs.declared.limits.TheConstants.{MAX_PRICE}
use Rattle.duct_definitions.specs.Tree.{Tree, section_count}
use Rattle.contract_join.specs.SectionFronts.{front_of}
use Rattle.contract_join.proofs.laws.fronts_stay_exact.Goals as goal

pub returns : goal.returns
returns c net other kept tree agree same_cap exact =
    let same_tree = sym agree.tree in
    record {
      in_range = subst (λ (t : Tree). kept.section < section_count t) same_tree exact.in_range;
      count = exact.count ∙ sym (c.least_depends_on_pairs_beyond.ensures.columns net other kept.section agree kept.section);
      rising = exact.rising;
      exact = c.least_depends_on_pairs_beyond.ensures.exact net other kept.section agree tree same_cap
          (λ g budget. cheapest (front_of kept.fronts g) budget) exact.exact;
      needs = subst (λ (n : ℕ). All (NeedsWithin n) kept.fronts) (sym same_cap) exact.needs;
      costs = subst (λ (t : Tree). All (CostsWithin (section_count t * MAX_PRICE)) kept.fronts) same_tree exact.costs;
    }
