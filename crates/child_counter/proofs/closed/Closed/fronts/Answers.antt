use Rattle.std.proofs.Common.{◌≡◌, ◌+◌, ℕ, List, [], map, ap, sym, ◌∙◌, subst}
use Rattle.std.specs.Prelude.{All, ◌==◌, nat_lt}
use Rattle.std.specs.List.{count_by}
use Rattle.std.specs.List.Sorted.{IsStrictlyIncreasing}
use Rattle.duct_definitions.specs.Tree.{section_count}
use Rattle.contract_join.specs.SectionFronts.{SectionData, AreFrontsOf}
use Rattle.child_counter.specs.Shown.{one_if}
use Rattle.child_counter.specs.Closed.{ClosedData, AreSorted}
use Rattle.child_counter.proofs.Sorted.{fronts-rise, fronts-of-network, each-named, fronts-of-all}
use Rattle.child_counter.proofs.closed.Closed.fronts.Goals as goal

pub returns-clause-rising : goal.returns-clause-rising
returns-clause-rising c =
    let sorted = subst (λ (x : ClosedData). AreSorted x.net x.fronts x.refused) c.self.view_is c.self.invariant.0 in
    let list = c.as_slice.ensures ∙ ap (λ (x : ClosedData). x.fronts) c.self.view_is in
    subst (λ (l : List SectionData). IsStrictlyIncreasing (map (λ (f : SectionData). f.section) l)) (sym list)
    (fronts-rise _ _ _ sorted)

pub returns-clause-network : goal.returns-clause-network
returns-clause-network c =
    let sorted = subst (λ (x : ClosedData). AreSorted x.net x.fronts x.refused) c.self.view_is c.self.invariant.0 in
    let list = c.as_slice.ensures ∙ ap (λ (x : ClosedData). x.fronts) c.self.view_is in
    subst (λ (l : List SectionData). All (λ (f : SectionData). f.net ≡ c.args.self.now.net) l) (sym list)
    (fronts-of-network _ _ _ sorted)

pub returns-clause-once : goal.returns-clause-once
returns-clause-once c =
    let sorted = subst (λ (x : ClosedData). AreSorted x.net x.fronts x.refused) c.self.view_is c.self.invariant.0 in
    let list = c.as_slice.ensures ∙ ap (λ (x : ClosedData). x.fronts) c.self.view_is in
    subst (λ (l : List SectionData). (s : ℕ) → count_by (λ (f : SectionData). f.section == s) l + count_by
    (λ x. x == s) c.args.self.now.refused ≡ one_if (nat_lt s (section_count c.args.self.now.net.tree)))
    (sym list) (each-named _ _ _ sorted)

pub returns-clause-all : goal.returns-clause-all
returns-clause-all c =
    let sorted = subst (λ (x : ClosedData). AreSorted x.net x.fronts x.refused) c.self.view_is c.self.invariant.0 in
    let list = c.as_slice.ensures ∙ ap (λ (x : ClosedData). x.fronts) c.self.view_is in
    subst (λ (l : List SectionData). c.args.self.now.refused ≡ [] → AreFrontsOf c.args.self.now.net l) (sym list)
    (fronts-of-all _ _ _ sorted)
