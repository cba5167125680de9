use Rattle.std.proofs.Common.{◌≤◌, ap, ◌∙◌, sym, subst, List, rules}
use Rattle.std.proofs.lemmas.List.Sorted.{All-permutation, answers_always}
use Rattle.pareto_front.specs.declared.point.Point.{Point}
use Rattle.pareto_front.specs.Front.{NeedsWithin}
use Rattle.pareto_front.specs.LaidPoints.{least_among}
use Rattle.pareto_front.specs.InOrder.{IsInOrder}
use Rattle.pareto_front.proofs.LeastAmong.{least_among-permuted}
use Rattle.pareto_front.proofs.InOrderLemmas.{IsInOrder-sorted}
use Rattle.pareto_front.proofs.few_points.take_cheaper.Goals as goal

pub keep_cheaper-requires-clause-order : goal.keep_cheaper-requires-clause-order
keep_cheaper-requires-clause-order c =
    subst IsInOrder (sym c.as_slice.ensures.value)
    (IsInOrder-sorted c.sort_unstable_by_key.new.self.items
    (c.sort_unstable_by_key.ensures.sorted (λ p. (p.need, p.cost)) (answers_always _ _ _ (λ f a r g h. search rules))))

pub returns-in_err-keep_cheaper-clause-up_to : goal.returns-in_err-keep_cheaper-clause-up_to
returns-in_err-keep_cheaper-clause-up_to c cap low = All-permutation (λ p. p.need ≤ cap) c.reverse.new.self.items c.sort_unstable_by_key.new.self.items c.sort_unstable_by_key.ensures.permutation
    (All-permutation (λ p. p.need ≤ cap) c.args.laid.now.items c.reverse.new.self.items c.reverse.ensures.permutation low)

pub returns-clause-value : goal.returns-clause-value
returns-clause-value c budget =
    c.in_ok-keep_cheaper.ensures.value budget
    ∙ ap (λ (l : List Point). least_among l budget) c.as_slice.ensures.value
    ∙ least_among-permuted c.reverse.new.self.items c.sort_unstable_by_key.new.self.items budget c.sort_unstable_by_key.ensures.permutation
    ∙ least_among-permuted c.args.laid.now.items c.reverse.new.self.items budget c.reverse.ensures.permutation

pub returns-clause-needs : goal.returns-clause-needs
returns-clause-needs c cap low =
    c.in_ok-keep_cheaper.ensures.needs cap (subst (NeedsWithin cap) (sym c.as_slice.ensures.value) (All-permutation (λ p. p.need ≤ cap) c.reverse.new.self.items c.sort_unstable_by_key.new.self.items c.sort_unstable_by_key.ensures.permutation
    (All-permutation (λ p. p.need ≤ cap) c.args.laid.now.items c.reverse.new.self.items c.reverse.ensures.permutation low)))
