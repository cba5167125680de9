use Rattle.std.proofs.Common.{◌++◌, ◌∷◌, [], List, ℕ, map, ap, ◌∙◌}
use Rattle.child_counter.specs.Public.{PassData, finished_of}
use Rattle.child_counter.proofs.Taking.{backs-before, last-is, all-outcomes, lists-kept}
use Rattle.child_counter.proofs.counters.Counters.gather.Goals as goal

pub join_all-requires-clause-back : goal.join_all-requires-clause-back
join_all-requires-clause-back c = backs-before c.args.self.now c.args.passes.items c.args.last c.requires.back.each

pub returns-clause-last : goal.returns-clause-last
returns-clause-last c =
    last-is c.args.self.now c.args.passes.items c.args.last c.last.inside.seat.me.0 c.join_all.new.seat.me.0
    c.requires.back
    (ap (λ (q : PassData). q.view) c.last.view_is) c.join_all.ensures.view

pub returns-clause-outcomes : goal.returns-clause-outcomes
returns-clause-outcomes c =
    all-outcomes c.args.passes.items c.args.last c.last.inside.seat.me.0 c.join_all.new.seat.me.0
    (ap (λ (q : PassData). q.view) c.last.view_is) c.last.invariant.alone c.join_all.ensures.view

pub returns-clause-kept : goal.returns-clause-kept
returns-clause-kept c =
    c.push_reserved.ensures.items
    ∙ ap (λ (l : List (List ℕ)). l ++ c.from_vec.result ∷ []) (c.join_all.ensures.lists
    ∙ ap (λ (l : List (List ℕ)). l ++ map finished_of c.args.passes.items) c.requires.none_yet)
    ∙ ap (λ (x : List ℕ). map finished_of c.args.passes.items ++ x ∷ []) c.from_vec.ensures
    ∙ lists-kept c.args.passes.items c.last.inside.seat.me.0 c.join_all.new.seat.me.0 c.last.inside.finished.items
    c.last.invariant.alone c.join_all.ensures.view c.last.invariant.own_is
