use Rattle.std.proofs.Common.{◌≡◌, ◌++◌, ◌∷◌, [], List, ℕ, length, refl, ap, sym, ◌∙◌, arith, subst}
use Rattle.std.proofs.lemmas.List.{length_push}
use Rattle.std.specs.Vec.Iter.{into_iter_items}
use Rattle.child_counter.specs.Passes.{both_views, sections_of}
use Rattle.child_counter.specs.Public.{PassData, finished_of}
use Rattle.child_counter.specs.declared.view.PassView.{PassView}
use Rattle.child_counter.proofs.Taking.{taking-more, retake}
use Rattle.child_counter.proofs.counters.Counters.join_all.Goals as goal

pub loop-pass-preserved : goal.loop-pass-preserved
loop-pass-preserved c =
    let at = c.loop-pass in
    let p : PassData = c.in-Some.pass in
    let steps : into_iter_items at.pass-iterator ≡ p ∷ into_iter_items c.next.new.self = c.in-Some.ensures.steps.0 in
    let seen : c.pass.inside.seat.me.0 ≡ p.view = ap (λ (q : PassData). q.view) c.pass.view_is in
    let alone = subst (λ (x : PassView). x.joined ≡ []) seen c.pass.invariant.alone in
    let before = retake _ _ _ _ _ _ _ _ _ _ _ at.invariant.0 steps refl refl in
    let me : both_views at.seat.me.0 p.view ≡ c.join.new.pass.me.0 = sym (ap (λ m. m.0) c.join.ensures.1
    ∙ ap (both_views at.seat.me.0) seen) in
    let own : finished_of p ≡ c.from_vec.result = ap (λ (x : PassView). sections_of x.own) (sym seen)
    ∙ c.pass.invariant.own_is ∙ sym c.from_vec.ensures in
    let pushed : at.lists.items ++ finished_of p ∷ [] ≡ c.push_reserved.new.self.items =
    ap (λ (x : List ℕ). at.lists.items ++ x ∷ []) own ∙ sym c.push_reserved.ensures.items in (
      retake _ _ _ _ _ _ _ _ _ _ _ (taking-more _ _ _ at.yielded
          (into_iter_items c.next.new.self) at.seat.me.0 _ _ p before alone) refl me pushed,
      (let was = at.invariant.1 in let gone = c.in-Some.ensures.steps.1 in let short = ap length steps in omega
          arith),
      c.join.ensures.0 ∙ at.invariant.2,
      (let a = at.invariant.3 in let b = c.push_reserved.ensures.len in let d = length_push at.yielded p in omega
          arith),
      (let a = at.invariant.4 in let b = c.push_reserved.ensures.capacity in omega arith),
      (let a = at.invariant.5 in let b = ap (λ (y : PassView). y.parts) me in omega arith),
    )
