use Rattle.std.proofs.Common.{◌+◌, length, length-append, ap, sym, ◌∙◌, subst, ◌∷◌, []}
use Rattle.steal_pool.specs.Deals.{Starts}
use Rattle.steal_pool.specs.Dealing.{IsAlone}
use Rattle.steal_pool.proofs.Connecting.{one-more}
use Rattle.steal_pool.proofs.dealing.start_all.Goals as goal

pub loop-i-preserved : goal.loop-i-preserved
loop-i-preserved c =
    let h = c.loop-i.invariant in
    let a = c.in_ok-start.field-0 in
    let is = c.in_ok-push.ensures.items in
    record {
      count = ap length is ∙ length-append c.loop-i.hands.items (a ∷ []) ∙ ap (λ n. n + 1) h.count;
      alone = one-more (λ x y. IsAlone y) c.loop-i.hands.items c.push.new.self.items a is h.alone c.in_ok-start.ensures.alone;
      starts = one-more (λ x y. Starts c.args.tasks.now c.args.n x y) c.loop-i.hands.items c.push.new.self.items a is h.starts
          (subst (λ x. Starts c.args.tasks.now c.args.n x a) (sym h.count) c.in_ok-start.ensures.starts);
    }
