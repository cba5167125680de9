use Rattle.std.proofs.Common.{◌≡◌, ◌+◌, ◌++◌, drop, sym, subst}
use Rattle.steal_pool.specs.Deals.{share_from, share_of}
use Rattle.steal_pool.proofs.Shares.{share-yes, share-no}
use Rattle.steal_pool.proofs.dealing.cut_share.Goals as goal
use Rattle.steal_pool.proofs.dealing.cut_share.Goals.{then-p-n+in_ok-push, else-p-n}

pub loop-p-preserved : goal.loop-p-preserved
loop-p-preserved c =
    let all = share_of c.args.tasks.now c.args.n c.args.i in
    let p = c.loop-p.p in
    let rest = share_from (p + 1) c.args.n c.args.i (drop (p + 1) c.args.tasks.now) in
    elim c.if-p-n.branch [
      | then-p-n+in_ok-push w ↦ subst (λ v. v.items ++ rest ≡ all) (sym w.share-is)
          (subst (λ l. l ++ rest ≡ all) (sym w.in_ok-push.ensures.items) (share-yes c.loop-p.share.items c.args.tasks.now all p c.args.n c.args.i c.loop-p-test.true w.if-p-n.true c.loop-p.invariant))
      | else-p-n w ↦ subst (λ v. v.items ++ rest ≡ all) (sym w.share-is) (share-no c.loop-p.share.items c.args.tasks.now all p c.args.n c.args.i c.loop-p-test.true w.if-p-n.false c.loop-p.invariant)
    ]
