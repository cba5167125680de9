use Rattle.std.proofs.Common.{◌++◌, ◌∷◌, [], ap, sym, ◌∙◌, subst}
use Rattle.steal_pool.specs.declared.parting.Row.{Row}
use Rattle.steal_pool.specs.Gathers.{IsParted}
use Rattle.steal_pool.proofs.Parted.{parted-more, whole-more}
use Rattle.steal_pool.proofs.parting.part_all.Goals as goal

pub loop-hands-preserved : goal.loop-hands-preserved
loop-hands-preserved c =
    let inv = c.loop-hands.invariant in
    let h = c.take_first.result in
    let a = c.apart-own.ensures in
    let row : Row = record { reaches = c.apart-own.result.1 } in
    let own = c.apart-own.result.0 in
    let more = parted-more inv.0 c.loop-hands.owns.items c.loop-hands.rows.items c.loop-hands.taken.items h own row inv.2 a.own a.parts a.share a.reaches a.counts in
    let taken = c.in_ok-extend_from_slice.ensures.items ∙ ap (λ l. c.loop-hands.taken.items ++ l) (c.as_slice.ensures.value ∙ a.taken) in
    let done = inv.0 ++ h ∷ [] in (
      done,
      whole-more inv.0 c.take_first.new.list.items c.loop-hands.hands.items c.args.hands.items h inv.1 c.take_first.ensures,
      subst (λ x. IsParted done x c.push-in-loop-hands.new.self.items c.extend_from_slice.new.self.items) (sym c.in_ok-push.ensures.items)
          (subst (λ y. IsParted done (c.loop-hands.owns.items ++ own ∷ []) y c.extend_from_slice.new.self.items) (sym c.in_ok-push-2.ensures.items)
          (subst (λ z. IsParted done (c.loop-hands.owns.items ++ own ∷ []) (c.loop-hands.rows.items ++ row ∷ []) z) (sym taken) more)),
    )
