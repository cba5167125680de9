use Rattle.std.proofs.Common.{◌∙◌, ℕ, sym, subst, List, length}
use Rattle.std.proofs.lemmas.Iterator.Adapters.{YieldsList-from_vec}
use Rattle.std.proofs.lemmas.Iterator.Consumers.{YieldsList-turn, YieldsList-end}
use Rattle.std.proofs.lemmas.List.{length_push}
use Rattle.contract_join.specs.SectionFronts.{SectionData, AreFrontsOf}
use Rattle.edit_session.specs.Condensed.{AreKeptOf}
use Rattle.edit_session.proofs.Fronts.{AreKeptTo, kept-all, kept-more}
use Rattle.edit_session.proofs.condensing.released.Goals as goal

pub loop-front-preserved : goal.loop-front-preserved
loop-front-preserved c =
    let items : List SectionData = c.into_vec-front-items.result.items in
    let made = c.into_iter-front-iterator.ensures.into_iter_gives in
    let turn = YieldsList-turn (YieldsList-from_vec {s = c.into_iter-front-iterator.result} items made.0 (made.1 ∙ c.into_vec-front-items.result.ok.0))
    c.loop-front.yielded c.loop-front.front-iterator c.loop-front.yielded_by c.next.result c.next.new.self c.in-Some.front c.in-Some.is c.next.ensures.steps in
    subst (λ (n : ℕ). AreKeptTo c.args.net.now n c.push.new.self.items) (sym (length_push c.loop-front.yielded c.in-Some.front))
    (kept-more c.args.net.now items c.loop-front.kept.items c.push.new.self.items (length c.loop-front.yielded) c.in-Some.front c.release.result (subst (AreFrontsOf c.args.net.now) (sym c.into_vec-front-items.ensures) c.requires) turn.0 turn.1
    c.loop-front.invariant c.release.ensures.section c.release.ensures.kept c.in_ok-push.ensures.items)

pub returns : goal.returns
returns c =
    let items : List SectionData = c.into_vec-front-items.result.items in
    let made = c.into_iter-front-iterator.ensures.into_iter_gives in
    let end = YieldsList-end (YieldsList-from_vec {s = c.into_iter-front-iterator.result} items made.0 (made.1 ∙ c.into_vec-front-items.result.ok.0))
    c.loop-front.yielded c.loop-front.front-iterator c.loop-front.yielded_by c.next.result c.next.new.self c.in-None.is c.next.ensures.steps in
    subst (AreKeptOf c.args.net.now) (sym c.from_vec.ensures)
    (kept-all c.args.net.now items c.loop-front.kept.items (length c.loop-front.yielded) (subst (AreFrontsOf c.args.net.now) (sym c.into_vec-front-items.ensures) c.requires) end.1 c.loop-front.invariant)
