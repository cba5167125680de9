use Rattle.std.proofs.Common.{sym, ◌∙◌, subst, ◌<◌, length, IfSome}
use Rattle.name_index.proofs.PlaceLaws.{place_of-within}
use Rattle.name_index.proofs.index.NameIndex.find.Goals as goal

pub returns-clause-within : goal.returns-clause-within
returns-clause-within c =
    let value = c.copied.ensures ∙ c.get.ensures.value ∙ c.self.invariant c.args.name.now in
    subst (λ names. IfSome c.copied.result (λ place. place < length names)) c.self.view_is
    (subst (λ o. IfSome o (λ place. place < length c.self.inside.names.items)) (sym value) (place_of-within c.args.name.now c.self.inside.names.items))
