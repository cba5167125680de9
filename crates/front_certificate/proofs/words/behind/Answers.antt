use Rattle.std.proofs.Common.{◌≡◌, ℕ, List, length, ap, refl, ◌∙◌, take}
use Rattle.std.proofs.lemmas.Bool.{false≢true}
use Rattle.std.proofs.lemmas.List.{take_at}
use Rattle.std.proofs.lemmas.Slice.Eq.{bytes_eq-Decides}
use Rattle.front_certificate.proofs.words.behind.Goals as goal

pub returns-else-eq-clause-none : goal.returns-else-eq-clause-none
returns-else-eq-clause-none c rest is =
    let word = c.args.word.now in
    let same : c.split_at.result.0.now ≡ word =
    c.split_at.ensures.front ∙ ap (λ (l : List ℕ). take (length word) l) is ∙ take_at word rest (length word) refl in
    false≢true (c.if-eq.ensures ∙ (bytes_eq-Decides c.split_at.result.0.now word).1 same)
