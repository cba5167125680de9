use Rattle.std.proofs.Common.{◌≡◌, ◌<◌, ◌++◌, ◌∷◌, [], ℕ, length, All, ap, ◌∙◌, sym, subst, arith}
use Rattle.std.proofs.lemmas.List.Elements.{All-nil, All-push}
use Rattle.size_catalogue.specs.Catalogue.{numbers_of}
use Rattle.net_build.proofs.ListLaws.{taken, taken-all}
use Rattle.net_build.proofs.catalogues.numbers_of.Goals as goal

pub loop-k-init : goal.loop-k-init
loop-k-init c = record {
  numbers = c.new-numbers.ensures.items;
  within = subst (All (λ n. n < length c.args.sizes.now.sizes)) (sym c.new-numbers.ensures.items) (All-nil (λ (n : ℕ). n < length c.args.sizes.now.sizes));
}

pub loop-k-preserved : goal.loop-k-preserved
loop-k-preserved c =
    let v = c.loop-k.invariant in
    let e = c.number.ensures in
    record {
      numbers = c.in_ok-push.ensures.items ∙ ap (λ ns. ns ++ c.number.result ∷ []) v.numbers ∙ taken (numbers_of c.args.list c.args.sizes.now.sizes) c.loop-k.k c.number.result e.value;
      within = subst (All (λ n. n < length c.args.sizes.now.sizes)) (sym c.in_ok-push.ensures.items) (All-push (λ (n : ℕ). n < length c.args.sizes.now.sizes) c.loop-k.numbers.items c.number.result v.within e.within);
    }

pub returns-clause-value : goal.returns-clause-value
returns-clause-value c =
    c.from_vec.ensures ∙ c.loop-k.invariant.numbers ∙ taken-all (numbers_of c.args.list c.args.sizes.now.sizes) c.loop-k.k (let e = c.count-k-end.ensures in omega arith)

pub returns-clause-within : goal.returns-clause-within
returns-clause-within c = subst (All (λ n. n < length c.args.sizes.now.sizes)) (sym c.from_vec.ensures) c.loop-k.invariant.within

pub returns-clause-few : goal.returns-clause-few
returns-clause-few c =
    let all : length c.from_vec.result ≡ length (numbers_of c.args.list c.args.sizes.now.sizes) =
    ap length (c.from_vec.ensures ∙ c.loop-k.invariant.numbers ∙ taken-all (numbers_of c.args.list c.args.sizes.now.sizes) c.loop-k.k (let e = c.count-k-end.ensures in omega arith)) in
    let few = c.sizes_are_a_catalogue.ensures.sizes_fit c.args.list in
    omega arith
