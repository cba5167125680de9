use Rattle.std.proofs.Common.{◌≡◌, sym, subst, arith}
use Rattle.std.specs.Prelude.{IsTrue}
use Rattle.std.proofs.lemmas.Grind.{common_steps}
use Rattle.duct_units.specs.Name.{is_name}
use Rattle.duct_load.specs.Made.{numbered}
use Rattle.duct_load.proofs.NameLaws.{numbered_is_name, letter_is_ascii}
use Rattle.duct_load.proofs.making.numbered.Goals as goal

pub unwrap-requires : goal.unwrap-requires
unwrap-requires c =
    let ascii = c.push.ensures.ascii (letter_is_ascii c.args.letter c.requires.letter) in
    let same : c.as_bytes.result.now ≡ numbered c.args.letter c.args.i = grind (arith, common_steps) in
    c.new.ensures.some.1 (subst (λ bs. IsTrue (is_name bs)) (sym same) (numbered_is_name c.args.letter c.args.i c.requires.letter c.requires.few))
