-- Bytes that are written piece by piece.
use Rattle.std.proofs.Common.{◌≡◌, ℕ, ◌+◌, ◌-◌, List, length, take, drop, Option, sym, subst, arith, length-drop}
use Rattle.std.proofs.lemmas.List.{take_all}
use Rattle.std.proofs.Math.Seq.{take-add}
use Rattle.std.specs.Io.KnownBytes.{Appends}
use Rattle.std.proofs.KnownBytes.{Appends-trans}

-- after the first i bytes of xs, the first n bytes of `&xs[i..]`
pub appends_more : (a b c : Option (List ℕ)) (xs : List ℕ) (i n : ℕ)
    → Appends a b (take i xs)
    → Appends b c (take n (take (length xs - i) (drop i xs)))
    → Appends a c (take (i + n) xs)
appends_more a b c xs i n before piece =
    let rest : take (length xs - i) (drop i xs) ≡ drop i xs =
    take_all (length xs - i) (drop i xs) (omega (arith, length-drop i xs)) in
    subst (Appends a c) (sym (take-add i n xs)) (Appends-trans a b c _ _ before (rw rest at piece))
