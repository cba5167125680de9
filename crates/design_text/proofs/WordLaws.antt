-- Numbers of a design text: what is found is what stands there, and what stands there is found.
use Rattle.std.proofs.Common.{◌≡◌, ℕ, ◌≤◌, false, List, ◌∷◌, ◌++◌, Some, decimal, arith}
use Rattle.std.specs.Char.{is_ascii_digit}
use Rattle.line_words.specs.Readers.{IsFree}
use Rattle.line_words.proofs.WordLaws as words
use Rattle.design_text.specs.declared.words.TheConstants.{MAX_NUMBER}
use Rattle.design_text.specs.Fields.{number_before}

pub number_takes : (c : ℕ) (bytes : List ℕ) (n : ℕ) (rest : List ℕ) → number_before c bytes ≡ Some (n, rest) → (n ≤ MAX_NUMBER) × (bytes ≡ decimal n ++ c ∷ rest)
number_takes c bytes n rest e = words.number_takes MAX_NUMBER (omega arith) c bytes n rest e

pub number_again : (c n : ℕ) (rest : List ℕ) → n ≤ MAX_NUMBER → IsFree c (decimal n) → number_before c (decimal n ++ c ∷ rest) ≡ Some (n, rest)
number_again c n rest small free = words.number_again MAX_NUMBER (omega arith) c n rest small free

pub number_free : (c n : ℕ) → is_ascii_digit c ≡ false → n ≤ MAX_NUMBER → IsFree c (decimal n)
number_free c n other small = words.number_free MAX_NUMBER (omega arith) c n other small
