-- A whole design text is read exactly.
use Rattle.std.proofs.Common.{◌≡◌, ℕ, suc, ◌+◌, ◌≤◌, false, List, [], ◌∷◌, ◌++◌, length, Option, Some, None, Result, Ok, Err, decimal, refl, sym, ap, subst, ◌∙◌, arith, length-append}
use Rattle.std.specs.Prelude.{codes, ◌==◌}
use Rattle.std.proofs.lemmas.Option.{some_pair_parts}
use Rattle.duct_units.specs.Lines.{line}
use Rattle.duct_units.specs.Options.{◌>>=◌ as ◌>>?◌}
use Rattle.duct_units.specs.Rules.{line_fault}
use Rattle.duct_units.specs.declared.fault.Fault.{Fault}
use Rattle.duct_units.specs.declared.fault.Reason.TheVariants.{Form}
use Rattle.duct_definitions.specs.declared.limits.TheConstants.{MAX_SECTIONS}
use Rattle.duct_definitions.specs.declared.listed.Listed.{Listed}
use Rattle.duct_definitions.specs.declared.listed.ListedSection.{ListedSection}
use Rattle.design_text.specs.declared.words.TheConstants.{MAX_NUMBER}
use Rattle.design_text.specs.Texts.{Begins}
use Rattle.line_words.specs.Words.{after_word}
use Rattle.line_words.specs.Readers.{IsReaderOf}
use Rattle.design_text.specs.Fields.{number_at, numbers_at, section_at}
use Rattle.duct_units.specs.Results.{◌>>=◌}
use Rattle.design_text.specs.Reading.{at_line, cost_at, ended_at, end_at}
use Rattle.line_words.proofs.WordLaws.{word_takes, word_again}
use Rattle.line_words.proofs.LineLaws.{word_is}
use Rattle.design_text.proofs.LineLaws.{number_reader, numbers_reader, cost_is_no_section}
use Rattle.design_text.proofs.BadLines.{Texts, After, begins_none, first_of}
use Rattle.design_text.proofs.Readers.{Refuses, IsReader, reader_same, at_once, line_then, then_read, ok_err, same_Err}
use Rattle.design_text.proofs.SectionRuns.{More, IsTail, run_from, run_read}

-- ---- the end

-- these fields, and nothing more
abbrev pub Ended : Listed → Listed → List ℕ → Type 0
Ended l b bytes = (b ≡ l) × (bytes ≡ [])

not_zero : (n : ℕ) → (suc n == 0) ≡ false
not_zero n = grind arith

ended_ok : (n : ℕ) (l b : Listed) (bytes : List ℕ) → ended_at n l bytes ≡ Ok b → Ended l b bytes
ended_ok n l b [] e = (cc, refl)
ended_ok n l b (byte ∷ bytes) e = absurd (ok_err b (line_fault n Form) (rw not_zero at e))

ended_all : (n : ℕ) (l b : Listed) (bytes : List ℕ) → Ended l b bytes → ended_at n l bytes ≡ Ok b
ended_all n l b bytes is = ap (ended_at n l) is.1 ∙ ap (λ (x : Listed). Ok x) (sym is.0)

not_begun : (l : Listed) (bytes : List ℕ) → Begins (Texts (Ended l)) 1 bytes → ⊥
not_begun l bytes begun =
    let of = first_of 0 bytes begun.lines begun.first in
    let nothing : (of.first ++ 10 ∷ of.others) ++ begun.rest ≡ [] = ap (λ (x : List ℕ). x ++ begun.rest) (sym of.whole) ∙ begun.is.1.1 in
    let none : length ((of.first ++ 10 ∷ of.others) ++ begun.rest) ≡ 0 = ap length nothing in
    omega (arith, none, length-append (of.first ++ 10 ∷ of.others) begun.rest, length-append of.first (10 ∷ of.others))

ended_err : (n : ℕ) (l : Listed) (bytes : List ℕ) (fault : Fault) → ended_at n l bytes ≡ Err fault → Refuses (Ended l) n bytes fault
ended_err n l [] fault e = absurd cc
ended_err n l (byte ∷ bytes) fault e = record {
  bad = 1;
  line = n;
  place = refl;
  says = sym (same_Err (line_fault n Form) fault (rw not_zero at e));
  first = record {
    before = λ i lt. subst (λ j. Begins (Texts (Ended l)) j (byte ∷ bytes)) (let z : 0 ≡ i = omega (arith, lt) in z) (begins_none (Texts (Ended l)) (byte ∷ bytes) [] (l, (refl, refl)));
    bad = not_begun l (byte ∷ bytes);
  };
}

ended_read : (n : ℕ) (l : Listed) → IsReader (Ended l) n (ended_at n l)
ended_read n l = record { ok = λ bytes b e. ended_ok n l b bytes e; all = λ bytes b is. ended_all n l b bytes is; err = ended_err n l; value = l; text = []; some = (refl, refl) }

-- nothing, and the rest
abbrev nothing_and : List ℕ → Option (Unit {0} × List ℕ)
nothing_and rest = Some (tt, rest)

-- the line of the end says nothing
abbrev end_line_at : List ℕ → Option (Unit {0} × List ℕ)
end_line_at bytes = after_word (codes "end") 10 bytes >>? nothing_and

end_taken : (bytes : List ℕ) (o : Option (List ℕ)) (u : Unit {0}) (rest : List ℕ) → (o >>? nothing_and) ≡ Some (u, rest) → o ≡ Some rest
end_taken bytes None u rest e = absurd cc
end_taken bytes (Some r) u rest e = ap (λ (x : List ℕ). Some x) (some_pair_parts tt u r rest e).1

end_reader : IsReaderOf (λ (u : Unit {0}). Unit {0}) (λ u. line (codes "end") []) end_line_at
unfolding line
end_reader = record {
  takes = λ bytes u rest e.
      (tt, word_takes (codes "end") 10 bytes rest (end_taken bytes (after_word (codes "end") 10 bytes) u rest e));
  again = λ u rest fits. ap (λ o. o >>? nothing_and) (word_again (codes "end") 10 rest (word_is (codes "end") refl).end);
  lines = λ u fits. record { before = codes "end"; free = (word_is (codes "end") refl).end; whole = refl };
}

abbrev pub LastOf : Listed → Listed → List ℕ → Type 0
LastOf l = After (λ (u : Unit {0}). Unit {0}) (λ u. line (codes "end") []) (λ u. Ended l)

end_alike : (n : ℕ) (l : Listed) (o : Option (List ℕ)) → (at_line n o >>= λ rest. ended_at (n + 1) l rest) ≡ (at_line n (o >>? nothing_and) >>= λ x. ended_at (n + 1) l x.1)
end_alike n l None = refl
end_alike n l (Some r) = refl

end_read : (n : ℕ) (l : Listed) → IsReader (LastOf l) n (end_at n l)
end_read n l = reader_same (LastOf l) (LastOf l) n n (line_then n end_line_at (λ x. ended_at (n + 1) l x.1)) (end_at n l) (record { to = λ b bytes is. is; from = λ b bytes is. is }) refl
    (λ bytes. end_alike n l (after_word (codes "end") 10 bytes))
    (then_read (λ (u : Unit {0}). Unit {0}) (λ u. line (codes "end") []) end_line_at (λ u. Ended l) n (λ x. ended_at (n + 1) l x.1) tt tt end_reader (λ u fits. ended_read (n + 1) l))

-- ---- the cost

-- the line of the cost and the end
abbrev pub CostOf : (ℕ → Listed) → Listed → List ℕ → Type 0
CostOf made = After (λ n. n ≤ MAX_NUMBER) (λ n. line (codes "cost") (decimal n ∷ [])) (λ n. LastOf (made n))

abbrev pub cost_tail : ℕ → (List ListedSection → ℕ → Listed) → List ListedSection → List ℕ → Result Listed Fault
cost_tail k made ss bytes = at_line (k + length ss) (cost_at (length ss) bytes) >>= λ total. end_at (k + length ss + 1) (made ss total.0) total.1

cost_read : (k : ℕ) (made : ℕ → Listed) → IsReader (CostOf made) k (line_then k (number_at (codes "cost")) (λ total. end_at (k + 1) (made total.0) total.1))
cost_read k made =
    then_read (λ n. n ≤ MAX_NUMBER) (λ n. line (codes "cost") (decimal n ∷ [])) (number_at (codes "cost")) (λ n. LastOf (made n)) k (λ total. end_at (k + 1) (made total.0) total.1)
    0 (omega arith) (number_reader (codes "cost") (word_is (codes "cost") refl)) (λ n fits. end_read (k + 1) (made n))

cost_there : (ss : List ListedSection) (bytes : List ℕ) → 1 ≤ length ss → cost_at (length ss) bytes ≡ number_at (codes "cost") bytes
cost_there [] bytes some = absurd (omega (arith, some))
cost_there (s ∷ ss) bytes some = rw (not_zero (length ss)) refl

cost_is_tail : (k : ℕ) (made : List ListedSection → ℕ → Listed) → IsTail MAX_SECTIONS k (λ ss. CostOf (made ss)) (cost_tail k made)
cost_is_tail k made = record {
  reader = λ ss some few. reader_same (CostOf (made ss)) (CostOf (made ss)) (k + length ss) (k + length ss) (line_then (k + length ss) (number_at (codes "cost")) (λ total. end_at (k + length ss + 1) (made ss total.0) total.1)) (cost_tail k made ss)
      (record { to = λ b bytes is. is; from = λ b bytes is. is }) refl
      (λ bytes. ap (λ o. at_line (k + length ss) o >>= λ total. end_at (k + length ss + 1) (made ss total.0) total.1) (cost_there ss bytes some))
      (cost_read (k + length ss) (made ss));
  none = λ bytes. ap (λ n. Err (line_fault n Form)) (let e : k + 0 ≡ k = omega arith in e);
  apart = λ ss b bytes is. ap section_at is.parts ∙ cost_is_no_section is.value is.rest;
}

-- ---- the sections, and the lines before them

abbrev pub SectionsOf : (List ListedSection → ℕ → Listed) → Listed → List ℕ → Type 0
SectionsOf made = More MAX_SECTIONS [] (λ ss. CostOf (made ss))

sections_read : (k : ℕ) (made : List ListedSection → ℕ → Listed) → IsReader (SectionsOf made) k (run_from (cost_tail k made) [] MAX_SECTIONS)
sections_read k made =
    at_once (SectionsOf made) (k + 0) k (run_from (cost_tail k made) [] MAX_SECTIONS) (omega arith)
    (run_read MAX_SECTIONS k (λ ss. CostOf (made ss)) (cost_tail k made) MAX_SECTIONS [] (omega arith) (cost_is_tail k made) refl)

abbrev pub AreNumbers : ℕ × ℕ → Type 0
AreNumbers p = (p.0 ≤ MAX_NUMBER) × (p.1 ≤ MAX_NUMBER)

abbrev pub numbers_line : List ℕ → ℕ × ℕ → List ℕ
numbers_line word p = line word (decimal p.0 ∷ decimal p.1 ∷ [])

-- the lines from the return side's numbers on
abbrev pub ReturnOf : (ℕ × ℕ → List ListedSection → ℕ → Listed) → Listed → List ℕ → Type 0
ReturnOf made = After AreNumbers (numbers_line (codes "return")) (λ p. SectionsOf (made p))

abbrev pub return_at : ℕ → (ℕ × ℕ → List ListedSection → ℕ → Listed) → List ℕ → Result Listed Fault
return_at form made = line_then (form + 4) (numbers_at (codes "return")) (λ back. run_from (cost_tail (form + 5) (made back.0)) [] MAX_SECTIONS back.1)

return_read : (form : ℕ) (made : ℕ × ℕ → List ListedSection → ℕ → Listed) → IsReader (ReturnOf made) (form + 4) (return_at form made)
return_read form made =
    then_read AreNumbers (numbers_line (codes "return")) (numbers_at (codes "return")) (λ p. SectionsOf (made p)) (form + 4) (λ back. run_from (cost_tail (form + 5) (made back.0)) [] MAX_SECTIONS back.1)
    (0, 0) (omega arith, omega arith) (numbers_reader (codes "return") (word_is (codes "return") refl))
    (λ p fits. at_once (SectionsOf (made p)) (form + 5) (form + 4 + 1) (run_from (cost_tail (form + 5) (made p)) [] MAX_SECTIONS) (omega arith) (sections_read (form + 5) (made p)))

-- the lines from the supply side's numbers on
abbrev pub SupplyOf : (ℕ × ℕ → ℕ × ℕ → List ListedSection → ℕ → Listed) → Listed → List ℕ → Type 0
SupplyOf made = After AreNumbers (numbers_line (codes "supply")) (λ p. ReturnOf (made p))

abbrev pub supply_at : ℕ → (ℕ × ℕ → ℕ × ℕ → List ListedSection → ℕ → Listed) → List ℕ → Result Listed Fault
supply_at form made = line_then (form + 3) (numbers_at (codes "supply")) (λ supply. return_at form (made supply.0) supply.1)

pub supply_read : (form : ℕ) (made : ℕ × ℕ → ℕ × ℕ → List ListedSection → ℕ → Listed) → IsReader (SupplyOf made) (form + 3) (supply_at form made)
supply_read form made =
    then_read AreNumbers (numbers_line (codes "supply")) (numbers_at (codes "supply")) (λ p. ReturnOf (made p)) (form + 3) (λ supply. return_at form (made supply.0) supply.1)
    (0, 0) (omega arith, omega arith) (numbers_reader (codes "supply") (word_is (codes "supply") refl))
    (λ p fits. at_once (ReturnOf (made p)) (form + 4) (form + 3 + 1) (return_at form (made p)) (omega arith) (return_read form (made p)))
