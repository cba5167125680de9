-- Bytes have one reading.
use Rattle.std.proofs.Common.{◌≡◌, ◌⊎◌, inl, inr, ℕ, ◌+◌, List, [], ◌++◌, length, Result, Ok, Err, sym, ap, ◌∙◌, append-nil}
use Rattle.duct_units.specs.Rules.{line_fault}
use Rattle.duct_units.specs.declared.fault.Fault.{Fault}
use Rattle.duct_units.specs.declared.fault.Reason.TheVariants.{Form}
use Rattle.edit_script.specs.declared.script.ScriptLine.{ScriptLine}
use Rattle.edit_script.specs.Scripts.{script_text, IsScriptOf, IsReading, IsFirstBad, NamesLineTooMany, NamesBadLine}
use Rattle.edit_script.proofs.Texts.{same_lines, nothing_is_no_line}
use Rattle.edit_script.proofs.LineCounts.{not_too_many}

-- the text with nothing behind it
alone : (lines : List ScriptLine) (bytes : List ℕ) → IsScriptOf lines bytes → bytes ≡ script_text lines ++ []
alone lines bytes is = is.spelled ∙ sym (append-nil (script_text lines))

one_script : (bytes : List ℕ) (first second : List ScriptLine) → IsScriptOf first bytes → IsScriptOf second bytes → first ≡ second
one_script bytes first second p q =
    (same_lines first second [] [] p.in_range q.in_range nothing_is_no_line nothing_is_no_line (sym (alone first bytes p) ∙ alone second bytes q)).lines

-- a script has no bad line
no_bad_line : (bytes : List ℕ) (lines : List ScriptLine) (n : ℕ) → IsScriptOf lines bytes → IsFirstBad n bytes → ⊥
no_bad_line bytes lines n is bad =
    bad.more (sym (same_lines lines bad.lines [] bad.rest is.in_range bad.in_range nothing_is_no_line bad.bad (sym (alone lines bytes is) ∙ bad.spelled)).rest)

-- the first bad line is one
one_bad_line : (bytes : List ℕ) (n m : ℕ) → IsFirstBad n bytes → IsFirstBad m bytes → n ≡ m
one_bad_line bytes n m p q =
    let same = (same_lines p.lines q.lines p.rest q.rest p.in_range q.in_range p.bad q.bad (sym p.spelled ∙ q.spelled)).lines in
    p.number ∙ ap (λ (lines : List ScriptLine). length lines + 1) same ∙ sym q.number

not_refused : (bytes : List ℕ) (lines : List ScriptLine) (fault : Fault) → IsScriptOf lines bytes → NamesLineTooMany bytes fault ⊎ NamesBadLine bytes fault → ⊥
not_refused bytes lines fault is (inl long) = not_too_many lines bytes is.in_range is.spelled is.few long.long
not_refused bytes lines fault is (inr bad) = no_bad_line bytes lines bad.line is bad.first

one_fault : (bytes : List ℕ) (first second : Fault) → NamesLineTooMany bytes first ⊎ NamesBadLine bytes first
    → NamesLineTooMany bytes second ⊎ NamesBadLine bytes second → first ≡ second
one_fault bytes first second (inl p) (inl q) = p.says ∙ sym q.says
one_fault bytes first second (inl p) (inr q) = absurd (q.short p.long)
one_fault bytes first second (inr p) (inl q) = absurd (p.short q.long)
one_fault bytes first second (inr p) (inr q) =
    p.says ∙ ap (λ n. line_fault n Form) (one_bad_line bytes p.line q.line p.first q.first) ∙ sym q.says

pub one_reading : (bytes : List ℕ) (first second : Result (List ScriptLine) Fault) → IsReading bytes first → IsReading bytes second → first ≡ second
one_reading bytes (Ok first) (Ok second) p q = ap (λ lines. Ok lines) (one_script bytes first second p q)
one_reading bytes (Ok lines) (Err fault) p q = absurd (not_refused bytes lines fault p q)
one_reading bytes (Err fault) (Ok lines) p q = absurd (not_refused bytes lines fault q p)
one_reading bytes (Err first) (Err second) p q = ap (λ fault. Err fault) (one_fault bytes first second p q)
