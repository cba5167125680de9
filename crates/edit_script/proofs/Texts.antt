-- Texts of scripts, line by line.
use Rattle.std.proofs.Common.{◌≡◌, ◌≢◌, ℕ, ◌+◌, ◌<◌, List, [], ◌∷◌, ◌++◌, length, Some, None, refl, sym, ap, ◌∙◌, arith, append_assoc, append-nil, length-append}
use Rattle.std.specs.List.{AllByRecursion}
use Rattle.std.proofs.lemmas.Grind.{flat_map-append}
use Rattle.std.proofs.lemmas.Option.{some_pair_parts, none-some}
use Rattle.edit_script.specs.declared.script.ScriptLine.{ScriptLine}
use Rattle.edit_script.specs.Scripts.{script_line, script_text, IsScriptLine}
use Rattle.edit_script.specs.Reading.{line_at}
use Rattle.edit_script.proofs.LineReader.{reader}

-- ---- one more line

pub in_range-push : (lines : List ScriptLine) (l : ScriptLine) → AllByRecursion IsScriptLine lines → IsScriptLine l → AllByRecursion IsScriptLine (lines ++ l ∷ [])
in_range-push [] l all is = (is, tt)
in_range-push (first ∷ lines) l all is = (all.0, in_range-push lines l all.1 is)

pub script_text-push : (lines : List ScriptLine) (l : ScriptLine) (rest after bytes : List ℕ) → bytes ≡ script_text lines ++ rest → rest ≡ script_line l ++ after
    → bytes ≡ script_text (lines ++ l ∷ []) ++ after
script_text-push lines l rest after bytes whole line =
    whole ∙ ap (λ r. script_text lines ++ r) line ∙ sym (append_assoc (script_text lines) (script_line l) after)
    ∙ ap (λ t. t ++ after) (sym (flat_map-append script_line lines (l ∷ []) ∙ ap (λ t. script_text lines ++ t) (append-nil (script_line l))))

-- a line takes some of the bytes
pub line_is_some : (l : ScriptLine) (rest after : List ℕ) → IsScriptLine l → rest ≡ script_line l ++ after → length after < length rest
line_is_some l rest after is e =
    let one = reader.lines l is in
    let all : length rest ≡ length (script_line l) + length after = ap length e ∙ length-append (script_line l) after in
    let some : length (script_line l) ≡ length one.before + 1 = ap length one.whole ∙ length-append one.before (10 ∷ []) in
    omega arith

-- ---- two scripts at the front of the same bytes

-- no line of a script stands at the front
abbrev pub NoLine : List ℕ → Type 0
NoLine rest = (l : ScriptLine) (after : List ℕ) → IsScriptLine l → rest ≡ script_line l ++ after → ⊥

no_line_of_none : (l : ScriptLine) (after : List ℕ) → IsScriptLine l → [] ≡ script_line l ++ after → ⊥
no_line_of_none l after is e = let less = line_is_some l [] after is e in omega arith

pub nothing_is_no_line : NoLine []
nothing_is_no_line = no_line_of_none

-- what is not read is no line
pub unread_is_no_line : (rest : List ℕ) → line_at rest ≡ None → NoLine rest
unread_is_no_line rest none l after is e =
    none-some (l, after) (sym none ∙ ap line_at e ∙ reader.again l after is)

-- the lines at the front, and what stands behind them
pub record SameLines (first second : List ScriptLine) (a b : List ℕ) : Type 0 where
  pub lines : first ≡ second
  pub rest : a ≡ b

more_same : (l m : ScriptLine) (first second : List ScriptLine) (a b : List ℕ) → l ≡ m → SameLines first second a b → SameLines (l ∷ first) (m ∷ second) a b
more_same l m first second a b e same =
    record { lines = ap (λ x. x ∷ first) e ∙ ap (λ xs. m ∷ xs) same.lines; rest = same.rest }

pub same_lines : (first second : List ScriptLine) (a b : List ℕ) → AllByRecursion IsScriptLine first → AllByRecursion IsScriptLine second → NoLine a → NoLine b
    → script_text first ++ a ≡ script_text second ++ b → SameLines first second a b
same_lines [] [] a b p q no_a no_b e = record { lines = refl; rest = e }
same_lines [] (m ∷ second) a b p q no_a no_b e = absurd (no_a m (script_text second ++ b) q.0 (e ∙ append_assoc (script_line m) (script_text second) b))
same_lines (l ∷ first) [] a b p q no_a no_b e = absurd (no_b l (script_text first ++ a) p.0 (sym e ∙ append_assoc (script_line l) (script_text first) a))
same_lines (l ∷ first) (m ∷ second) a b p q no_a no_b e =
    let both : script_line l ++ (script_text first ++ a) ≡ script_line m ++ (script_text second ++ b) =
    sym (append_assoc (script_line l) (script_text first) a) ∙ e ∙ append_assoc (script_line m) (script_text second) b in
    let read : Some (l, script_text first ++ a) ≡ Some (m, script_text second ++ b) =
    sym (reader.again l (script_text first ++ a) p.0) ∙ ap line_at both ∙ reader.again m (script_text second ++ b) q.0 in
    let parts = some_pair_parts l m (script_text first ++ a) (script_text second ++ b) read in
    more_same l m first second a b parts.0 (same_lines first second a b p.1 q.1 no_a no_b parts.1)

-- ---- whether bytes are left

pub nothing_left : (rest : List ℕ) → length rest ≡ 0 → rest ≡ []
nothing_left [] e = refl
nothing_left (b ∷ rest) e = absurd (omega arith)

pub not_empty : (rest : List ℕ) → 0 < length rest → rest ≢ []
not_empty rest some e = let none = ap length e in omega arith
