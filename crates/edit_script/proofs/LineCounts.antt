-- How many lines the text of a script has.
use Rattle.std.proofs.Common.{◌≡◌, ℕ, ◌+◌, ◌-◌, ◌<◌, ◌≤◌, ◌==◌, cond, List, [], ◌∷◌, ◌++◌, length, take, drop, refl, sym, ap, ◌∙◌, arith, append_assoc, append-nil, length-append, length-drop}
use Rattle.std.specs.List.{AllByRecursion}
use Rattle.std.proofs.lemmas.List.{take_at}
use Rattle.std.proofs.lemmas.List.Sums.{sum_by-cons, sum_by-append, sum_by-take-drop, count_by-le-length}
use Rattle.std.proofs.Math.Seq.{take-append-add}
use Rattle.line_words.specs.Readers.{IsFree, IsLine}
use Rattle.edit_script.specs.declared.script.ScriptLine.{ScriptLine}
use Rattle.edit_script.specs.declared.reading.TheConstants.{MAX_LINES}
use Rattle.edit_script.specs.Scripts.{script_line, script_text, line_feeds, IsScriptLine, HasTooManyLines}
use Rattle.edit_script.proofs.LineReader.{reader}

-- 1 for a line feed
abbrev one_feed : ℕ → ℕ
one_feed b = cond (b == 10) 1 0

line_feeds-append : (xs ys : List ℕ) → line_feeds (xs ++ ys) ≡ line_feeds xs + line_feeds ys
line_feeds-append xs ys = sum_by-append one_feed xs ys

line_feeds-free : (bytes : List ℕ) → IsFree 10 bytes → line_feeds bytes ≡ 0
line_feeds-free [] free = refl
line_feeds-free (byte ∷ bytes) free =
    let none : one_feed byte ≡ 0 = ap (λ b. cond b 1 0) free.0 in
    omega (arith, sum_by-cons one_feed byte bytes, line_feeds-free bytes free.1)

line_feeds-line : (bytes : List ℕ) → IsLine bytes → line_feeds bytes ≡ 1
line_feeds-line bytes is =
    ap line_feeds is.whole ∙ line_feeds-append is.before (10 ∷ []) ∙ ap (λ n. n + 1) (line_feeds-free is.before is.free)

pub line_feeds-text : (lines : List ScriptLine) → AllByRecursion IsScriptLine lines → line_feeds (script_text lines) ≡ length lines
line_feeds-text [] all = refl
line_feeds-text (l ∷ lines) all =
    omega (arith, line_feeds-append (script_line l) (script_text lines), line_feeds-line (script_line l) (reader.lines l all.0), line_feeds-text lines all.1)

-- ---- a text that is not too long

-- something stands behind the lines
pub few_before : (lines : List ScriptLine) (rest bytes : List ℕ) → AllByRecursion IsScriptLine lines → bytes ≡ script_text lines ++ rest → 0 < length rest
    → (HasTooManyLines bytes → ⊥) → length lines < MAX_LINES
few_before lines rest bytes all whole some short =
    let text = script_text lines in
    let count : length bytes - 1 ≡ length text + (length rest - 1) = let long = ap length whole ∙ length-append text rest in omega arith in
    let front : take (length bytes - 1) bytes ≡ text ++ take (length rest - 1) rest =
    ap (λ n. take n bytes) count ∙ ap (take (length text + (length rest - 1))) whole ∙ take-append-add text rest (length rest - 1) in
    let feeds : line_feeds (take (length bytes - 1) bytes) ≡ length lines + line_feeds (take (length rest - 1) rest) =
    ap line_feeds front ∙ line_feeds-append text (take (length rest - 1) rest) ∙ ap (λ n. n + line_feeds (take (length rest - 1) rest)) (line_feeds-text lines all) in
    not_long (length lines) (line_feeds (take (length rest - 1) rest)) (line_feeds (take (length bytes - 1) bytes)) feeds short
  where
    not_long : (n more feeds : ℕ) → feeds ≡ n + more → (MAX_LINES ≤ feeds → ⊥) → n < MAX_LINES
    not_long n more feeds e short = omega arith

-- nothing stands behind them
pub few_all : (lines : List ScriptLine) (bytes : List ℕ) → AllByRecursion IsScriptLine lines → bytes ≡ script_text lines → (HasTooManyLines bytes → ⊥) → length lines ≤ MAX_LINES
few_all lines bytes all whole short =
    let feeds : line_feeds bytes ≡ length lines = ap line_feeds whole ∙ line_feeds-text lines all in
    let halves = sum_by-take-drop one_feed bytes (length bytes - 1) in
    let last = count_by-le-length (λ b. b == 10) (drop (length bytes - 1) bytes) in
    let one = length-drop (length bytes - 1) bytes in
    not_long (length lines) (line_feeds (take (length bytes - 1) bytes)) (omega arith) short
  where
    not_long : (n feeds : ℕ) → n ≤ feeds + 1 → (MAX_LINES ≤ feeds → ⊥) → n ≤ MAX_LINES
    not_long n feeds e short = omega arith

-- ---- a text of few lines

ends : (lines : List ScriptLine) (l : ScriptLine) → AllByRecursion IsScriptLine (l ∷ lines) → (before : List ℕ) × (script_text (l ∷ lines) ≡ before ++ 10 ∷ [])
ends [] l all = let one = reader.lines l all.0 in (one.before, append-nil (script_line l) ∙ one.whole)
ends (m ∷ lines) l all =
    let (before, e) = ends lines m all.1 in
    (script_line l ++ before, ap (λ t. script_line l ++ t) e ∙ sym (append_assoc (script_line l) before (10 ∷ [])))

-- before its last line feed are fewer than it has lines
pub not_too_many : (lines : List ScriptLine) (bytes : List ℕ) → AllByRecursion IsScriptLine lines → bytes ≡ script_text lines → length lines ≤ MAX_LINES → HasTooManyLines bytes → ⊥
not_too_many [] bytes all whole few long =
    let none : line_feeds (take (length bytes - 1) bytes) ≡ 0 = ap (λ bs. line_feeds (take (length bs - 1) bs)) whole in omega arith
not_too_many (l ∷ lines) bytes all whole few long =
    let (before, e) = ends lines l all in
    let text : bytes ≡ before ++ 10 ∷ [] = whole ∙ e in
    let count : length before ≡ length bytes - 1 = let all_bytes = ap length text ∙ length-append before (10 ∷ []) in omega arith in
    let front : take (length bytes - 1) bytes ≡ before = ap (take (length bytes - 1)) text ∙ take_at before (10 ∷ []) (length bytes - 1) count in
    let feeds : line_feeds before + 1 ≡ length (l ∷ lines) =
    sym (line_feeds-append before (10 ∷ [])) ∙ ap line_feeds (sym e) ∙ line_feeds-text (l ∷ lines) all in
    let so_many : line_feeds (take (length bytes - 1) bytes) ≡ line_feeds before = ap line_feeds front in
    omega arith
