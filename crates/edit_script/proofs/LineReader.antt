-- A line of a script is read exactly: what is found is what the line spells, and what a line spells is found.
use Rattle.std.proofs.Common.{◌≡◌, ℕ, ◌^◌, ◌<◌, ◌≤◌, ◌==◌, Bool, true, false, cond, List, [], ◌∷◌, ◌++◌, Option, Some, None, decimal, refl, sym, ap, subst, ◌∙◌, arith}
use Rattle.std.specs.Prelude.{IsTrue, codes}
use Rattle.std.specs.Str.{bytes_eq}
use Rattle.std.proofs.lemmas.Option.{some_pair_parts}
use Rattle.std.proofs.lemmas.Slice.Eq.{bytes_eq-Decides}
use Rattle.duct_units.specs.Options.{◌>>=◌}
use Rattle.duct_units.specs.Name.{is_name}
use Rattle.duct_units.specs.Lines.{line}
use Rattle.duct_definitions.specs.declared.airflow.TheConstants.{MAX_FLOW}
use Rattle.duct_definitions.specs.declared.duct.TheConstants.{MAX_LENGTH, MAX_DEVICE}
use Rattle.line_words.specs.Words.{cut, name_before, number_before}
use Rattle.line_words.specs.Readers.{IsFree, IsLine, IsReaderOf}
use Rattle.line_words.proofs.WordLaws.{bind_some, cut-at, cut-found, name_takes, name_again, name_free, number_takes, number_again, number_free}
use Rattle.line_words.proofs.LineLaws.{line-behind, line_is, word_is, name_ends}
use Rattle.edit_script.specs.declared.script.Change.{Change}
use Rattle.edit_script.specs.declared.script.Change.TheVariants.{Length, Device, Airflow, Preset}
use Rattle.edit_script.specs.declared.script.ScriptLine.{ScriptLine}
use Rattle.edit_script.specs.Scripts.{change_line, script_line, IsChange, IsScriptLine}
use Rattle.edit_script.specs.Reading.{numbered_at, length_at, device_at, airflow_at, preset_at, free_at, changed_at, line_at}

-- the line of these fields
abbrev made : List ℕ → Change → ScriptLine
made section change = record { section = section; change = change }

-- the first word and what stands behind its space are the line and the rest
abbrev IsTaken : List ℕ → List ℕ → ScriptLine → List ℕ → Type 0
IsTaken word tail l rest = IsScriptLine l × (word ++ 32 ∷ tail ≡ script_line l ++ rest)

-- ---- a section and a number

numbered_takes : (most : ℕ) → most < 2 ^ 63 → (bytes : List ℕ) (found : List ℕ × ℕ) (rest : List ℕ) → numbered_at most bytes ≡ Some (found, rest)
    → IsTrue (is_name found.0) × (found.1 ≤ most) × (bytes ≡ found.0 ++ 32 ∷ (decimal found.1 ++ 10 ∷ rest))
unfolding numbered_at
numbered_takes most low bytes found rest e =
    let a = bind_some (name_before 32 bytes) (λ section. number_before most 10 section.1 >>= λ number. Some ((section.0, number.0), number.1)) (found, rest) e in
    let b = bind_some (number_before most 10 a.0.1) (λ number. Some ((a.0.0, number.0), number.1)) (found, rest) a.2 in
    let t1 = name_takes 32 bytes a.0.0 a.0.1 a.1 in
    let t2 = number_takes most low 10 a.0.1 b.0.0 b.0.1 b.1 in
    let parts = some_pair_parts (a.0.0, b.0.0) found b.0.1 rest b.2 in (
      subst (λ (q : List ℕ × ℕ). IsTrue (is_name q.0)) parts.0 t1.0,
      subst (λ (q : List ℕ × ℕ). q.1 ≤ most) parts.0 t2.0,
      t1.1 ∙ ap (λ (x : List ℕ). a.0.0 ++ 32 ∷ x) t2.1 ∙ ap (λ (q : List ℕ × ℕ). q.0 ++ 32 ∷ (decimal q.1 ++ 10 ∷ b.0.1)) parts.0
          ∙ ap (λ (r : List ℕ). found.0 ++ 32 ∷ (decimal found.1 ++ 10 ∷ r)) parts.1,
    )

numbered_again : (most : ℕ) → most < 2 ^ 63 → (section : List ℕ) (n : ℕ) (rest : List ℕ) → IsTrue (is_name section) → n ≤ most
    → numbered_at most (section ++ 32 ∷ (decimal n ++ 10 ∷ rest)) ≡ Some ((section, n), rest)
unfolding numbered_at
numbered_again most low section n rest is small =
    rw (
      name_again 32 section (decimal n ++ 10 ∷ rest) is (name_free 32 section refl is),
      number_again most low 10 n rest small (number_free most low 10 n refl small),
    ) refl

-- a line of a word, a section and a number
module _ (word : List ℕ) (make : ℕ → Change) (spells : (section : List ℕ) (n : ℕ) → change_line section (make n) ≡ line word (section ∷ decimal n ∷ [])) where
  made_takes : (bytes : List ℕ) (found : List ℕ × ℕ) (after : List ℕ) (l : ScriptLine) (rest : List ℕ) → IsTrue (is_name found.0) → IsChange (make found.1)
      → bytes ≡ found.0 ++ 32 ∷ (decimal found.1 ++ 10 ∷ after)
      → let o : Option (ScriptLine × List ℕ) = Some (made found.0 (make found.1), after) in o ≡ Some (l, rest) → IsTaken word bytes l rest
  made_takes bytes found after l rest name change whole e =
      let parts = some_pair_parts (made found.0 (make found.1)) l after rest e in (
        subst IsScriptLine parts.0 (record { section = name; change = change }),
        ap (λ (x : List ℕ). word ++ 32 ∷ x) whole ∙ sym (line-behind word (found.0 ∷ decimal found.1 ∷ []) after)
            ∙ ap (λ (x : List ℕ). x ++ after) (sym (spells found.0 found.1))
            ∙ ap (λ (q : ScriptLine). script_line q ++ after) parts.0 ∙ ap (λ (r : List ℕ). script_line l ++ r) parts.1,
      )

-- ---- what stands behind each word

length_takes : (bytes : List ℕ) (l : ScriptLine) (rest : List ℕ) → length_at bytes ≡ Some (l, rest) → IsTaken (codes "length") bytes l rest
unfolding length_at
length_takes bytes l rest e =
    let a = bind_some (numbered_at MAX_LENGTH bytes) (λ found. Some (made found.0.0 (Length found.0.1), found.1)) (l, rest) e in
    let t = numbered_takes MAX_LENGTH (omega arith) bytes a.0.0 a.0.1 a.1 in
    made_takes (codes "length") Length (λ _ _. refl) bytes a.0.0 a.0.1 l rest t.0 t.1 t.2 a.2

device_takes : (bytes : List ℕ) (l : ScriptLine) (rest : List ℕ) → device_at bytes ≡ Some (l, rest) → IsTaken (codes "device") bytes l rest
unfolding device_at
device_takes bytes l rest e =
    let a = bind_some (numbered_at MAX_DEVICE bytes) (λ found. Some (made found.0.0 (Device found.0.1), found.1)) (l, rest) e in
    let t = numbered_takes MAX_DEVICE (omega arith) bytes a.0.0 a.0.1 a.1 in
    made_takes (codes "device") Device (λ _ _. refl) bytes a.0.0 a.0.1 l rest t.0 t.1 t.2 a.2

-- a flow that is not 0
flow_takes : (bytes : List ℕ) (found : List ℕ × ℕ) (after : List ℕ) (l : ScriptLine) (rest : List ℕ) (zero : Bool) → (found.1 == 0) ≡ zero
    → IsTrue (is_name found.0) → found.1 ≤ MAX_FLOW → bytes ≡ found.0 ++ 32 ∷ (decimal found.1 ++ 10 ∷ after)
    → let o : Option (ScriptLine × List ℕ) = cond zero None (Some (made found.0 (Airflow found.1), after)) in o ≡ Some (l, rest) → IsTaken (codes "airflow") bytes l rest
flow_takes bytes found after l rest true is name small whole e = absurd cc
flow_takes bytes found after l rest false is name small whole e =
    let some : 1 ≤ found.1 = above_zero found.1 is in
    made_takes (codes "airflow") Airflow (λ _ _. refl) bytes found after l rest name (some, small) whole e
  where
    above_zero : (n : ℕ) → (n == 0) ≡ false → 1 ≤ n
    above_zero n is = grind arith

airflow_takes : (bytes : List ℕ) (l : ScriptLine) (rest : List ℕ) → airflow_at bytes ≡ Some (l, rest) → IsTaken (codes "airflow") bytes l rest
unfolding airflow_at
airflow_takes bytes l rest e =
    let a = bind_some (numbered_at MAX_FLOW bytes) (λ found. cond (found.0.1 == 0) None (Some (made found.0.0 (Airflow found.0.1), found.1))) (l, rest) e in
    let t = numbered_takes MAX_FLOW (omega arith) bytes a.0.0 a.0.1 a.1 in
    flow_takes bytes a.0.0 a.0.1 l rest (a.0.0.1 == 0) refl t.0 t.1 t.2 a.2

preset_takes : (bytes : List ℕ) (l : ScriptLine) (rest : List ℕ) → preset_at bytes ≡ Some (l, rest) → IsTaken (codes "preset") bytes l rest
unfolding preset_at
preset_takes bytes l rest e =
    let a = bind_some (name_before 32 bytes) (λ section. name_before 10 section.1 >>= λ size. Some (made section.0 (Preset (Some size.0)), size.1)) (l, rest) e in
    let b = bind_some (name_before 10 a.0.1) (λ size. Some (made a.0.0 (Preset (Some size.0)), size.1)) (l, rest) a.2 in
    let t1 = name_takes 32 bytes a.0.0 a.0.1 a.1 in
    let t2 = name_takes 10 a.0.1 b.0.0 b.0.1 b.1 in
    let parts = some_pair_parts (made a.0.0 (Preset (Some b.0.0))) l b.0.1 rest b.2 in (
      subst IsScriptLine parts.0 (record { section = t1.0; change = t2.0 }),
      ap (λ (x : List ℕ). codes "preset" ++ 32 ∷ x) (t1.1 ∙ ap (λ (x : List ℕ). a.0.0 ++ 32 ∷ x) t2.1)
          ∙ sym (line-behind (codes "preset") (a.0.0 ∷ b.0.0 ∷ []) b.0.1)
          ∙ ap (λ (q : ScriptLine). script_line q ++ b.0.1) parts.0 ∙ ap (λ (r : List ℕ). script_line l ++ r) parts.1,
    )

free_takes : (bytes : List ℕ) (l : ScriptLine) (rest : List ℕ) → free_at bytes ≡ Some (l, rest) → IsTaken (codes "free") bytes l rest
unfolding free_at
free_takes bytes l rest e =
    let a = bind_some (name_before 10 bytes) (λ section. Some (made section.0 (Preset None), section.1)) (l, rest) e in
    let t = name_takes 10 bytes a.0.0 a.0.1 a.1 in
    let parts = some_pair_parts (made a.0.0 (Preset None)) l a.0.1 rest a.2 in (
      subst IsScriptLine parts.0 (record { section = t.0; change = tt }),
      ap (λ (x : List ℕ). codes "free" ++ 32 ∷ x) t.1 ∙ sym (line-behind (codes "free") (a.0.0 ∷ []) a.0.1)
          ∙ ap (λ (q : ScriptLine). script_line q ++ a.0.1) parts.0 ∙ ap (λ (r : List ℕ). script_line l ++ r) parts.1,
    )

-- ---- the word

-- a word that was asked for, or another one
or_next : (word given : List ℕ) (here other : Option (ScriptLine × List ℕ)) (tail : List ℕ) (l : ScriptLine) (rest : List ℕ)
    → cond (bytes_eq word given) here other ≡ Some (l, rest) → (here ≡ Some (l, rest) → IsTaken given tail l rest)
    → (other ≡ Some (l, rest) → IsTaken word tail l rest) → IsTaken word tail l rest
or_next word given here other tail l rest e first second =
    elim (bytes_eq word given) as (λ b. bytes_eq word given ≡ b → cond b here other ≡ Some (l, rest) → IsTaken word tail l rest) [
      | true ↦ λ same e'. subst (λ w. IsTaken w tail l rest) (sym ((bytes_eq-Decides word given).0 same)) (first e')
      | false ↦ λ _ e'. second e'
    ] refl e

changed_takes : (word tail : List ℕ) (l : ScriptLine) (rest : List ℕ) → changed_at word tail ≡ Some (l, rest) → IsTaken word tail l rest
changed_takes word tail l rest e =
    or_next word (codes "length") (length_at tail) _ tail l rest e (length_takes tail l rest)
    (λ e1. or_next word (codes "device") (device_at tail) _ tail l rest e1 (device_takes tail l rest)
    (λ e2. or_next word (codes "airflow") (airflow_at tail) _ tail l rest e2 (airflow_takes tail l rest)
    (λ e3. or_next word (codes "preset") (preset_at tail) _ tail l rest e3 (preset_takes tail l rest)
    (λ e4. or_next word (codes "free") (free_at tail) None tail l rest e4 (free_takes tail l rest) (λ e5. absurd cc)))))

line_takes : (bytes : List ℕ) (l : ScriptLine) (rest : List ℕ) → line_at bytes ≡ Some (l, rest) → IsScriptLine l × (bytes ≡ script_line l ++ rest)
unfolding line_at
line_takes bytes l rest e =
    let a = bind_some (cut 32 bytes) (λ found. changed_at found.0 found.1) (l, rest) e in
    let t = changed_takes a.0.0 a.0.1 l rest a.2 in
    (t.0, (cut-found 32 bytes a.0.0 a.0.1 a.1).0 ∙ t.1)

-- ---- what a line spells is found

length_again : (section : List ℕ) (n : ℕ) (rest : List ℕ) → IsTrue (is_name section) → n ≤ MAX_LENGTH
    → length_at (section ++ 32 ∷ (decimal n ++ 10 ∷ rest)) ≡ Some (made section (Length n), rest)
unfolding length_at
length_again section n rest is small = rw (numbered_again MAX_LENGTH (omega arith) section n rest is small) refl

device_again : (section : List ℕ) (n : ℕ) (rest : List ℕ) → IsTrue (is_name section) → n ≤ MAX_DEVICE
    → device_at (section ++ 32 ∷ (decimal n ++ 10 ∷ rest)) ≡ Some (made section (Device n), rest)
unfolding device_at
device_again section n rest is small = rw (numbered_again MAX_DEVICE (omega arith) section n rest is small) refl

not_zero : (n : ℕ) → 1 ≤ n → (n == 0) ≡ false
not_zero n some = grind arith

airflow_again : (section : List ℕ) (n : ℕ) (rest : List ℕ) → IsTrue (is_name section) → 1 ≤ n → n ≤ MAX_FLOW
    → airflow_at (section ++ 32 ∷ (decimal n ++ 10 ∷ rest)) ≡ Some (made section (Airflow n), rest)
unfolding airflow_at
airflow_again section n rest is some small = rw (numbered_again MAX_FLOW (omega arith) section n rest is small, not_zero n some) refl

preset_again : (section size rest : List ℕ) → IsTrue (is_name section) → IsTrue (is_name size)
    → preset_at (section ++ 32 ∷ (size ++ 10 ∷ rest)) ≡ Some (made section (Preset (Some size)), rest)
unfolding preset_at
preset_again section size rest is of =
    rw (name_again 32 section (size ++ 10 ∷ rest) is (name_free 32 section refl is), name_again 10 size rest of (name_ends size of)) refl

free_again : (section rest : List ℕ) → IsTrue (is_name section) → free_at (section ++ 10 ∷ rest) ≡ Some (made section (Preset None), rest)
unfolding free_at
free_again section rest is = rw (name_again 10 section rest is (name_ends section is)) refl

-- the line begins with this word, which holds no space
behind_word : (word tail : List ℕ) → IsFree 32 word → line_at (word ++ 32 ∷ tail) ≡ changed_at word tail
unfolding line_at
behind_word word tail free = ap (λ found. found >>= λ x. changed_at x.0 x.1) (cut-at 32 word tail free)

change_again : (section : List ℕ) (change : Change) (rest : List ℕ) → IsTrue (is_name section) → IsChange change
    → line_at (change_line section change ++ rest) ≡ Some (made section change, rest)
change_again section (Length n) rest is within =
    ap line_at (line-behind (codes "length") (section ∷ decimal n ∷ []) rest)
    ∙ behind_word (codes "length") (section ++ 32 ∷ (decimal n ++ 10 ∷ rest)) (word_is (codes "length") refl).space ∙ length_again section n rest is within
change_again section (Device n) rest is within =
    ap line_at (line-behind (codes "device") (section ∷ decimal n ∷ []) rest)
    ∙ behind_word (codes "device") (section ++ 32 ∷ (decimal n ++ 10 ∷ rest)) (word_is (codes "device") refl).space ∙ device_again section n rest is within
change_again section (Airflow n) rest is within =
    ap line_at (line-behind (codes "airflow") (section ∷ decimal n ∷ []) rest)
    ∙ behind_word (codes "airflow") (section ++ 32 ∷ (decimal n ++ 10 ∷ rest)) (word_is (codes "airflow") refl).space ∙ airflow_again section n rest is within.0 within.1
change_again section (Preset (Some size)) rest is within =
    ap line_at (line-behind (codes "preset") (section ∷ size ∷ []) rest)
    ∙ behind_word (codes "preset") (section ++ 32 ∷ (size ++ 10 ∷ rest)) (word_is (codes "preset") refl).space ∙ preset_again section size rest is within
change_again section (Preset None) rest is within =
    ap line_at (line-behind (codes "free") (section ∷ []) rest)
    ∙ behind_word (codes "free") (section ++ 10 ∷ rest) (word_is (codes "free") refl).space ∙ free_again section rest is

change_is_line : (section : List ℕ) (change : Change) → IsTrue (is_name section) → IsChange change → IsLine (change_line section change)
change_is_line section (Length n) is within =
    line_is (codes "length") (section ∷ decimal n ∷ []) (word_is (codes "length") refl).end (name_ends section is, (number_free MAX_LENGTH (omega arith) 10 n refl within, tt))
change_is_line section (Device n) is within =
    line_is (codes "device") (section ∷ decimal n ∷ []) (word_is (codes "device") refl).end (name_ends section is, (number_free MAX_DEVICE (omega arith) 10 n refl within, tt))
change_is_line section (Airflow n) is within =
    line_is (codes "airflow") (section ∷ decimal n ∷ []) (word_is (codes "airflow") refl).end (name_ends section is, (number_free MAX_FLOW (omega arith) 10 n refl within.1, tt))
change_is_line section (Preset (Some size)) is within =
    line_is (codes "preset") (section ∷ size ∷ []) (word_is (codes "preset") refl).end (name_ends section is, (name_ends size within, tt))
change_is_line section (Preset None) is within = line_is (codes "free") (section ∷ []) (word_is (codes "free") refl).end (name_ends section is, tt)

-- a line of a script is read exactly
pub reader : IsReaderOf IsScriptLine script_line line_at
reader = record {
  takes = line_takes;
  again = λ l rest is. change_again l.section l.change rest is.section is.change;
  lines = λ l is. change_is_line l.section l.change is.section is.change;
}
