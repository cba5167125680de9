-- Lines: what a reader of a line finds is what the line spells, and what a line spells is found.
use Rattle.std.proofs.Common.{◌≡◌, ℕ, ◌≤◌, cond, ◌&&◌, List, [], ◌∷◌, ◌++◌, Option, Some, None, decimal, refl, sym, ap, subst, ◌∙◌, arith}
use Rattle.std.specs.Prelude.{IsTrue, codes, nat_le}
use Rattle.std.specs.Str.{bytes_eq}
use Rattle.std.proofs.lemmas.Bool.{and_parts, leb-true, le-leb}
use Rattle.std.proofs.lemmas.Option.{cond_some, some_pair_parts}
use Rattle.duct_units.specs.Options.{◌>>=◌}
use Rattle.duct_units.specs.Name.{is_name}
use Rattle.duct_units.specs.Lines.{line}
use Rattle.duct_definitions.specs.declared.listed.ListedFan.{ListedFan}
use Rattle.duct_definitions.specs.declared.listed.ListedSection.{ListedSection}
use Rattle.duct_definitions.specs.DesignText.{fan_line, section_line}
use Rattle.design_text.specs.declared.words.TheConstants.{MAX_NUMBER}
use Rattle.design_text.specs.Texts.{IsListedFan, IsListedSection}
use Rattle.design_text.specs.Fields.{number_before, name_at, number_at, numbers_at, form_at, fan_at, section_at}
use Rattle.line_words.specs.Words.{after_word, name_before}
use Rattle.line_words.specs.Readers.{IsFree, IsReaderOf}
use Rattle.line_words.proofs.WordLaws.{bind_some, cut-at, word_takes, word_again, name_takes, name_again, name_free}
use Rattle.line_words.proofs.LineLaws.{line-behind, line_is, IsWord, word_is, name_ends}
use Rattle.design_text.proofs.WordLaws.{number_takes, number_again, number_free}

-- ---- the lines

number_ends : (n : ℕ) → n ≤ MAX_NUMBER → IsFree 10 (decimal n)
number_ends n small = number_free 10 n refl small

pub name_reader : (word : List ℕ) → IsWord word → IsReaderOf (λ name. IsTrue (is_name name)) (λ name. line word (name ∷ [])) (name_at word)
unfolding name_at
name_reader word is = record {
  takes = λ bytes name rest e.
      let a = bind_some (after_word word 32 bytes) (λ r. name_before 10 r) (name, rest) e in
      let t = name_takes 10 a.0 name rest a.2 in
      (t.0, word_takes word 32 bytes a.0 a.1 ∙ ap (λ (x : List ℕ). word ++ 32 ∷ x) t.1 ∙ sym (line-behind word (name ∷ []) rest));
  again = λ name rest fits.
      ap (name_at word) (line-behind word (name ∷ []) rest) ∙ rw (word_again word 32 (name ++ 10 ∷ rest) is.space) (name_again 10 name rest fits (name_ends name fits));
  lines = λ name fits. line_is word (name ∷ []) is.end (name_ends name fits, tt);
}

pub number_reader : (word : List ℕ) → IsWord word → IsReaderOf (λ n. n ≤ MAX_NUMBER) (λ n. line word (decimal n ∷ [])) (number_at word)
unfolding number_at
number_reader word is = record {
  takes = λ bytes n rest e.
      let a = bind_some (after_word word 32 bytes) (λ r. number_before 10 r) (n, rest) e in
      let t = number_takes 10 a.0 n rest a.2 in
      (t.0, word_takes word 32 bytes a.0 a.1 ∙ ap (λ (x : List ℕ). word ++ 32 ∷ x) t.1 ∙ sym (line-behind word (decimal n ∷ []) rest));
  again = λ n rest fits.
      ap (number_at word) (line-behind word (decimal n ∷ []) rest) ∙ rw (word_again word 32 (decimal n ++ 10 ∷ rest) is.space) (number_again 10 n rest fits (number_ends n fits));
  lines = λ n fits. line_is word (decimal n ∷ []) is.end (number_ends n fits, tt);
}

pub numbers_reader : (word : List ℕ) → IsWord word
    → IsReaderOf (λ (p : ℕ × ℕ). (p.0 ≤ MAX_NUMBER) × (p.1 ≤ MAX_NUMBER)) (λ p. line word (decimal p.0 ∷ decimal p.1 ∷ [])) (numbers_at word)
unfolding numbers_at
numbers_reader word is = record {
  takes = λ bytes p rest e.
      let a = bind_some (after_word word 32 bytes) (λ r. number_before 32 r >>= λ first. number_before 10 first.1 >>= λ second. Some ((first.0, second.0), second.1)) (p, rest) e in
      let b = bind_some (number_before 32 a.0) (λ first. number_before 10 first.1 >>= λ second. Some ((first.0, second.0), second.1)) (p, rest) a.2 in
      let d = bind_some (number_before 10 b.0.1) (λ second. Some ((b.0.0, second.0), second.1)) (p, rest) b.2 in
      let t1 = number_takes 32 a.0 b.0.0 b.0.1 b.1 in
      let t2 = number_takes 10 b.0.1 d.0.0 d.0.1 d.1 in
      let parts = some_pair_parts (b.0.0, d.0.0) p d.0.1 rest d.2 in
      let whole : bytes ≡ line word (decimal b.0.0 ∷ decimal d.0.0 ∷ []) ++ d.0.1 =
      word_takes word 32 bytes a.0 a.1 ∙ ap (λ (x : List ℕ). word ++ 32 ∷ x) (t1.1 ∙ ap (λ (x : List ℕ). decimal b.0.0 ++ 32 ∷ x) t2.1)
      ∙ sym (line-behind word (decimal b.0.0 ∷ decimal d.0.0 ∷ []) d.0.1) in (
        subst (λ (q : ℕ × ℕ). (q.0 ≤ MAX_NUMBER) × (q.1 ≤ MAX_NUMBER)) parts.0 (t1.0, t2.0),
        whole ∙ ap (λ (q : ℕ × ℕ). line word (decimal q.0 ∷ decimal q.1 ∷ []) ++ d.0.1) parts.0 ∙ ap (λ (r : List ℕ). line word (decimal p.0 ∷ decimal p.1 ∷ []) ++ r) parts.1,
      );
  again = λ p rest fits.
      ap (numbers_at word) (line-behind word (decimal p.0 ∷ decimal p.1 ∷ []) rest)
      ∙ rw (
        word_again word 32 (decimal p.0 ++ 32 ∷ (decimal p.1 ++ 10 ∷ rest)) is.space,
        number_again 32 p.0 (decimal p.1 ++ 10 ∷ rest) fits.0 (number_free 32 p.0 refl fits.0),
        number_again 10 p.1 rest fits.1 (number_ends p.1 fits.1),
      ) refl;
  lines = λ p fits. line_is word (decimal p.0 ∷ decimal p.1 ∷ []) is.end (number_ends p.0 fits.0, (number_ends p.1 fits.1, tt));
}

pub form_reader : IsReaderOf (λ n. (1 ≤ n) × (n ≤ 2)) (λ n. line (codes "design") (decimal n ∷ [])) form_at
unfolding form_at
form_reader =
    let numbers = number_reader (codes "design") (word_is (codes "design") refl) in
    record {
      takes = λ bytes n rest e.
          let a = bind_some (number_at (codes "design") bytes) (λ form. cond (nat_le 1 form.0 && nat_le form.0 2) (Some form) None) (n, rest) e in
          let t = cond_some (nat_le 1 a.0.0 && nat_le a.0.0 2) a.0 (n, rest) a.2 in
          let within = and_parts (nat_le 1 a.0.0) (nat_le a.0.0 2) t.0 in
          let fits : (1 ≤ a.0.0) × (a.0.0 ≤ 2) = (leb-true 1 a.0.0 within.0, leb-true a.0.0 2 within.1) in
          let whole = (numbers.takes bytes a.0.0 a.0.1 a.1).1 in
          (subst (λ (x : ℕ × List ℕ). (1 ≤ x.0) × (x.0 ≤ 2)) t.1 fits, subst (λ (x : ℕ × List ℕ). bytes ≡ line (codes "design") (decimal x.0 ∷ []) ++ x.1) t.1 whole);
      again = λ n rest fits.
          rw (numbers.again n rest (omega (arith, fits.1)), le-leb 1 n fits.0, le-leb n 2 fits.1) refl;
      lines = λ n fits. numbers.lines n (omega (arith, fits.1));
    }

-- the fan of these fields
abbrev made : List ℕ → ℕ → ℕ → ListedFan
made name pressure cost = record { name = name; pressure = pressure; cost = cost }

pub fan_reader : (word : List ℕ) → IsWord word → IsReaderOf IsListedFan (fan_line word) (fan_at word)
unfolding fan_at
fan_reader word is = record {
  takes = λ bytes fan rest e.
      let a = bind_some (after_word word 32 bytes) (λ r. name_before 32 r >>= λ name. number_before 32 name.1 >>= λ pressure. number_before 10 pressure.1 >>= λ cost. Some (made name.0 pressure.0 cost.0, cost.1)) (fan, rest) e in
      let b = bind_some (name_before 32 a.0) (λ name. number_before 32 name.1 >>= λ pressure. number_before 10 pressure.1 >>= λ cost. Some (made name.0 pressure.0 cost.0, cost.1)) (fan, rest) a.2 in
      let d = bind_some (number_before 32 b.0.1) (λ pressure. number_before 10 pressure.1 >>= λ cost. Some (made b.0.0 pressure.0 cost.0, cost.1)) (fan, rest) b.2 in
      let f = bind_some (number_before 10 d.0.1) (λ cost. Some (made b.0.0 d.0.0 cost.0, cost.1)) (fan, rest) d.2 in
      let t1 = name_takes 32 a.0 b.0.0 b.0.1 b.1 in
      let t2 = number_takes 32 b.0.1 d.0.0 d.0.1 d.1 in
      let t3 = number_takes 10 d.0.1 f.0.0 f.0.1 f.1 in
      let parts = some_pair_parts (made b.0.0 d.0.0 f.0.0) fan f.0.1 rest f.2 in
      let whole : bytes ≡ fan_line word (made b.0.0 d.0.0 f.0.0) ++ f.0.1 =
      word_takes word 32 bytes a.0 a.1 ∙ ap (λ (x : List ℕ). word ++ 32 ∷ x) (t1.1 ∙ ap (λ (x : List ℕ). b.0.0 ++ 32 ∷ x) (t2.1 ∙ ap (λ (x : List ℕ). decimal d.0.0 ++ 32 ∷ x) t3.1))
      ∙ sym (line-behind word (b.0.0 ∷ decimal d.0.0 ∷ decimal f.0.0 ∷ []) f.0.1) in (
        subst IsListedFan parts.0 (record { name = t1.0; pressure = t2.0; cost = t3.0 }),
        whole ∙ ap (λ (q : ListedFan). fan_line word q ++ f.0.1) parts.0 ∙ ap (λ (r : List ℕ). fan_line word fan ++ r) parts.1,
      );
  again = λ fan rest fits.
      ap (fan_at word) (line-behind word (fan.name ∷ decimal fan.pressure ∷ decimal fan.cost ∷ []) rest)
      ∙ rw (
        word_again word 32 (fan.name ++ 32 ∷ (decimal fan.pressure ++ 32 ∷ (decimal fan.cost ++ 10 ∷ rest))) is.space,
        name_again 32 fan.name (decimal fan.pressure ++ 32 ∷ (decimal fan.cost ++ 10 ∷ rest)) fits.name (name_free 32 fan.name refl fits.name),
        number_again 32 fan.pressure (decimal fan.cost ++ 10 ∷ rest) fits.pressure (number_free 32 fan.pressure refl fits.pressure),
        number_again 10 fan.cost rest fits.cost (number_ends fan.cost fits.cost),
      ) refl;
  lines = λ fan fits. line_is word (fan.name ∷ decimal fan.pressure ∷ decimal fan.cost ∷ []) is.end
      (name_ends fan.name fits.name, (number_ends fan.pressure fits.pressure, (number_ends fan.cost fits.cost, tt)));
}

-- the section of these fields
abbrev section : List ℕ → List ℕ → ℕ → ℕ → ℕ → ListedSection
section name size loss price damper = record { name = name; size = size; loss = loss; price = price; damper = damper }

-- the words of its line behind the first
abbrev words_of : ListedSection → List (List ℕ)
words_of s = s.name ∷ s.size ∷ decimal s.loss ∷ decimal s.price ∷ decimal s.damper ∷ []

-- the section whose words stand behind the first
abbrev section_of : Option (List ℕ) → Option (ListedSection × List ℕ)
section_of words = do
  rest ← words
  name ← name_before 32 rest
  size ← name_before 32 name.1
  loss ← number_before 32 size.1
  price ← number_before 32 loss.1
  damper ← number_before 10 price.1
  Some (section name.0 size.0 loss.0 price.0 damper.0, damper.1)

pub section_reader : IsReaderOf IsListedSection section_line section_at
unfolding section_at
section_reader = record {
  takes = λ bytes s rest e.
      let a = bind_some (after_word (codes "section") 32 bytes) (λ r. name_before 32 r >>= λ name. name_before 32 name.1 >>= λ size. number_before 32 size.1 >>= λ loss. number_before 32 loss.1 >>= λ price. number_before 10 price.1 >>= λ damper. Some (section name.0 size.0 loss.0 price.0 damper.0, damper.1)) (s, rest) e in
      let b = bind_some (name_before 32 a.0) (λ name. name_before 32 name.1 >>= λ size. number_before 32 size.1 >>= λ loss. number_before 32 loss.1 >>= λ price. number_before 10 price.1 >>= λ damper. Some (section name.0 size.0 loss.0 price.0 damper.0, damper.1)) (s, rest) a.2 in
      let d = bind_some (name_before 32 b.0.1) (λ size. number_before 32 size.1 >>= λ loss. number_before 32 loss.1 >>= λ price. number_before 10 price.1 >>= λ damper. Some (section b.0.0 size.0 loss.0 price.0 damper.0, damper.1)) (s, rest) b.2 in
      let f = bind_some (number_before 32 d.0.1) (λ loss. number_before 32 loss.1 >>= λ price. number_before 10 price.1 >>= λ damper. Some (section b.0.0 d.0.0 loss.0 price.0 damper.0, damper.1)) (s, rest) d.2 in
      let g = bind_some (number_before 32 f.0.1) (λ price. number_before 10 price.1 >>= λ damper. Some (section b.0.0 d.0.0 f.0.0 price.0 damper.0, damper.1)) (s, rest) f.2 in
      let h = bind_some (number_before 10 g.0.1) (λ damper. Some (section b.0.0 d.0.0 f.0.0 g.0.0 damper.0, damper.1)) (s, rest) g.2 in
      let t1 = name_takes 32 a.0 b.0.0 b.0.1 b.1 in
      let t2 = name_takes 32 b.0.1 d.0.0 d.0.1 d.1 in
      let t3 = number_takes 32 d.0.1 f.0.0 f.0.1 f.1 in
      let t4 = number_takes 32 f.0.1 g.0.0 g.0.1 g.1 in
      let t5 = number_takes 10 g.0.1 h.0.0 h.0.1 h.1 in
      let found = section b.0.0 d.0.0 f.0.0 g.0.0 h.0.0 in
      let parts = some_pair_parts found s h.0.1 rest h.2 in
      let whole : bytes ≡ section_line found ++ h.0.1 =
      word_takes (codes "section") 32 bytes a.0 a.1 ∙ ap (λ (x : List ℕ). codes "section" ++ 32 ∷ x)
      (t1.1 ∙ ap (λ (x : List ℕ). b.0.0 ++ 32 ∷ x) (t2.1 ∙ ap (λ (x : List ℕ). d.0.0 ++ 32 ∷ x) (t3.1
      ∙ ap (λ (x : List ℕ). decimal f.0.0 ++ 32 ∷ x) (t4.1 ∙ ap (λ (x : List ℕ). decimal g.0.0 ++ 32 ∷ x) t5.1))))
      ∙ sym (line-behind (codes "section") (words_of found) h.0.1) in (
        subst IsListedSection parts.0 (record { name = t1.0; size = t2.0; loss = t3.0; price = t4.0; damper = t5.0 }),
        whole ∙ ap (λ (q : ListedSection). section_line q ++ h.0.1) parts.0 ∙ ap (λ (r : List ℕ). section_line s ++ r) parts.1,
      );
  again = λ s rest fits.
      let r5 = decimal s.damper ++ 10 ∷ rest in
      let r4 = decimal s.price ++ 32 ∷ r5 in
      let r3 = decimal s.loss ++ 32 ∷ r4 in
      let r2 = s.size ++ 32 ∷ r3 in
      ap section_at (line-behind (codes "section") (words_of s) rest)
      ∙ ap section_of (word_again (codes "section") 32 (s.name ++ 32 ∷ r2) (word_is (codes "section") refl).space)
      ∙ rw (
        name_again 32 s.name r2 fits.name (name_free 32 s.name refl fits.name),
        name_again 32 s.size r3 fits.size (name_free 32 s.size refl fits.size),
        number_again 32 s.loss r4 fits.loss (number_free 32 s.loss refl fits.loss),
        number_again 32 s.price r5 fits.price (number_free 32 s.price refl fits.price),
        number_again 10 s.damper rest fits.damper (number_ends s.damper fits.damper),
      ) refl;
  lines = λ s fits. line_is (codes "section") (words_of s) (word_is (codes "section") refl).end
      (name_ends s.name fits.name, (name_ends s.size fits.size, (number_ends s.loss fits.loss, (number_ends s.price fits.price, (number_ends s.damper fits.damper, tt)))));
}

-- the line of the cost is no section's
pub cost_is_no_section : (n : ℕ) (rest : List ℕ) → section_at (line (codes "cost") (decimal n ∷ []) ++ rest) ≡ None
unfolding section_at
cost_is_no_section n rest =
    ap section_at (line-behind (codes "cost") (decimal n ∷ []) rest)
    ∙ ap (λ found. section_of (found >>= λ x. cond (bytes_eq x.0 (codes "section")) (Some x.1) None)) (cut-at 32 (codes "cost") (decimal n ++ 10 ∷ rest) (word_is (codes "cost") refl).space)
