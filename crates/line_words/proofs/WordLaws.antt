-- Words before a byte that they don't contain: what is found is what stands there, and what stands there is found.
use Rattle.std.proofs.Common.{◌≡◌, ◌⊎◌, inl, inr, ℕ, suc, ◌+◌, ◌^◌, ◌<◌, ◌≤◌, Bool, true, false, cond, ◌==◌, List, [], ◌∷◌, ◌++◌, length, take, drop, ℤ, pos, negsuc, Option, Some, None, decimal, refl, sym, ap, subst, ◌∙◌, arith, add-one, append_assoc, length-append, FitsSigned}
use Rattle.std.specs.Prelude.{IsTrue, unsigned_abs}
use Rattle.std.specs.Char.{is_ascii_digit}
use Rattle.std.specs.Int.{w64}
use Rattle.std.specs.List.{position_from, list_all}
use Rattle.std.specs.Str.{bytes_eq}
use Rattle.std.proofs.lemmas.Bool.{eqb-true, and_parts, cases_Bool}
use Rattle.std.proofs.lemmas.Fmt.{digits_decimal}
use Rattle.std.proofs.lemmas.Int.{ints}
use Rattle.std.proofs.lemmas.List.{take_at, drop_at}
use Rattle.std.proofs.lemmas.Option.{cond_some, same_Some, some_pair_parts}
use Rattle.std.proofs.lemmas.Slice.Eq.{bytes_eq-Decides}
use Rattle.duct_units.specs.Options.{◌>>=◌}
use Rattle.duct_units.specs.Name.{is_name, is_name_byte, name_of}
use Rattle.duct_units.specs.Whole.{whole_of, IsWhole}
use Rattle.duct_units.proofs.Spelling.{own}
use Rattle.duct_units.proofs.WholeLaws.{whole_of_is, whole_of-IsWhole}
use Rattle.line_words.specs.Words.{cut, after_word, name_before, number_before}
use Rattle.line_words.specs.Readers.{IsFree}

-- the value of a step that gave one
pub bind_some : {A B : Type 0} (o : Option A) (f : A → Option B) (y : B) → (o >>= f) ≡ Some y → (x : A) × (o ≡ Some x) × (f x ≡ Some y)
bind_some (Some x) f y e = (x, refl, e)
bind_some None f y e = absurd cc

-- which way a test went
chosen : {A : Type 0} (b : Bool) (x y z : A) → cond b x y ≡ z → ((b ≡ true) × (x ≡ z)) ⊎ ((b ≡ false) × (y ≡ z))
chosen true x y z e = inl (refl, e)
chosen false x y z e = inr (refl, e)

-- ---- bytes without a byte

pub free-append : (c : ℕ) (xs ys : List ℕ) → IsFree c xs → IsFree c ys → IsFree c (xs ++ ys)
free-append c [] ys p q = q
free-append c (x ∷ xs) ys p q = (p.0, free-append c xs ys p.1 q)

apart : (c : ℕ) (kind : ℕ → Bool) (byte : ℕ) → kind c ≡ false → kind byte ≡ true → (byte == c) ≡ false
apart c kind byte other is =
    elim (cases_Bool (byte == c)) [
      | inl same ↦ absurd (let no : false ≡ true = sym other ∙ ap kind (sym (eqb-true byte c same)) ∙ is in cc)
      | inr differ ↦ differ
    ]

same_byte : (c : ℕ) → (c == c) ≡ true
same_byte c = grind arith

-- bytes of a kind that c isn't
pub free_of_kind : (c : ℕ) (kind : ℕ → Bool) (bytes : List ℕ) → kind c ≡ false → list_all kind bytes ≡ true → IsFree c bytes
free_of_kind c kind [] other all = tt
free_of_kind c kind (byte ∷ bytes) other all =
    let parts = and_parts (kind byte) (list_all kind bytes) all in
    (apart c kind byte other parts.0, free_of_kind c kind bytes other parts.1)

-- ---- cutting

at_end : (c i : ℕ) (w rest : List ℕ) → IsFree c w → position_from (λ b. b == c) i (w ++ c ∷ rest) ≡ Some (i + length w)
at_end c i [] rest free = rw (same_byte c) (ap (λ (n : ℕ). Some n) (omega arith))
at_end c i (byte ∷ w) rest free = rw free.0 (at_end c (i + 1) w rest free.1 ∙ ap (λ (n : ℕ). Some n) (omega arith))

pub cut-at : (c : ℕ) (w rest : List ℕ) → IsFree c w → cut c (w ++ c ∷ rest) ≡ Some (w, rest)
cut-at c w rest free =
    let front : take (0 + length w) (w ++ c ∷ rest) ≡ w = take_at w (c ∷ rest) (0 + length w) (omega arith) in
    let back : drop (0 + length w + 1) (w ++ c ∷ rest) ≡ rest =
    ap (drop (0 + length w + 1)) (sym (append_assoc w (c ∷ []) rest)) ∙ drop_at (w ++ c ∷ []) rest (0 + length w + 1) (omega (arith, length-append w (c ∷ []))) in
    rw (at_end c 0 w rest free, front, back) refl

-- the place is behind j bytes
record FoundAt (c i k : ℕ) (bytes : List ℕ) : Type 0 where
  behind : ℕ
  place : k ≡ i + behind
  parts : bytes ≡ take behind bytes ++ c ∷ drop (suc behind) bytes
  free : IsFree c (take behind bytes)

further : (c i k byte : ℕ) (bytes : List ℕ) → (byte == c) ≡ false → FoundAt c (i + 1) k bytes → FoundAt c i k (byte ∷ bytes)
further c i k byte bytes other found = record {
  behind = suc found.behind;
  place = found.place ∙ (let e : i + 1 + found.behind ≡ i + suc found.behind = omega arith in e);
  parts = ap (λ (bs : List ℕ). byte ∷ bs) found.parts;
  free = (other, found.free);
}

found_at : (c i k : ℕ) (bytes : List ℕ) → position_from (λ b. b == c) i bytes ≡ Some k → FoundAt c i k bytes
found_at c i k [] e = absurd cc
found_at c i k (byte ∷ bytes) e =
    elim (chosen (byte == c) (Some i) (position_from (λ b. b == c) (i + 1) bytes) (Some k) e) [
      | inl here ↦ record { behind = 0; place = same_Some k i (sym here.1) ∙ (let e : i ≡ i + 0 = omega arith in e); parts = ap (λ (b : ℕ). b ∷ bytes) (eqb-true byte c here.0); free = tt }
      | inr later ↦ further c i k byte bytes later.0 (found_at c (i + 1) k bytes later.1)
    ]

pub cut-found : (c : ℕ) (bytes w rest : List ℕ) → cut c bytes ≡ Some (w, rest) → (bytes ≡ w ++ c ∷ rest) × IsFree c w
cut-found c bytes w rest e =
    let a = bind_some (position_from (λ b. b == c) 0 bytes) (λ at. Some (take at bytes, drop (at + 1) bytes)) (w, rest) e in
    let found = found_at c 0 a.0 bytes a.1 in
    let place : a.0 ≡ found.behind = found.place ∙ (let e : 0 + found.behind ≡ found.behind = omega arith in e) in
    let parts = some_pair_parts (take a.0 bytes) w (drop (a.0 + 1) bytes) rest a.2 in
    let front : take found.behind bytes ≡ w = rw (← place) parts.0 in
    let back : drop (suc found.behind) bytes ≡ rest = rw (← place, ← add-one a.0) parts.1 in (
      found.parts ∙ ap (λ (x : List ℕ). x ++ c ∷ drop (suc found.behind) bytes) front ∙ ap (λ (y : List ℕ). w ++ c ∷ y) back,
      subst (IsFree c) front found.free,
    )

-- ---- words, names and numbers

pub word_takes : (word : List ℕ) (c : ℕ) (bytes rest : List ℕ) → after_word word c bytes ≡ Some rest → bytes ≡ word ++ c ∷ rest
word_takes word c bytes rest e =
    let a = bind_some (cut c bytes) (λ found. cond (bytes_eq found.0 word) (Some found.1) None) rest e in
    let t = cond_some (bytes_eq a.0.0 word) a.0.1 rest a.2 in
    let is : a.0.0 ≡ word = (bytes_eq-Decides a.0.0 word).0 t.0 in
    (cut-found c bytes a.0.0 a.0.1 a.1).0 ∙ ap (λ (w : List ℕ). w ++ c ∷ a.0.1) is ∙ ap (λ (r : List ℕ). word ++ c ∷ r) t.1

pub word_again : (word : List ℕ) (c : ℕ) (rest : List ℕ) → IsFree c word → after_word word c (word ++ c ∷ rest) ≡ Some rest
word_again word c rest free = rw (cut-at c word rest free, (bytes_eq-Decides word word).1 refl) refl

pub name_takes : (c : ℕ) (bytes name rest : List ℕ) → name_before c bytes ≡ Some (name, rest) → IsTrue (is_name name) × (bytes ≡ name ++ c ∷ rest)
name_takes c bytes name rest e =
    let a = bind_some (cut c bytes) (λ found. name_of found.0 >>= λ name. Some (name, found.1)) (name, rest) e in
    let b = bind_some (name_of a.0.0) (λ name. Some (name, a.0.1)) (name, rest) a.2 in
    let t = cond_some (is_name a.0.0) a.0.0 b.0 b.1 in
    let parts = some_pair_parts b.0 name a.0.1 rest b.2 in
    let is : a.0.0 ≡ name = t.1 ∙ parts.0 in
    (rw (← is) t.0, (cut-found c bytes a.0.0 a.0.1 a.1).0 ∙ ap (λ (w : List ℕ). w ++ c ∷ a.0.1) is ∙ ap (λ (r : List ℕ). name ++ c ∷ r) parts.1)

pub name_again : (c : ℕ) (name rest : List ℕ) → IsTrue (is_name name) → IsFree c name → name_before c (name ++ c ∷ rest) ≡ Some (name, rest)
name_again c name rest is free = rw (cut-at c name rest free, is) refl

zero_fits : FitsSigned w64 (pos 0)
zero_fits = omega (arith, ints)

most_fits : (most : ℕ) → most < 2 ^ 63 → FitsSigned w64 (pos most)
most_fits most low = omega (arith, ints)

spelled_natural : (most : ℕ) (bytes : List ℕ) (z : ℤ) (n : ℕ) → IsWhole bytes (pos 0) (pos most) z → unsigned_abs z ≡ n → (bytes ≡ decimal n) × (n ≤ most)
spelled_natural most bytes (pos m) n whole is = (whole.spelled ∙ ap decimal is, omega (arith, ints, whole.most, is))
spelled_natural most bytes (negsuc m) n whole is = absurd (omega (arith, ints, whole.least))

module _ (most : ℕ) (low : most < 2 ^ 63) where
  pub number_takes : (c : ℕ) (bytes : List ℕ) (n : ℕ) (rest : List ℕ) → number_before most c bytes ≡ Some (n, rest) → (n ≤ most) × (bytes ≡ decimal n ++ c ∷ rest)
  number_takes c bytes n rest e =
      let a = bind_some (cut c bytes) (λ found. whole_of found.0 (pos 0) (pos most) >>= λ number. Some (unsigned_abs number, found.1)) (n, rest) e in
      let b = bind_some (whole_of a.0.0 (pos 0) (pos most)) (λ number. Some (unsigned_abs number, a.0.1)) (n, rest) a.2 in
      let whole = whole_of_is a.0.0 (pos 0) (pos most) b.0 zero_fits (most_fits most low) b.1 in
      let parts = some_pair_parts (unsigned_abs b.0) n a.0.1 rest b.2 in
      let natural = spelled_natural most a.0.0 b.0 n whole parts.0 in
      (natural.1, (cut-found c bytes a.0.0 a.0.1 a.1).0 ∙ ap (λ (w : List ℕ). w ++ c ∷ a.0.1) natural.0 ∙ ap (λ (r : List ℕ). decimal n ++ c ∷ r) parts.1)

  pub number_again : (c n : ℕ) (rest : List ℕ) → n ≤ most → IsFree c (decimal n) → number_before most c (decimal n ++ c ∷ rest) ≡ Some (n, rest)
  number_again c n rest small free =
      let whole : IsWhole (decimal n) (pos 0) (pos most) (pos n) = record { spelled = refl; least = omega (arith, ints); most = omega (arith, ints) } in
      rw (cut-at c (decimal n) rest free, whole_of-IsWhole (decimal n) (pos 0) (pos most) (pos n) zero_fits (most_fits most low) whole) refl

  pub number_free : (c n : ℕ) → is_ascii_digit c ≡ false → n ≤ most → IsFree c (decimal n)
  number_free c n other small = free_of_kind c is_ascii_digit (decimal n) other (digits_decimal own n (omega arith))

-- a name has no byte of another kind
pub name_free : (c : ℕ) (name : List ℕ) → is_name_byte c ≡ false → IsTrue (is_name name) → IsFree c name
name_free c name other is = free_of_kind c is_name_byte name other (and_parts _ (list_all is_name_byte name) is).1
