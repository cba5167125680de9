-- The lines of a certificate, read one after the other.
use Rattle.std.proofs.Common.{◌≡◌, ℕ, zero, suc, ◌+◌, ◌-◌, ◌<◌, ◌≤◌, inl, inr, List, [], ◌∷◌, ◌++◌, length, Option, Some, None, refl, sym, ap, subst, ◌∙◌, arith, append_assoc}
use Rattle.std.specs.Prelude.{codes, decimal}
use Rattle.std.proofs.lemmas.Bool.{cases_eq}
use Rattle.std.proofs.lemmas.Fmt.{digits_decimal}
use Rattle.duct_units.specs.Lines.{line}
use Rattle.duct_units.proofs.Spelling.{own}
use Rattle.duct_definitions.specs.Network.{Network}
use Rattle.pareto_front.specs.declared.point.TheConstants.{COST_LIMIT}
use Rattle.std.specs.List.{AllByRecursion, flat_map}
use Rattle.duct_units.specs.Rules.{line_fault}
use Rattle.duct_units.specs.declared.fault.Reason.TheVariants.{Form}
use Rattle.duct_units.specs.declared.fault.ReadError.{ReadError}
use Rattle.duct_units.specs.declared.fault.ReadError.TheVariants.{Refused}
use Rattle.pareto_front.specs.declared.point.Point.{Point}
use Rattle.front_certificate.specs.Certificates.{Certificate, front_count}
use Rattle.front_certificate.specs.CertificateText.{total_line, front_line}
use Rattle.front_certificate.specs.Reading.{IsNumberAt, IsTotalAt, IsFrontAt, IsStatable, IsLaterLine, IsLine, Begins, IsFirstBad, IsRefusal, IsTextOf, line_count}
use Rattle.front_certificate.proofs.WordReading.{run-unique}

-- the bytes begin with n lines of a certificate, and only this rest can stand behind
pub record IsReadTo (net : Network) (bytes : List ℕ) (n : ℕ) (rest : List ℕ) : Type 0 where
  pub reached : Begins net bytes n rest
  pub only : (mid : List ℕ) → Begins net bytes n mid → mid ≡ rest

pub read-start : (net : Network) (bytes : List ℕ) → IsReadTo net bytes zero bytes
read-start net bytes = record { reached = refl; only = λ mid is. sym is }

module _ (net : Network) (bytes : List ℕ) (n : ℕ) (rest : List ℕ) (read : IsReadTo net bytes n rest) where
  pub read-next : (lines after : List ℕ) → IsLine net n lines → rest ≡ lines ++ after
      → ((other more : List ℕ) → IsLine net n other → rest ≡ other ++ more → more ≡ after)
      → IsReadTo net bytes (suc n) after
  read-next lines after is same unique = record {
    reached = (rest, read.reached, (lines, is, same));
    only = λ mid at. unique at.2.0 mid at.2.1 (sym (read.only at.0 at.1) ∙ at.2.2);
  }

  pub first-bad : ((other more : List ℕ) → IsLine net n other → rest ≡ other ++ more → ⊥) → IsFirstBad net bytes n
  first-bad none = record {
    before = (rest, read.reached);
    bad = λ mid at. none at.2.0 mid at.2.1 (sym (read.only at.0 at.1) ∙ at.2.2);
  }

pub begins-before : (net : Network) (bytes : List ℕ) (n m : ℕ) (rest : List ℕ) → m ≤ n → Begins net bytes n rest
    → (other : List ℕ) × Begins net bytes m other
begins-before net bytes zero m rest less is =
    (rest, subst (λ k. Begins net bytes k rest) (let same : zero ≡ m = omega arith in same) is)
begins-before net bytes (suc n) m rest less is = elim (cases_eq m (suc n)) [
  | inl same ↦ (rest, subst (λ k. Begins net bytes k rest) (sym same) is)
  | inr other ↦ begins-before net bytes n m is.0 (omega arith) is.1
]

-- bytes with a bad line among those of a certificate are no text
pub no-text : (net : Network) (bytes : List ℕ) (n : ℕ) → n < line_count net → IsFirstBad net bytes n
    → Begins net bytes (line_count net) [] → ⊥
no-text net bytes n within bad is =
    let found = begins-before net bytes (line_count net) (suc n) [] (omega arith) is in bad.bad found.0 found.1

-- ---- the total

pub none-line : (rest : List ℕ) → total_line None ++ rest ≡ codes "cost " ++ (codes "none" ++ 10 ∷ rest)
unfolding line
none-line rest = refl

pub some-line : (t : ℕ) (rest : List ℕ) → total_line (Some t) ++ rest ≡ codes "cost " ++ (decimal t ++ 10 ∷ rest)
unfolding line
some-line t rest = ap (λ (l : List ℕ). codes "cost " ++ l) (append_assoc (decimal t) (10 ∷ []) rest)

-- what stands behind the first word
pub TotalCases : List ℕ → Option ℕ → List ℕ → Type 0
TotalCases w None more = w ≡ codes "none" ++ 10 ∷ more
TotalCases w (Some t) more = IsNumberAt (COST_LIMIT - 1) w t (10 ∷ more)

pub total-cases : (bytes w : List ℕ) (x : Option ℕ) (more : List ℕ) → bytes ≡ codes "cost " ++ w → IsTotalAt bytes x more
    → TotalCases w x more
unfolding TotalCases
total-cases bytes w None more starts is =
    let same : codes "cost " ++ w ≡ codes "cost " ++ (codes "none" ++ 10 ∷ more) = sym starts ∙ is.spelled ∙ none-line more in
    cc same
total-cases bytes w (Some t) more starts is =
    let small = is.small in
    let same : codes "cost " ++ w ≡ codes "cost " ++ (decimal t ++ 10 ∷ more) = sym starts ∙ is.spelled ∙ some-line t more in
    record { small = omega arith; spelled = (let e : w ≡ decimal t ++ 10 ∷ more = cc same in e); ended = refl }

pub total-none : (bytes w rest : List ℕ) → bytes ≡ codes "cost " ++ w → w ≡ codes "none" ++ 10 ∷ rest
    → IsTotalAt bytes None rest
    × ((x : Option ℕ) (more : List ℕ) → IsTotalAt bytes x more → (x ≡ None) × (more ≡ rest))
unfolding TotalCases
total-none bytes w rest starts word = (
  record { small = tt; spelled = starts ∙ ap (λ (l : List ℕ). codes "cost " ++ l) word ∙ sym (none-line rest) },
  λ x more is. go x more is (total-cases bytes w x more starts is),
) where
  go : (x : Option ℕ) (more : List ℕ) → IsTotalAt bytes x more → TotalCases w x more → (x ≡ None) × (more ≡ rest)
  go None more is same = (refl, (let e : codes "none" ++ 10 ∷ more ≡ codes "none" ++ 10 ∷ rest = sym same ∙ word in cc e))
  go (Some t) more is number =
      let small = number.small in
      let found = run-unique (decimal t) (10 ∷ more) [] (codes "none" ++ 10 ∷ rest) (digits_decimal own t (omega arith)) refl
      refl refl (sym number.spelled ∙ word) in
      absurd (cc (found.1))

pub total-some : (bytes w v rest : List ℕ) (t : ℕ) → bytes ≡ codes "cost " ++ w
    → ((more : List ℕ) → w ≡ codes "none" ++ 10 ∷ more → ⊥)
    → IsNumberAt (COST_LIMIT - 1) w t v
    → ((m : ℕ) (more : List ℕ) → IsNumberAt (COST_LIMIT - 1) w m more → (m ≡ t) × (more ≡ v))
    → v ≡ 10 ∷ rest
    → IsTotalAt bytes (Some t) rest
    × ((x : Option ℕ) (more : List ℕ) → IsTotalAt bytes x more → (x ≡ Some t) × (more ≡ rest))
unfolding TotalCases
total-some bytes w v rest t starts none number only ends = (
  record {
    small = (let small = number.small in omega arith);
    spelled = starts ∙ ap (λ (l : List ℕ). codes "cost " ++ l) (number.spelled ∙ ap (λ (l : List ℕ). decimal t ++ l) ends)
        ∙ sym (some-line t rest);
  },
  λ x more is. go x more is (total-cases bytes w x more starts is),
) where
  go : (x : Option ℕ) (more : List ℕ) → IsTotalAt bytes x more → TotalCases w x more → (x ≡ Some t) × (more ≡ rest)
  go None more is same = absurd (none more same)
  go (Some m) more is at =
      let found = only m (10 ∷ more) at in
      (ap Some found.0, (let e : 10 ∷ more ≡ 10 ∷ rest = found.1 ∙ ends in cc e))

-- without a number, or where no line feed stands behind it, there is no total
pub no-total : (bytes w : List ℕ) → bytes ≡ codes "cost " ++ w
    → ((more : List ℕ) → w ≡ codes "none" ++ 10 ∷ more → ⊥)
    → ((m : ℕ) (more : List ℕ) → IsNumberAt (COST_LIMIT - 1) w m (10 ∷ more) → ⊥)
    → (x : Option ℕ) (more : List ℕ) → IsTotalAt bytes x more → ⊥
unfolding TotalCases
no-total bytes w starts none number x more is = go x more (total-cases bytes w x more starts is) where
  go : (x : Option ℕ) (more : List ℕ) → TotalCases w x more → ⊥
  go None more same = none more same
  go (Some m) more at = number m more at

pub no-start : (bytes : List ℕ) → ((rest : List ℕ) → bytes ≡ codes "cost " ++ rest → ⊥)
    → (x : Option ℕ) (more : List ℕ) → IsTotalAt bytes x more → ⊥
no-start bytes none None more is = none (codes "none" ++ 10 ∷ more) (is.spelled ∙ none-line more)
no-start bytes none (Some t) more is = none (decimal t ++ 10 ∷ more) (is.spelled ∙ some-line t more)

-- ---- one line more

cancel : (xs ys zs : List ℕ) → xs ++ ys ≡ xs ++ zs → ys ≡ zs
cancel [] ys zs same = same
cancel (x ∷ xs) ys zs same = cancel xs ys zs (cc same)

-- a line that is the only one at its place
module _ (net : Network) (bytes : List ℕ) (n : ℕ) (rest : List ℕ) (read : IsReadTo net bytes n rest) (word text : List ℕ)
    (only : (x : List ℕ) → IsLine net n x → x ≡ text) (same : word ≡ text) where
  pub literal-next : (after : List ℕ) → IsLine net n text → rest ≡ word ++ after → IsReadTo net bytes (suc n) after
  literal-next after is starts =
      read-next net bytes n rest read text after is (starts ∙ ap (λ (l : List ℕ). l ++ after) same) (λ other more line at.
      cancel text more after (sym (at ∙ ap (λ (l : List ℕ). l ++ more) (only other line)) ∙ starts ∙ ap (λ (l : List ℕ). l ++ after) same))

  pub literal-missing : ((more : List ℕ) → rest ≡ word ++ more → ⊥) → (other more : List ℕ) → IsLine net n other
      → rest ≡ other ++ more → ⊥
  literal-missing none other more line at =
      none more (at ∙ ap (λ (l : List ℕ). l ++ more) (only other line) ∙ ap (λ (l : List ℕ). l ++ more) (sym same))

pub total-next : (net : Network) (bytes rest : List ℕ) → IsReadTo net bytes 2 rest → (t : Option ℕ) (after : List ℕ)
    → IsTotalAt rest t after × ((x : Option ℕ) (more : List ℕ) → IsTotalAt rest x more → (x ≡ t) × (more ≡ after))
    → IsReadTo net bytes 3 after
total-next net bytes rest read t after (is, only) =
    read-next net bytes 2 rest read (total_line t) after (t, is.small, refl) is.spelled (λ other more line at.
    (only line.0 more (record { small = line.1; spelled = at ∙ ap (λ (l : List ℕ). l ++ more) line.2 })).1)

pub total-missing : (net : Network) (rest : List ℕ) → ((x : Option ℕ) (more : List ℕ) → IsTotalAt rest x more → ⊥)
    → (other more : List ℕ) → IsLine net 2 other → rest ≡ other ++ more → ⊥
total-missing net rest none other more line at =
    none line.0 more (record { small = line.1; spelled = at ∙ ap (λ (l : List ℕ). l ++ more) line.2 })

front-line : (net : Network) (i : ℕ) (rest other more : List ℕ) → i < front_count net → IsLaterLine net i other
    → rest ≡ other ++ more → (ps : List Point) × IsFrontAt rest ps more
front-line net i rest other more within (inl line) at =
    (line.1.0, record { statable = line.1.1; spelled = at ∙ ap (λ (l : List ℕ). l ++ more) line.1.2 })
front-line net i rest other more within (inr line) at = (let same = line.0 in absurd (omega arith))

pub front-next : (net : Network) (bytes rest : List ℕ) (i : ℕ) → i < front_count net
    → IsReadTo net bytes (suc (suc (suc i))) rest → (ps : List Point) (after : List ℕ)
    → IsFrontAt rest ps after × ((x : List Point) (more : List ℕ) → IsFrontAt rest x more → (x ≡ ps) × (more ≡ after))
    → IsReadTo net bytes (suc (suc (suc (suc i)))) after
front-next net bytes rest i within read ps after (is, only) =
    read-next net bytes (suc (suc (suc i))) rest read (front_line ps) after (inl (within, (ps, is.statable, refl))) is.spelled
    (λ other more line at.
    let found = front-line net i rest other more within line at in (only found.0 more found.1).1)

pub front-missing : (net : Network) (rest : List ℕ) (i : ℕ) → i < front_count net
    → ((x : List Point) (more : List ℕ) → IsFrontAt rest x more → ⊥)
    → (other more : List ℕ) → IsLine net (suc (suc (suc i))) other → rest ≡ other ++ more → ⊥
front-missing net rest i within none other more line at =
    let found = front-line net i rest other more within line at in none found.0 more found.1

pub end-only : (net : Network) (x : List ℕ) → IsLaterLine net (front_count net) x → x ≡ line (codes "end") []
end-only net x (inl early) = (let less = early.0 in absurd (omega arith))
end-only net x (inr last) = last.1

pub nothing-behind : (net : Network) (x : List ℕ) → IsLaterLine net (suc (front_count net)) x → ⊥
nothing-behind net x (inl early) = (let less = early.0 in omega arith)
nothing-behind net x (inr last) = (let same = last.0 in omega arith)

-- ---- refusals

pub refused-at : (net : Network) (bytes : List ℕ) (n : ℕ) (rest : List ℕ) → IsReadTo net bytes n rest → n < line_count net
    → ((other more : List ℕ) → IsLine net n other → rest ≡ other ++ more → ⊥)
    → (error : ReadError) → error ≡ Refused (line_fault (suc n) Form) → IsRefusal net bytes error
refused-at net bytes n rest read within none error is =
    let bad = first-bad net bytes n rest read none in
    subst (IsRefusal net bytes) (sym is) (no-text net bytes n within bad, (n, refl, bad))

pub refused-behind : (net : Network) (bytes rest : List ℕ) → IsReadTo net bytes (line_count net) rest → 0 < length rest
    → (error : ReadError) → error ≡ Refused (line_fault (suc (line_count net)) Form) → IsRefusal net bytes error
refused-behind net bytes rest read more error is =
    subst (IsRefusal net bytes) (sym is) (
      λ whole. (let none : [] ≡ rest = read.only [] whole in let e : length {A = ℕ} [] ≡ length rest = ap length none in omega (arith, e)),
      (line_count net, refl, first-bad net bytes (line_count net) rest read (λ other after line at. nothing-behind net other line)),
    )

-- ---- the text so far

pub spelled-start : (form project rest1 rest2 rest : List ℕ) (t : List ℕ) (bytes : List ℕ) → bytes ≡ form ++ rest1
    → rest1 ≡ project ++ rest2 → rest2 ≡ t ++ rest → bytes ≡ ((form ++ project) ++ t ++ []) ++ rest
spelled-start form project rest1 rest2 rest t bytes one two three =
    one ∙ ap (λ (l : List ℕ). form ++ l) (two ∙ ap (λ (l : List ℕ). project ++ l) three)
    ∙ sym (append_assoc form project (t ++ rest))
    ∙ sym (append_assoc (form ++ project) t rest)
    ∙ ap (λ (l : List ℕ). l ++ rest) (sym (append-nil ((form ++ project) ++ t))) where
      append-nil : (xs : List ℕ) → xs ++ [] ≡ xs
      append-nil [] = refl
      append-nil (x ∷ xs) = ap (λ (l : List ℕ). x ∷ l) (append-nil xs)

fronts-push : (fs : List (List Point)) (f : List Point) (after : List ℕ)
    → flat_map front_line (fs ++ f ∷ []) ++ after ≡ flat_map front_line fs ++ (front_line f ++ after)
fronts-push [] f after = append_assoc (front_line f) [] after
fronts-push (g ∷ fs) f after =
    append_assoc (front_line g) (flat_map front_line (fs ++ f ∷ [])) after
    ∙ ap (λ (l : List ℕ). front_line g ++ l) (fronts-push fs f after)
    ∙ sym (append_assoc (front_line g) (flat_map front_line fs) (front_line f ++ after))

pub spelled-next : (head : List ℕ) (fs : List (List Point)) (f : List Point) (rest after bytes : List ℕ)
    → bytes ≡ (head ++ flat_map front_line fs) ++ rest → rest ≡ front_line f ++ after
    → bytes ≡ (head ++ flat_map front_line (fs ++ f ∷ [])) ++ after
spelled-next head fs f rest after bytes so_far next =
    so_far ∙ append_assoc head (flat_map front_line fs) rest
    ∙ ap (λ (l : List ℕ). head ++ (flat_map front_line fs ++ l)) next
    ∙ ap (λ (l : List ℕ). head ++ l) (sym (fronts-push fs f after))
    ∙ sym (append_assoc head (flat_map front_line (fs ++ f ∷ [])) after)

pub statable-push : (fs : List (List Point)) (f : List Point) → AllByRecursion IsStatable fs → IsStatable f
    → AllByRecursion IsStatable (fs ++ f ∷ [])
statable-push [] f all one = (one, tt)
statable-push (g ∷ fs) f all one = (all.0, statable-push fs f all.1 one)

-- ---- the text of a certificate has its lines

begins-fronts : (net : Network) (bytes : List ℕ) (fs : List (List Point)) (i : ℕ) (rest : List ℕ)
    → i + length fs ≡ front_count net → AllByRecursion IsStatable fs
    → Begins net bytes (suc (suc (suc i))) (flat_map front_line fs ++ rest)
    → Begins net bytes (suc (suc (suc (front_count net)))) rest
begins-fronts net bytes [] i rest count all so_far =
    subst (λ n. Begins net bytes (suc (suc (suc n))) rest) (let same : i ≡ front_count net = omega arith in same) so_far
begins-fronts net bytes (f ∷ fs) i rest count all so_far =
    begins-fronts net bytes fs (suc i) rest (omega arith) all.1 (
      flat_map front_line (f ∷ fs) ++ rest,
      so_far,
      (front_line f, inl (omega arith, (f, all.0, refl)), append_assoc (front_line f) (flat_map front_line fs) rest),
    )

-- bytes that are the text of a certificate begin with all its lines, and nothing stands behind
pub text-begins : (net : Network) (bytes : List ℕ) (c : Certificate) → IsTextOf net bytes c
    → Begins net bytes (line_count net) []
text-begins net bytes c text =
    let form : List ℕ = line (codes "certificate") (codes "1" ∷ []) in
    let project : List ℕ = line (codes "project") (net.name ∷ []) in
    let total : List ℕ = total_line c.total in
    let fronts : List ℕ = flat_map front_line c.fronts in
    let end : List ℕ = line (codes "end") [] in
    let split : bytes ≡ form ++ (project ++ (total ++ (fronts ++ end))) =
    text.spelled ∙ append_assoc ((form ++ project) ++ total) fronts end
    ∙ append_assoc (form ++ project) total (fronts ++ end)
    ∙ append_assoc form project (total ++ (fronts ++ end)) in
    let three : Begins net bytes 3 (fronts ++ end) = (
      total ++ (fronts ++ end),
      (project ++ (total ++ (fronts ++ end)), (bytes, refl, (form, refl, split)), (project, refl, refl)),
      (total, (c.total, text.is.total, refl), refl),
    ) in (
      end,
      begins-fronts net bytes c.fronts 0 end (let count = text.is.count in omega arith) text.is.fronts three,
      (end, inr (refl, refl), sym (append-nil end)),
    ) where
      append-nil : (xs : List ℕ) → xs ++ [] ≡ xs
      append-nil [] = refl
      append-nil (x ∷ xs) = ap (λ (l : List ℕ). x ∷ l) (append-nil xs)
