-- Bytes are the text of one certificate, and bytes that are none have one first bad line.
use Rattle.std.proofs.Common.{◌≡◌, ℕ, suc, ◌<◌, ◌^◌, inl, inr, List, [], ◌∷◌, ◌++◌, length, Option, Some, None, refl, sym, ap, ◌∙◌, arith, append_assoc}
use Rattle.std.specs.Prelude.{codes, decimal, IfSome}
use Rattle.std.specs.List.{AllByRecursion, flat_map}
use Rattle.std.proofs.lemmas.Bool.{cases_lt}
use Rattle.std.proofs.lemmas.Fmt.{digits_decimal, decimal_injective}
use Rattle.duct_units.proofs.Spelling.{own}
use Rattle.duct_units.specs.Lines.{line}
use Rattle.duct_units.specs.Rules.{line_fault}
use Rattle.duct_units.specs.declared.fault.Fault.{Fault}
use Rattle.duct_units.specs.declared.fault.Reason.TheVariants.{Form}
use Rattle.duct_units.specs.declared.fault.ReadError.TheVariants.{Refused}
use Rattle.duct_definitions.specs.Network.{Network}
use Rattle.pareto_front.specs.declared.point.Point.{Point}
use Rattle.pareto_front.specs.declared.point.TheConstants.{COST_LIMIT}
use Rattle.front_certificate.specs.Certificates.{Certificate}
use Rattle.front_certificate.specs.CertificateText.{heading, total_line, front_line}
use Rattle.front_certificate.specs.Reading.{IsEnded, IsPointInRange, point_text, IsStatable, IsTextOf, IsFirstBad, IsRefusal}
use Rattle.front_certificate.proofs.WordReading.{run-unique}
use Rattle.front_certificate.proofs.PointReading.{points_text, points_text-ended, line-is, point-parts, cancel}
use Rattle.front_certificate.proofs.LineReading.{begins-before, none-line, some-line, text-begins}

-- a number up to what is no digit is one
number-once : (m n : ℕ) (us vs : List ℕ) → m < 2 ^ 64 → n < 2 ^ 64 → IsEnded us → IsEnded vs
    → decimal m ++ us ≡ decimal n ++ vs → (m ≡ n) × (us ≡ vs)
number-once m n us vs small little ended closed same =
    let found = run-unique (decimal m) us (decimal n) vs (digits_decimal own m small) ended (digits_decimal own n little)
    closed same in
    (decimal_injective m n small little found.0, found.1)

-- ---- the total

total-once : (x y : Option ℕ) (r s : List ℕ) → IfSome x (λ t. t < COST_LIMIT) → IfSome y (λ t. t < COST_LIMIT)
    → total_line x ++ r ≡ total_line y ++ s → (x ≡ y) × (r ≡ s)
total-once None None r s small little same =
    let e : codes "none" ++ 10 ∷ r ≡ codes "none" ++ 10 ∷ s =
    cancel (codes "cost ") _ _ (sym (none-line r) ∙ same ∙ none-line s) in
    (refl, cc e)
total-once None (Some t) r s small little same =
    let e : codes "none" ++ 10 ∷ r ≡ decimal t ++ 10 ∷ s =
    cancel (codes "cost ") _ _ (sym (none-line r) ∙ same ∙ some-line t s) in
    absurd (cc (run-unique [] (codes "none" ++ 10 ∷ r) (decimal t) (10 ∷ s) refl refl (digits_decimal own t (omega arith)) refl e).1)
total-once (Some t) None r s small little same =
    let e : decimal t ++ 10 ∷ r ≡ codes "none" ++ 10 ∷ s =
    cancel (codes "cost ") _ _ (sym (some-line t r) ∙ same ∙ none-line s) in
    absurd (cc (run-unique (decimal t) (10 ∷ r) [] (codes "none" ++ 10 ∷ s) (digits_decimal own t (omega arith)) refl refl refl e).1)
total-once (Some t) (Some u) r s small little same =
    let e : decimal t ++ 10 ∷ r ≡ decimal u ++ 10 ∷ s =
    cancel (codes "cost ") _ _ (sym (some-line t r) ∙ same ∙ some-line u s) in
    let found = number-once t u (10 ∷ r) (10 ∷ s) (omega arith) (omega arith) refl refl e in
    (ap Some found.0, cc found.1)

-- ---- fronts

-- the first of these points, and those behind it
first-point : (p : Point) (ps : List Point) (x : List ℕ)
    → points_text (p ∷ ps) ++ 10 ∷ x ≡ 32 ∷ (decimal p.need ++ 32 ∷ (decimal p.cost ++ (points_text ps ++ 10 ∷ x)))
first-point p ps x =
    append_assoc (point_text p) (points_text ps) (10 ∷ x) ∙ point-parts p (points_text ps ++ 10 ∷ x)

-- points with the same need and cost are one
point-once : (p q : Point) → p.need ≡ q.need → p.cost ≡ q.cost → p ≡ q
point-once p q need cost =
    ap (λ (n : ℕ). record { need = n; cost = p.cost }) need ∙ ap (λ (n : ℕ). record { need = q.need; cost = n }) cost

points-once : (ps qs : List Point) (x y : List ℕ) → AllByRecursion IsPointInRange ps → AllByRecursion IsPointInRange qs
    → points_text ps ++ 10 ∷ x ≡ points_text qs ++ 10 ∷ y → (ps ≡ qs) × (x ≡ y)
points-once [] [] x y small little same = (refl, cc same)
points-once [] (q ∷ qs) x y small little same = absurd (cc (same ∙ first-point q qs y))
points-once (p ∷ ps) [] x y small little same = absurd (cc (sym (first-point p ps x) ∙ same))
points-once (p ∷ ps) (q ∷ qs) x y small little same =
    let need = small.0.need in
    let other_need = little.0.need in
    let cost = small.0.cost in
    let other_cost = little.0.cost in
    let whole : 32 ∷ (decimal p.need ++ 32 ∷ (decimal p.cost ++ (points_text ps ++ 10 ∷ x)))
    ≡ 32 ∷ (decimal q.need ++ 32 ∷ (decimal q.cost ++ (points_text qs ++ 10 ∷ y))) =
    sym (first-point p ps x) ∙ same ∙ first-point q qs y in
    let needs = number-once p.need q.need _ _ (omega arith) (omega arith) refl refl (cancel (32 ∷ []) _ _ whole) in
    let costs = number-once p.cost q.cost _ _ (omega arith) (omega arith) (points_text-ended ps x) (points_text-ended qs y)
    (cancel (32 ∷ []) _ _ needs.1) in
    let rest = points-once ps qs x y small.1 little.1 costs.1 in (
      ap (λ (point : Point). point ∷ ps) (point-once p q needs.0 costs.0) ∙ ap (λ (points : List Point). q ∷ points) rest.0,
      rest.1,
    )

fronts-once : (fs gs : List (List Point)) (end : List ℕ) → length fs ≡ length gs → AllByRecursion IsStatable fs
    → AllByRecursion IsStatable gs → flat_map front_line fs ++ end ≡ flat_map front_line gs ++ end → fs ≡ gs
fronts-once [] [] end count small little same = refl
fronts-once [] (g ∷ gs) end count small little same = absurd (omega (arith, count))
fronts-once (f ∷ fs) [] end count small little same = absurd (omega (arith, count))
fronts-once (f ∷ fs) (g ∷ gs) end count small little same =
    let whole = sym (append_assoc (front_line f) (flat_map front_line fs) end) ∙ same
    ∙ append_assoc (front_line g) (flat_map front_line gs) end in
    let behind = cancel (codes "front") _ _
    (sym (line-is f (flat_map front_line fs ++ end)) ∙ whole ∙ line-is g (flat_map front_line gs ++ end)) in
    let found = points-once f g _ _ small.0.in_range little.0.in_range behind in
    let rest = fronts-once fs gs end (let e : length fs ≡ length gs = omega (arith, count) in e) small.1 little.1 found.1 in
    cc (found.0, rest)

-- ---- the text

-- the bytes behind the heading
behind-heading : (net : Network) (bytes : List ℕ) (c : Certificate) → IsTextOf net bytes c
    → bytes ≡ heading net.name ++ (total_line c.total ++ (flat_map front_line c.fronts ++ line (codes "end") []))
behind-heading net bytes c text =
    text.spelled
    ∙ append_assoc (heading net.name ++ total_line c.total) (flat_map front_line c.fronts) (line (codes "end") [])
    ∙ append_assoc (heading net.name) (total_line c.total) (flat_map front_line c.fronts ++ line (codes "end") [])

pub text-once : (net : Network) (bytes : List ℕ) (c d : Certificate) → IsTextOf net bytes c → IsTextOf net bytes d → c ≡ d
text-once net bytes c d is again =
    let behind = cancel (heading net.name) _ _ (sym (behind-heading net bytes c is) ∙ behind-heading net bytes d again) in
    let totals = total-once c.total d.total _ _ is.is.total again.is.total behind in
    let fronts = fronts-once c.fronts d.fronts (line (codes "end") []) (is.is.count ∙ sym again.is.count) is.is.fronts
    again.is.fronts totals.1 in
    ap (λ (total : Option ℕ). record { total = total; fronts = c.fronts }) totals.0
    ∙ ap (λ (all : List (List Point)). record { total = d.total; fronts = all }) fronts

-- ---- refusals

-- bytes have one first bad line
bad-once : (net : Network) (bytes : List ℕ) (n m : ℕ) → IsFirstBad net bytes n → IsFirstBad net bytes m → n ≡ m
bad-once net bytes n m is again = elim (cases_lt n m) [
  | inl less ↦ (let found = begins-before net bytes m (suc n) again.before.0 (omega arith) again.before.1 in absurd (is.bad found.0 found.1))
  | inr not_less ↦ elim (cases_lt m n) [
    | inl less ↦ (let found = begins-before net bytes n (suc m) is.before.0 (omega arith) is.before.1 in absurd (again.bad found.0 found.1))
    | inr no_more ↦ omega arith
  ]
]

pub refusal-once : (net : Network) (bytes : List ℕ) (f g : Fault) → IsRefusal net bytes (Refused f)
    → IsRefusal net bytes (Refused g) → f ≡ g
refusal-once net bytes f g is again =
    is.1.1 ∙ ap (λ (n : ℕ). line_fault (suc n) Form) (bad-once net bytes is.1.0 again.1.0 is.1.2 again.1.2)
    ∙ sym again.1.1

pub text-not_refused : (net : Network) (bytes : List ℕ) (c : Certificate) (f : Fault) → IsTextOf net bytes c
    → IsRefusal net bytes (Refused f) → ⊥
text-not_refused net bytes c f text refused = refused.0 (text-begins net bytes c text)
