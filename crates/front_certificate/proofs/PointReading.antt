-- Points and fronts at the beginning of some bytes.
use Rattle.std.proofs.Common.{◌≡◌, ℕ, suc, ◌-◌, ◌<◌, List, [], ◌∷◌, ◌++◌, length, Some, refl, sym, ap, subst, ◌∙◌, arith, append_assoc}
use Rattle.std.specs.Prelude.{decimal, map, codes, slice_get}
use Rattle.std.specs.List.{AllByRecursion}
use Rattle.duct_definitions.specs.declared.limits.TheConstants.{MAX_PRESSURE}
use Rattle.duct_units.specs.Lines.{line, words_after}
use Rattle.pareto_front.specs.declared.point.Point.{Point}
use Rattle.pareto_front.specs.declared.point.TheConstants.{COST_LIMIT}
use Rattle.pareto_front.specs.Front.{IsFront}
use Rattle.front_certificate.specs.CertificateText.{front_line, numbers_of}
use Rattle.front_certificate.specs.Reading.{IsEnded, IsNumberAt, IsPointInRange, point_text, IsPointAt, IsStatable, IsFrontAt}

-- the points behind the first word
abbrev pub points_text : List Point → List ℕ
points_text [] = []
points_text (p ∷ ps) = point_text p ++ points_text ps

words-are : (ps : List Point) (rest : List ℕ) → words_after (map (λ n. decimal n) (numbers_of ps)) ++ rest ≡ points_text ps ++ 10 ∷ rest
words-are [] rest = refl
words-are (p ∷ ps) rest =
    let later = words-are ps rest in
    ap (λ (l : List ℕ). 32 ∷ l)
    (append_assoc (decimal p.need) (32 ∷ (decimal p.cost ++ words_after (map (λ n. decimal n) (numbers_of ps)))) rest
    ∙ ap (λ (l : List ℕ). decimal p.need ++ 32 ∷ l)
    (append_assoc (decimal p.cost) (words_after (map (λ n. decimal n) (numbers_of ps))) rest
    ∙ ap (λ (l : List ℕ). decimal p.cost ++ l) later
    ∙ sym (append_assoc (decimal p.cost) (points_text ps) (10 ∷ rest)))
    ∙ sym (append_assoc (decimal p.need) (32 ∷ (decimal p.cost ++ points_text ps)) (10 ∷ rest))
    ∙ ap (λ (l : List ℕ). l ++ 10 ∷ rest) (sym (append_assoc (decimal p.need) (32 ∷ decimal p.cost) (points_text ps))))

-- the line of a front with what stands behind it
pub line-is : (ps : List Point) (rest : List ℕ) → front_line ps ++ rest ≡ codes "front" ++ (points_text ps ++ 10 ∷ rest)
unfolding line
line-is ps rest =
    append_assoc (codes "front") (words_after (map (λ n. decimal n) (numbers_of ps))) rest
    ∙ ap (λ (l : List ℕ). codes "front" ++ l) (words-are ps rest)

-- ---- one point

pub point-parts : (p : Point) (rest : List ℕ) → point_text p ++ rest ≡ 32 ∷ (decimal p.need ++ 32 ∷ (decimal p.cost ++ rest))
point-parts p rest = ap (λ (l : List ℕ). 32 ∷ l) (append_assoc (decimal p.need) (32 ∷ decimal p.cost) rest)

-- what is read of a point, part by part
pub record IsPointRead (bytes : List ℕ) (p : Point) (rest : List ℕ) : Type 0 where
  pub behind_need : List ℕ
  pub need : (behind : List ℕ) → bytes ≡ 32 ∷ behind → IsNumberAt MAX_PRESSURE behind p.need (32 ∷ behind_need)
  pub starts : (behind : List ℕ) × (bytes ≡ 32 ∷ behind)
  pub cost : IsNumberAt (COST_LIMIT - 1) behind_need p.cost rest

pub read-parts : (bytes : List ℕ) (p : Point) (rest : List ℕ) → IsPointAt bytes p rest → IsPointRead bytes p rest
read-parts bytes p rest is =
    let whole = is.spelled ∙ point-parts p rest in
    let cost = is.in_range.cost in
    record {
      behind_need = decimal p.cost ++ rest;
      need = λ behind same. record {
        small = is.in_range.need;
        spelled = (let e : behind ≡ decimal p.need ++ 32 ∷ (decimal p.cost ++ rest) = cc (same, whole) in e);
        ended = refl;
      };
      starts = (decimal p.need ++ 32 ∷ (decimal p.cost ++ rest), whole);
      cost = record { small = omega arith; spelled = refl; ended = is.ended };
    }

pub point-from : (bytes behind behind_need rest : List ℕ) (need cost : ℕ) → bytes ≡ 32 ∷ behind
    → IsNumberAt MAX_PRESSURE behind need (32 ∷ behind_need) → IsNumberAt (COST_LIMIT - 1) behind_need cost rest
    → IsPointAt bytes (record { need = need; cost = cost }) rest
point-from bytes behind behind_need rest need cost starts first second =
    let low = second.small in
    let p : Point = record { need = need; cost = cost } in
    record {
      in_range = record { need = first.small; cost = omega arith };
      spelled = starts ∙ ap (λ (l : List ℕ). 32 ∷ l) (first.spelled ∙ ap (λ (l : List ℕ). decimal need ++ 32 ∷ l) second.spelled)
          ∙ sym (point-parts p rest);
      ended = second.ended;
    }

-- ---- many points

-- the front that is read so far, and that any front on the line goes on from it
pub record IsSoFar (bytes : List ℕ) (points : List Point) (rest : List ℕ) : Type 0 where
  pub front : IsFront points
  pub in_range : AllByRecursion IsPointInRange points
  pub spelled : bytes ≡ codes "front" ++ (points_text points ++ rest)
  pub goes_on : (ps : List Point) (more : List ℕ) → IsFrontAt bytes ps more
      → (later : List Point) × (ps ≡ points ++ later) × (rest ≡ points_text later ++ 10 ∷ more)

pub cancel : (xs ys zs : List ℕ) → xs ++ ys ≡ xs ++ zs → ys ≡ zs
cancel [] ys zs same = same
cancel (x ∷ xs) ys zs same = cancel xs ys zs (cc same)

pub so_far-start : (bytes rest : List ℕ) → bytes ≡ codes "front" ++ rest → IsSoFar bytes [] rest
so_far-start bytes rest same = record {
  front = tt;
  in_range = tt;
  spelled = same;
  goes_on = λ ps more is. (
    ps,
    refl,
    cancel (codes "front") rest (points_text ps ++ 10 ∷ more) (sym same ∙ is.spelled ∙ line-is ps more),
  );
}

points_text-append : (ps qs : List Point) → points_text (ps ++ qs) ≡ points_text ps ++ points_text qs
points_text-append [] qs = refl
points_text-append (p ∷ ps) qs =
    ap (λ (l : List ℕ). point_text p ++ l) (points_text-append ps qs)
    ∙ sym (append_assoc (point_text p) (points_text ps) (points_text qs))

in_range-push : (ps : List Point) (p : Point) → AllByRecursion IsPointInRange ps → IsPointInRange p
    → AllByRecursion IsPointInRange (ps ++ p ∷ [])
in_range-push [] p all one = (one, tt)
in_range-push (q ∷ ps) p all one = (all.0, in_range-push ps p all.1 one)

in_range-later : (ps : List Point) (q : Point) (later : List Point) → AllByRecursion IsPointInRange (ps ++ q ∷ later)
    → IsPointInRange q
in_range-later [] q later all = all.0
in_range-later (p ∷ ps) q later all = in_range-later ps q later all.1

pub points_text-ended : (ps : List Point) (more : List ℕ) → IsEnded (points_text ps ++ 10 ∷ more)
points_text-ended [] more = refl
points_text-ended (p ∷ ps) more = refl

-- the next point of a front on the line
next-point : (points : List Point) (rest : List ℕ) (ps : List Point) (q : Point) (later : List Point) (more : List ℕ)
    → IsStatable ps → ps ≡ points ++ q ∷ later → rest ≡ points_text (q ∷ later) ++ 10 ∷ more
    → IsPointAt rest q (points_text later ++ 10 ∷ more)
next-point points rest ps q later more statable is same = record {
  in_range = in_range-later points q later (subst (AllByRecursion IsPointInRange) is statable.in_range);
  spelled = same ∙ append_assoc (point_text q) (points_text later) (10 ∷ more);
  ended = points_text-ended later more;
}

-- what is the only reading of a point is the next point of any front on the line
pub so_far-next : (bytes : List ℕ) (points : List Point) (rest : List ℕ) (point : Point) (after : List ℕ)
    → IsSoFar bytes points rest → IsPointAt rest point after
    → ((p : Point) (more : List ℕ) → IsPointAt rest p more → (p ≡ point) × (more ≡ after))
    → IsFront (points ++ point ∷ []) → IsSoFar bytes (points ++ point ∷ []) after
so_far-next bytes points rest point after so_far is only front = record {
  front = front;
  in_range = in_range-push points point so_far.in_range is.in_range;
  spelled = so_far.spelled ∙ ap (λ (l : List ℕ). codes "front" ++ l)
      (ap (λ (l : List ℕ). points_text points ++ l) is.spelled
      ∙ sym (append_assoc (points_text points) (point_text point) after)
      ∙ ap (λ (l : List ℕ). points_text points ++ l ++ after) (sym (append-nil (point_text point)))
      ∙ ap (λ (l : List ℕ). l ++ after) (sym (points_text-append points (point ∷ []))));
  goes_on = λ ps more at. next ps more at (so_far.goes_on ps more at);
} where
  append-nil : (xs : List ℕ) → xs ++ [] ≡ xs
  append-nil [] = refl
  append-nil (x ∷ xs) = ap (λ (l : List ℕ). x ∷ l) (append-nil xs)

  next : (ps : List Point) (more : List ℕ) → IsFrontAt bytes ps more
      → (later : List Point) × (ps ≡ points ++ later) × (rest ≡ points_text later ++ 10 ∷ more)
      → (later : List Point) × (ps ≡ (points ++ point ∷ []) ++ later) × (after ≡ points_text later ++ 10 ∷ more)
  next ps more at ([], same, ends) = absurd (let e : 32 ∷ (decimal point.need ++ 32 ∷ decimal point.cost) ++ after ≡ 10 ∷ more = sym is.spelled ∙ ends in cc e)
  next ps more at (q ∷ later, same, ends) =
      let found = only q (points_text later ++ 10 ∷ more) (next-point points rest ps q later more at.statable same ends) in (
        later,
        same ∙ ap (λ (p : Point). points ++ p ∷ later) found.0 ∙ sym (append_assoc points (point ∷ []) later),
        sym found.1,
      )

-- where no point stands next, the line ends; and where it does, the front is whole
pub no-point : (bytes : List ℕ) (points : List Point) (rest : List ℕ) → IsSoFar bytes points rest
    → ((p : Point) (more : List ℕ) → IsPointAt rest p more → ⊥)
    → (ps : List Point) (more : List ℕ) → IsFrontAt bytes ps more → (ps ≡ points) × (rest ≡ 10 ∷ more)
no-point bytes points rest so_far none ps more at = last (so_far.goes_on ps more at) where
  points-nil : (xs : List Point) → xs ++ [] ≡ xs
  points-nil [] = refl
  points-nil (x ∷ xs) = ap (λ (l : List Point). x ∷ l) (points-nil xs)

  last : (later : List Point) × (ps ≡ points ++ later) × (rest ≡ points_text later ++ 10 ∷ more)
      → (ps ≡ points) × (rest ≡ 10 ∷ more)
  last ([], same, ends) = (same ∙ points-nil points, ends)
  last (q ∷ later, same, ends) =
      absurd (none q (points_text later ++ 10 ∷ more) (next-point points rest ps q later more at.statable same ends))

pub front-from : (bytes : List ℕ) (points : List Point) (rest after : List ℕ) → IsSoFar bytes points rest → rest ≡ 10 ∷ after
    → IsFrontAt bytes points after
front-from bytes points rest after so_far ends = record {
  statable = record { front = so_far.front; in_range = so_far.in_range };
  spelled = so_far.spelled ∙ ap (λ (l : List ℕ). codes "front" ++ (points_text points ++ l)) ends ∙ sym (line-is points after);
}

front-begin : (xs ys : List Point) → IsFront (xs ++ ys) → IsFront xs
front-begin [] ys front = tt
front-begin (x ∷ []) ys front = (tt, tt)
front-begin (x ∷ y ∷ xs) ys front = (front.0, front-begin (y ∷ xs) ys front.1)

-- a point that does not go on from the front is not on the line of one
pub not-on : (bytes : List ℕ) (points : List Point) (rest : List ℕ) (point : Point) (after : List ℕ)
    → IsSoFar bytes points rest → IsPointAt rest point after
    → ((p : Point) (more : List ℕ) → IsPointAt rest p more → (p ≡ point) × (more ≡ after))
    → (IsFront (points ++ point ∷ []) → ⊥) → (ps : List Point) (more : List ℕ) → IsFrontAt bytes ps more → ⊥
not-on bytes points rest point after so_far is only no_front ps more at = go (so_far.goes_on ps more at) where
  go : (later : List Point) × (ps ≡ points ++ later) × (rest ≡ points_text later ++ 10 ∷ more) → ⊥
  go ([], same, ends) = absurd (let e : 32 ∷ (decimal point.need ++ 32 ∷ decimal point.cost) ++ after ≡ 10 ∷ more = sym is.spelled ∙ ends in cc e)
  go (q ∷ later, same, ends) =
      let found = only q (points_text later ++ 10 ∷ more) (next-point points rest ps q later more at.statable same ends) in
      let whole : ps ≡ (points ++ point ∷ []) ++ later =
      same ∙ ap (λ (p : Point). points ++ p ∷ later) found.0 ∙ sym (append_assoc points (point ∷ []) later) in
      no_front (front-begin (points ++ point ∷ []) later (subst IsFront whole at.statable.front))

-- ---- the last point of a front

-- the point needs more and costs less than the last one
abbrev pub IsBehind : Point → Point → Type 0
IsBehind last p = (last.need < p.need) × (p.cost < last.cost)

last-place : (x y : Point) (ps : List Point)
    → slice_get (x ∷ y ∷ ps) (length (x ∷ y ∷ ps) - 1) ≡ slice_get (y ∷ ps) (length (y ∷ ps) - 1)
last-place x y ps =
    let place : suc (suc (length ps)) - 1 ≡ suc (suc (length ps) - 1) = omega arith in
    ap (slice_get (x ∷ y ∷ ps)) place

pub front-behind : (ps : List Point) (last p : Point) → IsFront ps → slice_get ps (length ps - 1) ≡ Some last
    → IsBehind last p → IsFront (ps ++ p ∷ [])
front-behind [] last p front is behind = absurd (cc is)
front-behind (x ∷ []) last p front is behind =
    let same : x ≡ last = cc is in (subst (λ (l : Point). IsBehind l p) (sym same) behind, (tt, tt))
front-behind (x ∷ y ∷ ps) last p front is behind =
    (front.0, front-behind (y ∷ ps) last p front.1 (sym (last-place x y ps) ∙ is) behind)

pub behind-front : (ps : List Point) (last p : Point) → slice_get ps (length ps - 1) ≡ Some last
    → IsFront (ps ++ p ∷ []) → IsBehind last p
behind-front [] last p is front = absurd (cc is)
behind-front (x ∷ []) last p is front =
    let same : x ≡ last = cc is in subst (λ (l : Point). IsBehind l p) same front.0
behind-front (x ∷ y ∷ ps) last p is front =
    behind-front (y ∷ ps) last p (sym (last-place x y ps) ∙ is) front.1
