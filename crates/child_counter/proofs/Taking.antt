-- Taking in passes, one after the other.
use Rattle.std.proofs.Common.{◌≡◌, false, ℕ, zero, suc, ◌+◌, ◌<◌, List, [], ◌∷◌, ◌++◌, map, length, refl, ap, sym, ◌∙◌, arith, append_assoc, append-nil, subst, true, inl, inr}
use Rattle.std.proofs.lemmas.List.{map_push, length-append}
use Rattle.std.proofs.lemmas.Bool.Decides.{eqb_tells}
use Rattle.std.proofs.lemmas.List.Sums.{sum_by-append, sum_by-cons}
use Rattle.std.specs.Prelude.{All, ◌||◌, ◌==◌}
use Rattle.std.specs.List.{sum_by, flat_map}
use Rattle.std.specs.Prelude.{nat_lt, slice_get, Some}
use Rattle.std.specs.List.{count_by}
use Rattle.std.proofs.lemmas.List.Elements.{All-append}
use Rattle.duct_definitions.specs.Tree.{Tree, section_count}
use Rattle.schedule_core.specs.Schedule.{is_in}
use Rattle.contract_join.specs.declared.outcome.Outcome.{Outcome}
use Rattle.contract_join.specs.declared.outcome.Outcome.TheVariants.{Fronts, NoMemory}
use Rattle.contract_join.specs.SectionFronts.{SectionData}
use Rattle.child_counter.specs.Shown.{AreChildrenBefore, one_if}
use Rattle.child_counter.specs.declared.view.PassView.{PassView}
use Rattle.child_counter.specs.Passes.{sections_of, times, all_of, both_views}
use Rattle.child_counter.specs.Public.{Which, PassData, IsBack, AreBack, finished_of, noted_by}
use Rattle.child_counter.specs.Closed.{IsLast, TookIn, AreWhole, outcomes_by, times_in, fronts_among, refused_among}
use Rattle.child_counter.proofs.Joining.{in-either}
use Rattle.child_counter.proofs.Room.{often-sections}
use Rattle.child_counter.proofs.Lists.{times-append}

-- after some passes were taken in
pub record Taking (which : Which) (v : PassView) (all yielded left : List PassData) (w : PassView)
    (old now : List (List ℕ)) : Type 0 where
  pub split : yielded ++ left ≡ all
  pub back : All (IsBack which) left
  pub view : TookIn v yielded w
  pub lists : now ≡ old ++ map finished_of yielded

pub taking-none : (which : Which) (v : PassView) (all : List PassData) (old : List (List ℕ)) → All (IsBack which) all
    → Taking which v all [] all v old old
taking-none which v all old back =
    record {
      split = refl;
      back = back;
      view = record {
        net = refl;
        own = refl;
        turn = refl;
        joined = sym (append-nil v.joined);
        noted = sym (append-nil v.noted);
        parts = omega arith;
      };
      lists = sym (append-nil old);
    }

pub noted-push : (ps : List PassData) (p : PassData) → noted_by (ps ++ p ∷ []) ≡ noted_by ps ++ p.view.noted
noted-push [] p = append-nil p.view.noted
noted-push (q ∷ ps) p = ap (λ l. q.view.noted ++ l) (noted-push ps p)
    ∙ sym (append_assoc q.view.noted (noted_by ps) p.view.noted)

pub parts-push : (ps : List PassData) (p : PassData) → sum_by (λ (x : PassData). x.view.parts) (ps ++ p ∷ []) ≡ sum_by
    (λ (x : PassData). x.view.parts) ps + p.view.parts
parts-push ps p = sum_by-append (λ (x : PassData). x.view.parts) ps (p ∷ [])
    ∙ ap (λ k. sum_by (λ (x : PassData). x.view.parts) ps + k) (omega arith)

pub taking-more : (which : Which) (v : PassView) (all yielded left : List PassData) (w : PassView)
    (old now : List (List ℕ)) (p : PassData) → Taking which v all yielded (p ∷ left) w old now → p.view.joined ≡ []
    → Taking which v all (yielded ++ p ∷ []) left (both_views w p.view) old (now ++ finished_of p ∷ [])
taking-more which v all yielded left w old now p h alone =
    let lists_more = map_push finished_of yielded p in
    let owns_more = map_push (λ (x : PassData). x.view.own) yielded p in
    let f = h.view.parts in
    record {
      split = append_assoc yielded (p ∷ []) left ∙ h.split;
      back = λ k d within. h.back (suc k) d (omega arith);
      view = record {
        net = h.view.net;
        own = h.view.own;
        turn = h.view.turn;
        joined = ap (λ l. w.joined ++ p.view.own ∷ l) alone ∙ ap (λ l. l ++ p.view.own ∷ []) h.view.joined
            ∙ append_assoc v.joined (map (λ (x : PassData). x.view.own) yielded) (p.view.own ∷ [])
            ∙ ap (λ l. v.joined ++ l) (sym owns_more);
        noted = ap (λ l. l ++ p.view.noted) h.view.noted ∙ append_assoc v.noted (noted_by yielded) p.view.noted
            ∙ ap (λ l. v.noted ++ l) (sym (noted-push yielded p));
        parts = (let a = parts-push yielded p in omega arith);
      };
      lists = ap (λ l. l ++ finished_of p ∷ []) h.lists
          ∙ append_assoc old (map finished_of yielded) (finished_of p ∷ []) ∙ ap (λ l. old ++ l) (sym lists_more);
    }

pub retake : (which : Which) (v : PassView) (all yielded left left2 : List PassData) (w w2 : PassView)
    (old now now2 : List (List ℕ)) → Taking which v all yielded left w old now → left ≡ left2 → w ≡ w2 → now ≡ now2
    → Taking which v all yielded left2 w2 old now2
retake which v all yielded left left2 w w2 old now now2 h el ew en =
    subst (λ x. Taking which v all yielded left2 w2 old x) en
    (subst (λ x. Taking which v all yielded left2 x old now) ew
    (subst (λ x. Taking which v all yielded x w old now) el h))

pub backs-before : (which : Which) (rest : List PassData) (p : PassData) → All (IsBack which) (rest ++ p ∷ [])
    → All (IsBack which) rest
backs-before which [] p h k d within = absurd (omega arith)
backs-before which (q ∷ qs) p h zero d within = h 0 d (omega arith)
backs-before which (q ∷ qs) p h (suc k) d within = backs-before which qs p (λ n e l. h (suc n) e (omega arith)) k d
    (omega arith)

pub back-last : (which : Which) (rest : List PassData) (p : PassData) → All (IsBack which) (rest ++ p ∷ [])
    → IsBack which p
back-last which [] p h = h 0 p (omega arith)
back-last which (q ∷ qs) p h = back-last which qs p (λ k d within. h (suc k) d (omega arith))

in-first : (xs ys : List ℕ) (s : ℕ) → is_in xs s ≡ true → is_in (xs ++ ys) s ≡ true
in-first [] ys s is = absurd (let z : false ≡ true = is in cc z)
in-first (x ∷ xs) ys s is =
    elim (eqb_tells s x) [
      | inl p ↦ ap (λ b. b || is_in (xs ++ ys) s) p.0
      | inr p ↦ ap (λ b. b || is_in (xs ++ ys) s) p.0 ∙ in-first xs ys s (sym (ap (λ b. b || is_in xs s) p.0) ∙ is)
    ]

in-second : (xs ys : List ℕ) (s : ℕ) → is_in ys s ≡ true → is_in (xs ++ ys) s ≡ true
in-second [] ys s is = is
in-second (x ∷ xs) ys s is =
    elim (eqb_tells s x) [
      | inl p ↦ ap (λ b. b || is_in (xs ++ ys) s) p.0
      | inr p ↦ ap (λ b. b || is_in (xs ++ ys) s) p.0 ∙ in-second xs ys s is
    ]

-- the pass that took in all others is the last
pub last-is : (which : Which) (rest : List PassData) (p : PassData) (v w : PassView) → AreBack which (rest ++ p ∷ [])
    → v ≡ p.view → TookIn v rest w → IsLast which.net which.passes w
last-is which rest p v w h seen took =
    record {
      parts = (let a = parts-push rest p in let b = h.parts in let c = took.parts in let d : v.parts ≡ p.view.parts =
          ap (λ (x : PassView). x.parts) seen in omega arith);
      free = took.turn ∙ ap (λ (x : PassView). x.turn) seen ∙ (back-last which rest p h.each).free;
      noted = λ s leaf.
          (let here : is_in (noted_by rest ++ p.view.noted) s ≡ true = sym (ap (λ l. is_in l s) (noted-push rest p))
          ∙ h.noted s leaf in
          ap (λ l. is_in l s) (took.noted ∙ ap (λ (x : PassView). x.noted ++ noted_by rest) seen)
          ∙ elim (in-either (noted_by rest) p.view.noted s here) [
            | inl a ↦ in-second p.view.noted (noted_by rest) s a
            | inr a ↦ in-first p.view.noted (noted_by rest) s a
          ]);
    }

-- the outcomes of all passes, one after the other
flat-own : (ps : List PassData) → flat_map (λ xs. xs) (map (λ (x : PassData). x.view.own) ps) ≡ outcomes_by ps
flat-own [] = refl
flat-own (p ∷ ps) = ap (λ l. p.view.own ++ l) (flat-own ps)

outcomes-push : (ps : List PassData) (p : PassData) → outcomes_by (ps ++ p ∷ []) ≡ outcomes_by ps ++ p.view.own
outcomes-push [] p = append-nil p.view.own
outcomes-push (q ∷ ps) p = ap (λ l. q.view.own ++ l) (outcomes-push ps p)
    ∙ sym (append_assoc q.view.own (outcomes_by ps) p.view.own)

-- the last pass has joined just the others' lists
joined-is : (v w : PassView) (rest : List PassData) → v.joined ≡ [] → TookIn v rest w
    → w.joined ≡ map (λ (x : PassData). x.view.own) rest
joined-is v w rest alone took = took.joined ∙ ap (λ l. l ++ map (λ (x : PassData). x.view.own) rest) alone

pub all-outcomes : (rest : List PassData) (p : PassData) (v w : PassView) → v ≡ p.view → v.joined ≡ []
    → TookIn v rest w → all_of w ≡ outcomes_by (rest ++ p ∷ [])
all-outcomes rest p v w seen alone took =
    ap (λ l. flat_map (λ xs. xs) l ++ w.own) (joined-is v w rest alone took)
    ∙ ap (λ l. l ++ w.own) (flat-own rest)
    ∙ ap (λ l. outcomes_by rest ++ l) (took.own ∙ ap (λ (x : PassView). x.own) seen)
    ∙ sym (outcomes-push rest p)

map-sections : (ps : List PassData) → map sections_of (map (λ (x : PassData). x.view.own) ps) ≡ map finished_of ps
map-sections [] = refl
map-sections (p ∷ ps) = ap (λ l. sections_of p.view.own ∷ l) (map-sections ps)

pub lists-kept : (rest : List PassData) (v w : PassView) (items : List ℕ) → v.joined ≡ [] → TookIn v rest w
    → sections_of v.own ≡ items → map finished_of rest ++ items ∷ [] ≡ map sections_of w.joined ++ sections_of w.own ∷
    []
lists-kept rest v w items alone took own =
    ap (λ l. map finished_of rest ++ l ∷ []) (sym own ∙ ap sections_of (sym took.own))
    ∙ ap (λ l. l ++ sections_of w.own ∷ []) (sym (map-sections rest)
    ∙ ap (map sections_of) (sym (joined-is v w rest alone took)))

-- the lists that are handed out are those of the last pass
times-flat : (s : ℕ) (xss : List (List Outcome)) → times_in s (map sections_of xss) ≡ times s
    (flat_map (λ xs. xs) xss)
times-flat s [] = refl
times-flat s (xs ∷ xss) =
    let a = sum_by-cons (λ ys. count_by (λ x. x == s) ys) (sections_of xs) (map sections_of xss) in
    let b = often-sections s xs in
    let c = times-flat s xss in
    let d = times-append s xs (flat_map (λ ys. ys) xss) in
    omega arith

all-map : (t : Tree) (xss : List (List Outcome)) → All (λ os. AreChildrenBefore t (sections_of os)) xss
    → All (AreChildrenBefore t) (map sections_of xss)
all-map t [] h k d within = absurd (omega arith)
all-map t (xs ∷ xss) h zero d within = h 0 [] (omega arith)
all-map t (xs ∷ xss) h (suc k) d within = all-map t xss (λ n e l. h (suc n) e (omega arith)) k d (omega arith)

all-one : (t : Tree) (xs : List ℕ) → AreChildrenBefore t xs → All (AreChildrenBefore t) (xs ∷ [])
all-one t xs h zero d within = h
all-one t xs h (suc k) d within = absurd (omega arith)

pub whole : (t : Tree) (w : PassView) (lists : List (List ℕ))
    → lists ≡ map sections_of w.joined ++ sections_of w.own ∷ []
    → ((s : ℕ) → times s (all_of w) ≡ one_if (nat_lt s (section_count t)))
    → AreChildrenBefore t (sections_of w.own) → All (λ os. AreChildrenBefore t (sections_of os)) w.joined
    → AreWhole t lists
whole t w lists is once own others =
    subst (AreWhole t) (sym is) (record {
      once = λ s.
          (let a = sum_by-append (λ ys. count_by (λ x. x == s) ys) (map sections_of w.joined)
          (sections_of w.own ∷ []) in
          let b = sum_by-cons (λ ys. count_by (λ x. x == s) ys) (sections_of w.own) [] in
          let c = often-sections s w.own in
          let d = times-flat s w.joined in
          let e = times-append s (flat_map (λ xs. xs) w.joined) w.own in
          let f = once s in
          omega arith);
      ordered = All-append (AreChildrenBefore t) (map sections_of w.joined) (sections_of w.own ∷ [])
          (all-map t w.joined others) (all-one t (sections_of w.own) own);
    })

-- what holds of each outcome holds of those that have fronts, and of those that have none
pub fronts-all : (P : Outcome → Type 0) (os : List Outcome) → ((s : ℕ) (o : Outcome) → slice_get os s ≡ Some o → P o)
    → All (λ f. P (Fronts f)) (fronts_among os)
fronts-all P [] h k d within = absurd (omega arith)
fronts-all P (Fronts f ∷ os) h zero d within = h 0 (Fronts f) refl
fronts-all P (Fronts f ∷ os) h (suc k) d within = fronts-all P os (λ s o is. h (suc s) o is) k d (omega arith)
fronts-all P (NoMemory r ∷ os) h k d within = fronts-all P os (λ s o is. h (suc s) o is) k d within

pub refused-all : (P : Outcome → Type 0) (os : List Outcome) → ((s : ℕ) (o : Outcome) → slice_get os s ≡ Some o → P o)
    → All (λ r. P (NoMemory r)) (refused_among os)
refused-all P [] h k d within = absurd (omega arith)
refused-all P (NoMemory r ∷ os) h zero d within = h 0 (NoMemory r) refl
refused-all P (NoMemory r ∷ os) h (suc k) d within = refused-all P os (λ s o is. h (suc s) o is) k d (omega arith)
refused-all P (Fronts f ∷ os) h k d within = refused-all P os (λ s o is. h (suc s) o is) k d within

-- one outcome more
pub fronts-push : (os : List Outcome) (f : SectionData)
    → fronts_among (os ++ Fronts f ∷ []) ≡ fronts_among os ++ f ∷ []
fronts-push [] f = refl
fronts-push (Fronts g ∷ os) f = ap (λ l. g ∷ l) (fronts-push os f)
fronts-push (NoMemory r ∷ os) f = fronts-push os f

pub fronts-skip : (os : List Outcome) (r : ℕ) → fronts_among (os ++ NoMemory r ∷ []) ≡ fronts_among os
fronts-skip [] r = refl
fronts-skip (Fronts g ∷ os) r = ap (λ l. g ∷ l) (fronts-skip os r)
fronts-skip (NoMemory q ∷ os) r = fronts-skip os r

pub refused-push : (os : List Outcome) (r : ℕ) → refused_among (os ++ NoMemory r ∷ []) ≡ refused_among os ++ r ∷ []
refused-push [] r = refl
refused-push (NoMemory q ∷ os) r = ap (λ l. q ∷ l) (refused-push os r)
refused-push (Fronts g ∷ os) r = refused-push os r

pub refused-skip : (os : List Outcome) (f : SectionData) → refused_among (os ++ Fronts f ∷ []) ≡ refused_among os
refused-skip [] f = refl
refused-skip (NoMemory q ∷ os) f = ap (λ l. q ∷ l) (refused-skip os f)
refused-skip (Fronts g ∷ os) f = refused-skip os f

-- no more fronts and refused sections than outcomes
pub fronts-few : (os : List Outcome) → length (fronts_among os) + length (refused_among os) ≡ length os
fronts-few [] = refl
fronts-few (Fronts g ∷ os) = (let a = fronts-few os in omega arith)
fronts-few (NoMemory r ∷ os) = (let a = fronts-few os in omega arith)

-- one outcome is left, so fewer were taken than there are
pub few-left : (yielded left all : List Outcome) (o : Outcome) (rest : List Outcome) → yielded ++ left ≡ all
    → left ≡ o ∷ rest → length yielded < length all
few-left yielded left all o rest split steps =
    let a : length (yielded ++ left) ≡ length all = ap length split in
    let b = length-append yielded left in
    let c : length left ≡ length (o ∷ rest) = ap length steps in
    omega arith
