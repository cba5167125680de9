-- The reaches given out one after another.
use Rattle.std.proofs.Common.{◌≡◌, ℕ, suc, ◌+◌, ◌-◌, ◌*◌, ◌<◌, ◌≤◌, ◌≢◌, List, [], ◌∷◌, ◌++◌, set, length, get_or, map, take, length-append, length-set, refl, ap, sym, ◌∙◌, arith, inl, inr, subst}
use Rattle.std.proofs.lemmas.List.{length-map}
use Rattle.std.proofs.lemmas.Bool.Decides.{eqb_tells}
use Rattle.std.specs.List.{sum_by}
use mathlib.Core.Option.{some}
use lib.ListN.{get_elem?}
use Rattle.crossbeam_deque.proofs.Lists.{at_set, at_map, set_else, at_index}
use Rattle.steal_pool.specs.Rule.{times, all_parts}
use Rattle.steal_pool.specs.Ends.{DequeId}
use Rattle.steal_pool.specs.Hands.{Fixed, HandView, fixed_of}
use Rattle.steal_pool.specs.HandFields.{lent, reaching}
use Rattle.steal_pool.specs.Deals.{skip, own_of, OfOneDeal, Starts, IsDealt}
use Rattle.steal_pool.specs.Dealing.{Dealt, dealt_of, IsAlone, HandedOver}
use Rattle.steal_pool.proofs.Sums.{sum-set, sum-map, sum-const}
use Rattle.steal_pool.proofs.Shares.{shares-once}
use Rattle.steal_pool.proofs.Places.{at-short, at-end, at-unmap, map-at, carry, take-whole, skip-more, skip-same}

abbrev pub owns_of : List HandView → List DequeId
owns_of hands = map (λ h. h.fixed.own) hands

abbrev pub parts_with : HandView → ℕ
parts_with h = h.fixed.parts + length h.fixed.reaches

-- the hands below i have lent all that they lend, and the hand i has lent to those below j
pub record Connecting (i j : ℕ) (old hands : List HandView) : Type 0 where
  pub same : map dealt_of hands ≡ map dealt_of old
  pub before : (x : ℕ) (h : HandView) → get_elem? hands x ≡ some h → x < j → h.fixed.reaches ≡ skip x (take (suc i) (owns_of old))
  pub after : (x : ℕ) (h : HandView) → get_elem? hands x ≡ some h → j ≤ x → h.fixed.reaches ≡ skip x (take i (owns_of old))
  pub full : (x : ℕ) (h : HandView) → get_elem? hands x ≡ some h → i < x → h.fixed.parts ≡ all_parts
  pub some_parts : (h : HandView) → get_elem? hands i ≡ some h → all_parts ≤ h.fixed.parts + j
  pub parts : sum_by parts_with hands ≡ all_parts * length old

owns-dealt : (xs : List HandView) → owns_of xs ≡ map (λ (q : Dealt). q.own) (map dealt_of xs)
owns-dealt [] = refl
owns-dealt (x ∷ xs) = ap (λ ys. x.fixed.own ∷ ys) (owns-dealt xs)

owns-place : (xs : List HandView) → owns_of xs ≡ map own_of (map fixed_of xs)
owns-place [] = refl
owns-place (x ∷ xs) = ap (λ ys. x.fixed.own ∷ ys) (owns-place xs)

same-owns : (xs ys : List HandView) → map dealt_of xs ≡ map dealt_of ys → owns_of xs ≡ owns_of ys
same-owns xs ys e = owns-dealt xs ∙ ap (map (λ (q : Dealt). q.own)) e ∙ sym (owns-dealt ys)

pub same-length : (xs ys : List HandView) → map dealt_of xs ≡ map dealt_of ys → length xs ≡ length ys
same-length xs ys e = sym (length-map xs dealt_of) ∙ ap length e ∙ length-map ys dealt_of

pub connecting-begins : (old : List HandView) → ((x : ℕ) (h : HandView) → get_elem? old x ≡ some h → IsAlone h) → Connecting 0 0 old old
connecting-begins old alone = record {
  same = refl;
  before = λ x h e l. absurd (omega arith);
  after = λ x h e l. (alone x h e).none;
  full = λ x h e l. (alone x h e).all;
  some_parts = λ h e. (let a = (alone 0 h e).all in omega arith);
  parts = sum-const parts_with all_parts old (λ x h e. let a = (alone x h e).all in let b : length h.fixed.reaches ≡ 0 = ap length (alone x h e).none in omega arith);
}

pub connecting-parts : (i j : ℕ) (old hands : List HandView) → Connecting i j old hands → j < 32 → (h : HandView) → get_elem? hands i ≡ some h → 1 < h.fixed.parts
connecting-parts i j old hands c l h e = let a = c.some_parts h e in omega arith

pub connecting-next : (i j : ℕ) (old hands now : List HandView) → Connecting i j old hands → i ≢ j → j < 32 → HandedOver i j hands now → Connecting i (suc j) old now
connecting-next i j old hands now c ne small over =
    let h = over.0 in
    let k = over.1 in
    let hi = over.2 in
    let hj = over.3 in
    let d = h.fixed.own in
    let v = lent h in
    let w = reaching k d in
    let mid = set hands i v in
    let O = owns_of old in
    let nj : j ≢ i = (λ p. ne (sym p)) in
    let mj : get_elem? mid j ≡ some k = set_else hands i j v nj ∙ hj in
    let od : get_elem? O i ≡ some d = ap (λ l. get_elem? l i) (sym (same-owns hands old c.same)) ∙ at_map (λ (y : HandView). y.fixed.own) hands i h hi in
    let enough = c.some_parts h hi in
    subst (λ z. Connecting i (suc j) old z) (sym over.4) record {
      same = map-at dealt_of mid j k w mj refl ∙ map-at dealt_of hands i h v hi refl ∙ c.same;
      before = λ x u e l. elim (at_set mid j x w u e) [
        | inl q ↦ carry (λ y z. z.fixed.reaches ≡ skip y (take (suc i) O)) x j w u q.0 q.1 (ap (λ l. l ++ d ∷ []) (c.after j k hj (omega arith)) ∙ sym (skip-more j i O d od nj))
        | inr q ↦ elim (at_set hands i x v u q.1) [
          | inl r ↦ carry (λ y z. y < suc j → y ≢ j → z.fixed.reaches ≡ skip y (take (suc i) O)) x i v u r.0 r.1 (λ m n. c.before i h hi (let n' = n in omega arith)) l q.0
          | inr r ↦ c.before x u r.1 (let n = q.0 in omega arith)
        ]
      ];
      after = λ x u e l. elim (at_set mid j x w u e) [
        | inl q ↦ (let p = q.0 in absurd (omega arith))
        | inr q ↦ elim (at_set hands i x v u q.1) [
          | inl r ↦ carry (λ y z. suc j ≤ y → z.fixed.reaches ≡ skip y (take i O)) x i v u r.0 r.1 (λ m. c.after i h hi (omega arith)) l
          | inr r ↦ c.after x u r.1 (omega arith)
        ]
      ];
      full = λ x u e l. elim (at_set mid j x w u e) [
        | inl q ↦ carry (λ y z. i < y → z.fixed.parts ≡ all_parts) x j w u q.0 q.1 (λ m. c.full j k hj m) l
        | inr q ↦ elim (at_set hands i x v u q.1) [
          | inl r ↦ (let p = r.0 in absurd (omega arith))
          | inr r ↦ c.full x u r.1 l
        ]
      ];
      some_parts = λ u e. elim (at_set mid j i w u e) [
        | inl q ↦ absurd (ne q.0)
        | inr q ↦ elim (at_set hands i i v u q.1) [
          | inl r ↦ (let m : h.fixed.parts - 1 ≡ u.fixed.parts = ap (λ z. z.fixed.parts) r.1 in omega arith)
          | inr r ↦ absurd (r.0 refl)
        ]
      ];
      parts = (
          let a = sum-set parts_with hands i h v hi in
          let b = sum-set parts_with mid j k w mj in
          let e = length-append k.fixed.reaches (d ∷ []) in
          let p = c.parts in
          omega arith);
    }

pub connecting-skip : (i j : ℕ) (old hands : List HandView) → Connecting i j old hands → i ≡ j → Connecting i (suc j) old hands
connecting-skip i j old hands c p = record {
  same = c.same;
  before = λ x u e l. elim (eqb_tells x i) [
    | inl q ↦ (let a = q.1 in c.after x u e (omega arith) ∙ subst (λ y. skip y (take i (owns_of old)) ≡ skip y (take (suc i) (owns_of old))) (sym q.1) (sym (skip-same i (owns_of old))))
    | inr q ↦ c.before x u e (let a = q.1 in omega arith)
  ];
  after = λ x u e l. c.after x u e (omega arith);
  full = c.full;
  some_parts = λ u e. (let a = c.some_parts u e in omega arith);
  parts = c.parts;
}

pub connecting-over : (i n : ℕ) (old hands : List HandView) → Connecting i n old hands → length old ≡ n → Connecting (suc i) 0 old hands
connecting-over i n old hands c len = record {
  same = c.same;
  before = λ x u e l. absurd (omega arith);
  after = λ x u e l. c.before x u e (let a = at-short hands x u e in let b = same-length hands old c.same in omega arith);
  full = λ x u e l. c.full x u e (omega arith);
  some_parts = λ u e. (let a = c.full (suc i) u e (omega arith) in omega arith);
  parts = c.parts;
}

pub connecting-ends : (n : ℕ) (old hands : List HandView) → Connecting n 0 old hands → length old ≡ n → OfOneDeal (map fixed_of hands)
connecting-ends n old hands c len =
    let same = same-length hands old c.same in
    let O = owns_of old in
    let whole : take n O ≡ map own_of (map fixed_of hands) =
    ap (λ m. take m O) (sym (length-map old (λ (y : HandView). y.fixed.own) ∙ len)) ∙ take-whole O ∙ sym (same-owns hands old c.same) ∙ owns-place hands in
    record {
      reaches = λ i p e. (
          let f = at-unmap fixed_of hands i p e in
          sym (ap (λ z. z.reaches) f.2) ∙ c.after i f.0 f.1 (omega arith) ∙ ap (skip i) whole);
      parts = sum-map (λ (p : Fixed). p.parts + length p.reaches) fixed_of hands ∙ c.parts ∙ ap (λ m. all_parts * m) (sym (length-map hands fixed_of ∙ same));
    }

pub handed : (hands : List HandView) (i j : ℕ) (h k u v : HandView) (d : DequeId) → i < length hands → j < length hands → i ≢ j → h ≡ get_or hands i h → k ≡ get_or (set hands i u) j k
    → u ≡ lent h → v ≡ reaching k d → d ≡ h.fixed.own → HandedOver i j hands (set (set hands i u) j v)
handed hands i j h k u v d li lj ne eh ek eu ev ed =
    let hj = at_index (set hands i u) j k (let a = length-set hands i u in omega arith) ek in (
      h,
      k,
      at_index hands i h li eh,
      sym (set_else hands i j u (λ p. ne (sym p))) ∙ hj,
      ap (λ y. set (set hands i u) j y) (ev ∙ ap (reaching k) ed) ∙ ap (λ y. set (set hands i y) j (reaching k h.fixed.own)) eu,
    )

pub lends : (hands : List HandView) (i : ℕ) (h : HandView) → i < length hands → h ≡ get_or hands i h → ((u : HandView) → get_elem? hands i ≡ some u → 1 < u.fixed.parts) → 1 < h.fixed.parts
lends hands i h l e parts = parts h (at_index hands i h l e)

-- a list with one hand more
pub one-more : (P : ℕ → HandView → Type 0) (hands now : List HandView) (a : HandView) → now ≡ hands ++ a ∷ [] → ((x : ℕ) (h : HandView) → get_elem? hands x ≡ some h → P x h) → P (length hands) a
    → (x : ℕ) (h : HandView) → get_elem? now x ≡ some h → P x h
one-more P hands now a is old new x h e = elim (at-end hands a h x (ap (λ l. get_elem? l x) (sym is) ∙ e)) [
  | inl q ↦ old x h q
  | inr q ↦ carry P x (length hands) a h q.0 q.1 new
]

starts-same : (tasks : List ℕ) (n i : ℕ) (h g : HandView) → dealt_of h ≡ dealt_of g → Starts tasks n i h → Starts tasks n i g
starts-same tasks n i h g e s = record {
  its_share = ap (λ d. d.share) (sym e) ∙ s.its_share;
  its_pushed = ap (λ d. d.pushed) (sym e) ∙ s.its_pushed;
  its_rest = ap (λ d. d.rest) (sym e) ∙ s.its_rest;
  its_left = ap (λ d. d.left) (sym e) ∙ s.its_left;
  none_taken = ap (λ d. d.taken) (sym e) ∙ s.none_taken;
}

pub dealt : (tasks : List ℕ) (n : ℕ) (hands now : List HandView) → length hands ≡ n
    → ((x : ℕ) (h : HandView) → get_elem? hands x ≡ some h → Starts tasks n x h) → map dealt_of now ≡ map dealt_of hands
    → OfOneDeal (map fixed_of now) → IsDealt tasks n now
dealt tasks n hands now len starts same one = record {
  count = same-length now hands same ∙ len;
  start = λ i g e. (
      let f = at-unmap dealt_of hands i (dealt_of g) (ap (λ l. get_elem? l i) (sym same) ∙ at_map dealt_of now i g e) in
      starts-same tasks n i f.0 g f.2 (starts i f.0 f.1));
  one_deal = one;
}

-- the shares of dealt hands have each task as often as it was dealt
pub dealt-once : (tasks : List ℕ) (n : ℕ) (hands : List HandView) → 0 < n → IsDealt tasks n hands
    → (t : ℕ) → sum_by (λ (h : HandView). times t h.fixed.share) hands ≡ times t tasks
dealt-once tasks n hands some_hand d t = shares-once t tasks n hands d.count some_hand (λ i h e. (d.start i h e).its_share)
