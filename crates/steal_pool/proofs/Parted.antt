-- Hands taken apart, and passes taken in.
use Rattle.std.proofs.Common.{◌≡◌, ℕ, suc, ◌+◌, ◌<◌, List, [], ◌∷◌, ◌++◌, set, length, get_or, map, append_assoc, refl, ap, sym, ◌∙◌, arith, inl, inr}
use Rattle.std.proofs.Math.Seq.{map-set_same}
use Rattle.std.proofs.lemmas.List.Sums.{sum_by-cons, sum_by-append, sum_by-set}
use Rattle.std.specs.List.{sum_by}
use mathlib.Core.Option.{some}
use lib.ListN.{get_elem?}
use Rattle.crossbeam_deque.proofs.Lists.{at_map}
use Rattle.steal_pool.specs.declared.deque.OwnDeque.{OwnDeque}
use Rattle.steal_pool.specs.declared.deque.Reach.{Reach}
use Rattle.steal_pool.specs.declared.parting.Row.{Row}
use Rattle.steal_pool.specs.Rule.{times, joined}
use Rattle.steal_pool.specs.Ends.{DequeId, own_id, own_view, reach_id, reach_view}
use Rattle.steal_pool.specs.Hands.{HandView, all_taken}
use Rattle.steal_pool.specs.HandFields.{got_in}
use Rattle.steal_pool.specs.Deals.{skip}
use Rattle.steal_pool.specs.Gathers.{own_got, own_pushed, own_parts, reach_got, row_ids, row_got, IsSeat, Absorbed, IsParted}
use Rattle.steal_pool.proofs.Sums.{times-append}
use Rattle.steal_pool.proofs.Places.{at-short, at-unmap, at-mid, at-get, skip-below, skip-above}

map-snoc : {A B : Type 0} (f : A → B) (xs : List A) (y : A) → map f (xs ++ y ∷ []) ≡ map f xs ++ f y ∷ []
map-snoc f [] y = refl
map-snoc f (x ∷ xs) y = ap (λ l. f x ∷ l) (map-snoc f xs y)

taken-snoc : (hs : List HandView) (h : HandView) → all_taken (hs ++ h ∷ []) ≡ all_taken hs ++ h.taken
taken-snoc [] h = nil h.taken where
  nil : (xs : List ℕ) → xs ++ [] ≡ xs
  nil [] = refl
  nil (x ∷ xs) = ap (λ l. x ∷ l) (nil xs)
taken-snoc (g ∷ hs) h = ap (λ l. g.taken ++ l) (taken-snoc hs h) ∙ sym (append_assoc g.taken (all_taken hs) h.taken)

pub parted-more : (done : List HandView) (owns : List OwnDeque) (rows : List Row) (taken : List ℕ) (h : HandView) (own : OwnDeque) (row : Row) → IsParted done owns rows taken
    → own_id own ≡ h.fixed.own → own_parts own ≡ h.fixed.parts → own_pushed own ≡ h.fixed.share → row_ids row ≡ h.fixed.reaches → ((t : ℕ) → got_in t own row.reaches.items ≡ times t h.taken)
    → IsParted (done ++ h ∷ []) (owns ++ own ∷ []) (rows ++ row ∷ []) (taken ++ h.taken)
parted-more done owns rows taken h own row p d n s r c = record {
  deques = both own_id (λ (y : HandView). y.fixed.own) owns own done h p.deques d;
  pushed = both own_pushed (λ (y : HandView). y.fixed.share) owns own done h p.pushed s;
  parts = both own_parts (λ (y : HandView). y.fixed.parts) owns own done h p.parts n;
  reaches = both row_ids (λ (y : HandView). y.fixed.reaches) rows row done h p.reaches r;
  all = ap (λ l. l ++ h.taken) p.all ∙ sym (taken-snoc done h);
  counts = λ t. (
      let a = sum_by-append (own_got t) owns (own ∷ []) in
      let b = sum_by-append (row_got t) rows (row ∷ []) in
      let e = times-append t taken h.taken in
      let f = c t in
      let g = p.counts t in
      omega arith);
} where
  both : {A B C : Type 0} (f : A → C) (g : B → C) (xs : List A) (x : A) (ys : List B) (y : B) → map f xs ≡ map g ys → f x ≡ g y → map f (xs ++ x ∷ []) ≡ map g (ys ++ y ∷ [])
  both f g xs x ys y e i = map-snoc f xs x ∙ ap (λ l. l ++ f x ∷ []) e ∙ ap (λ z. map g ys ++ z ∷ []) i ∙ sym (map-snoc g ys y)

pub absorbed-none : (owns : List OwnDeque) (got : ℕ → ℕ) → ((t : ℕ) → got t ≡ 0) → Absorbed owns owns 0 got
absorbed-none owns got z = record {
  deques = refl;
  pushed = refl;
  parts = omega arith;
  counts = λ t. (let a = z t in omega arith);
}

pub absorbed-one : (old owns : List OwnDeque) (more : List Reach) (i : ℕ) (o o' : OwnDeque) (r : Reach) → Absorbed old owns (length more) (λ t. sum_by (reach_got t) more) → i < length owns → o ≡ get_or owns i o
    → own_id o' ≡ own_id o → own_view o' ≡ joined (own_view o) (reach_view r) → (reach_view r).parts ≡ 1 → Absorbed old (set owns i o') (length (r ∷ more)) (λ t. sum_by (reach_got t) (r ∷ more))
absorbed-one old owns more i o o' r h l is d m one = record {
  deques = map-set_same own_id owns i o' o (d ∙ ap own_id is) ∙ h.deques;
  pushed = map-set_same own_pushed owns i o' o (ap (λ y. y.pushed) m ∙ ap own_pushed is) ∙ h.pushed;
  parts = (
      let a = sum_by-set own_parts owns i o' o l in
      let b : own_parts o ≡ own_parts (get_or owns i o) = ap own_parts is in
      let c : own_parts o' ≡ own_parts o + (reach_view r).parts = ap (λ y. y.parts) m in
      let k = h.parts in
      omega arith);
  counts = λ t. (
      let a = sum_by-set (own_got t) owns i o' o l in
      let b : own_got t o ≡ own_got t (get_or owns i o) = ap (own_got t) is in
      let c : own_got t o' ≡ times t ((own_view o).got ++ (reach_view r).got) = ap (λ y. times t y.got) m in
      let e = times-append t (own_view o).got (reach_view r).got in
      let d = sum_by-cons (reach_got t) r more in
      let k = h.counts t in
      omega arith);
}

pub absorbed-chain : (a b c : List OwnDeque) (m k n : ℕ) (f g h : ℕ → ℕ) → Absorbed a b m f → Absorbed b c k g → n ≡ m + k → ((t : ℕ) → h t ≡ f t + g t) → Absorbed a c n h
absorbed-chain a b c m k n f g h x y e s = record {
  deques = y.deques ∙ x.deques;
  pushed = y.pushed ∙ x.pushed;
  parts = (let p = x.parts in let q = y.parts in omega arith);
  counts = λ t. (let p = x.counts t in let q = y.counts t in let r = s t in omega arith);
}

-- the owner of the deque that a reach is for
pub seat-found : (old owns : List OwnDeque) (front more : List Reach) (r : Reach) (all row : List Reach) (j i k : ℕ) → map own_id owns ≡ map own_id old → row ++ more ≡ all → row ≡ front ++ r ∷ []
    → map reach_id all ≡ skip j (map own_id old) → k ≡ length front → IsSeat k j i → (o : OwnDeque) × (get_elem? owns i ≡ some o) × (own_id o ≡ reach_id r)
seat-found old owns front more r all row j i k same whole last deal len seat =
    let parts : front ++ r ∷ more ≡ all = sym (append_assoc front (r ∷ []) more) ∙ ap (λ l. l ++ more) (sym last) ∙ whole in
    let ra : get_elem? all k ≡ some r = ap (get_elem? all) len ∙ ap (λ l. get_elem? l (length front)) (sym parts) ∙ at-mid front r more in
    let da : get_elem? (skip j (map own_id old)) k ≡ some (reach_id r) = ap (λ l. get_elem? l k) (sym deal) ∙ at_map reach_id all k r ra in
    let oa : get_elem? (map own_id old) i ≡ some (reach_id r) = elim seat [
      | inl p ↦ ap (get_elem? (map own_id old)) p.1 ∙ skip-below j k (map own_id old) (reach_id r) da p.0
      | inr p ↦ ap (get_elem? (map own_id old)) (let q = p.1 in let z : i ≡ suc k = omega arith in z) ∙ skip-above j k (map own_id old) (reach_id r) da p.0
    ] in
    at-unmap own_id owns i (reach_id r) (ap (λ l. get_elem? l i) same ∙ oa)

pub seat-inside : (owns : List OwnDeque) (i : ℕ) (d : DequeId) → ((o : OwnDeque) × (get_elem? owns i ≡ some o) × (own_id o ≡ d)) → i < length owns
seat-inside owns i d f = at-short owns i f.0 f.1

pub seat-deque : (owns : List OwnDeque) (i : ℕ) (d : DequeId) (o : OwnDeque) → ((p : OwnDeque) × (get_elem? owns i ≡ some p) × (own_id p ≡ d)) → o ≡ get_or owns i o → d ≡ own_id o
seat-deque owns i d o f is = sym f.2 ∙ ap own_id (sym (is ∙ at-get owns i f.0 o f.1))

-- the row at hand
pub row-deal : (old owns : List OwnDeque) (done rest rows all : List Row) (row : Row) (j : ℕ) → ((k : ℕ) (ds : List DequeId) → get_elem? (map row_ids all) k ≡ some ds → ds ≡ skip k (map own_id old)) → map own_id owns ≡ map own_id old
    → done ++ rows ≡ all → rows ≡ row ∷ rest → length done ≡ j → row_ids row ≡ skip j (map own_id owns)
row-deal old owns done rest rows all row j deal same whole first len =
    let parts : done ++ row ∷ rest ≡ all = ap (λ l. done ++ l) (sym first) ∙ whole in
    let ra : get_elem? all (length done) ≡ some row = ap (λ l. get_elem? l (length done)) (sym parts) ∙ at-mid done row rest in
    deal (length done) (row_ids row) (at_map row_ids all (length done) row ra) ∙ ap (skip (length done)) (sym same) ∙ ap (λ k. skip k (map own_id owns)) len

pub whole-more : {A : Type 0} (done rest rows all : List A) (row : A) → done ++ rows ≡ all → rows ≡ row ∷ rest → (done ++ row ∷ []) ++ rest ≡ all
whole-more done rest rows all row whole first = append_assoc done (row ∷ []) rest ∙ ap (λ l. done ++ l) (sym first) ∙ whole

pub whole-front : {A : Type 0} (front more row all : List A) (r : A) → row ++ more ≡ all → row ≡ front ++ r ∷ [] → front ++ r ∷ more ≡ all
whole-front front more row all r whole last = sym (append_assoc front (r ∷ []) more) ∙ ap (λ l. l ++ more) (sym last) ∙ whole
