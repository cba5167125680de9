-- How rules go on while they are asked one by one.
use Rattle.std.proofs.Common.{◌≡◌, ℕ, zero, suc, ◌+◌, ◌<◌, ◌≤◌, List, [], ◌∷◌, map, length, set, Option, Some, None, Bool, true, false, refl, ap, sym, ◌∙◌, arith, cond, slice_get, slice_index, length-set, not, ◌&&◌, option_map, IsTrue, IsNone, ◌↔◌, subst, inl, inr}
use Rattle.std.proofs.lemmas.List.{length-map}
use Rattle.std.proofs.lemmas.Bool.Decides.{eqb_tells}
use Rattle.design_rules.specs.declared.facts.PairFacts.{PairFacts}
use Rattle.design_rules.specs.Meanings.{Meaning, all_allow, first_refusal, refuses_first, raised, SameRules}

-- the rules so far: nothing has changed, and the first i allow the facts
pub record Asked {A : Type 0} (allows : A → Meaning) (count : A → ℕ) (label : A → List ℕ) (f : PairFacts) (i : ℕ) (old now : List A) : Type 0 where
  pub long : length now ≡ length old
  pub meanings : map allows now ≡ map allows old
  pub counts : map count now ≡ map count old
  pub names : map label now ≡ map label old
  pub so_far : (k : ℕ) (m : Meaning) → k < i → slice_get (map allows old) k ≡ Some m → m f ≡ true

pub map-set : {A B : Type 0} (m : A → B) (xs : List A) (i : ℕ) (x y : A) → slice_get xs i ≡ Some x → m y ≡ m x → map m (set xs i y) ≡ map m xs
map-set m [] i x y e h = refl
map-set m (z ∷ zs) zero x y e h = (let w : z ≡ x = cc in ap (λ v. v ∷ map m zs) (h ∙ ap m (sym w)))
map-set m (z ∷ zs) (suc i) x y e h = ap (λ v. m z ∷ v) (map-set m zs i x y e h)

pub get-map : {A B : Type 0} (m : A → B) (xs : List A) (i : ℕ) (x : A) → slice_get xs i ≡ Some x → slice_get (map m xs) i ≡ Some (m x)
get-map m [] i x e = absurd (cc e)
get-map m (z ∷ zs) zero x e = (let w : z ≡ x = cc in ap (λ v. Some (m v)) w)
get-map m (z ∷ zs) (suc i) x e = get-map m zs i x e

map-raised : {A : Type 0} (count : A → ℕ) (xs : List A) (i : ℕ) (x y : A) → slice_get xs i ≡ Some x → count y ≡ count x + 1 → map count (set xs i y) ≡ raised i (map count xs)
map-raised m [] i x y e h = refl
map-raised m (z ∷ zs) zero x y e h = (let w : z ≡ x = cc in ap (λ v. v ∷ map m zs) (h ∙ ap (λ v. m v + 1) (sym w)))
map-raised m (z ∷ zs) (suc i) x y e h = ap (λ v. m z ∷ v) (map-raised m zs i x y e h)

-- rule i is the first that refuses: those before it allow the facts
first_refusal-at : (rules : List Meaning) (f : PairFacts) (i : ℕ) (r : Meaning) → ((k : ℕ) (m : Meaning) → k < i → slice_get rules k ≡ Some m → m f ≡ true) → slice_get rules i ≡ Some r → r f ≡ false
    → first_refusal rules f ≡ Some i
first_refusal-at [] f i r h e bad = absurd (cc e)
first_refusal-at (m ∷ ms) f zero r h e bad =
    (let w : m ≡ r = cc in ap (λ v. cond v (option_map (λ i. i + 1) (first_refusal ms f)) (Some 0)) (ap (λ g. g f) w ∙ bad))
first_refusal-at (m ∷ ms) f (suc i) r h e bad =
    ap (λ v. cond v (option_map (λ i. i + 1) (first_refusal ms f)) (Some 0)) (h 0 m (omega arith) refl)
    ∙ ap (option_map (λ i. i + 1)) (first_refusal-at ms f i r (λ k n l. h (suc k) n (omega arith)) e bad)
    ∙ ap Some (omega arith)

-- no rule refuses: all allow the facts
first_refusal-none : (rules : List Meaning) (f : PairFacts) → ((k : ℕ) (m : Meaning) → k < length rules → slice_get rules k ≡ Some m → m f ≡ true) → first_refusal rules f ≡ None
first_refusal-none [] f h = refl
first_refusal-none (m ∷ ms) f h =
    ap (λ v. cond v (option_map (λ i. i + 1) (first_refusal ms f)) (Some 0)) (h 0 m (omega arith) refl)
    ∙ ap (option_map (λ i. i + 1)) (first_refusal-none ms f (λ k n l. h (suc k) n (omega arith)))

-- one more rule was asked, and allows the facts
pub asked-more : {A : Type 0} (allows : A → Meaning) (count : A → ℕ) (label : A → List ℕ) (f : PairFacts) (i : ℕ) (old now : List A) (x y : A) → Asked allows count label f i old now → slice_get now i ≡ Some x
    → allows x f ≡ true → allows y ≡ allows x → count y ≡ count x → label y ≡ label x → Asked allows count label f (i + 1) old (set now i y)
asked-more allows count label f i old now x y h at ok m c n =
    record {
      long = length-set now i y ∙ h.long;
      meanings = map-set allows now i x y at m ∙ h.meanings;
      counts = map-set count now i x y at c ∙ h.counts;
      names = map-set label now i x y at n ∙ h.names;
      so_far = so;
    }
  where
    is-it : slice_get (map allows old) i ≡ Some (allows x)
    is-it = ap (λ l. slice_get l i) (sym h.meanings) ∙ get-map allows now i x at

    so : (k : ℕ) (m' : Meaning) → k < i + 1 → slice_get (map allows old) k ≡ Some m' → m' f ≡ true
    so k m' l e =
        elim (eqb_tells k i) [
          | inl p ↦ (let q : Some m' ≡ Some (allows x) = sym e ∙ ap (slice_get (map allows old)) p.1 ∙ is-it in let w : m' ≡ allows x = cc in ap (λ g. g f) w ∙ ok)
          | inr p ↦ (let q = p.1 in h.so_far k m' (omega arith) e)
        ]

index-get : (xs : List ℕ) (i n : ℕ) → slice_get xs i ≡ Some n → slice_index xs i ≡ n
index-get [] i n e = absurd (cc e)
index-get (x ∷ xs) zero n e = cc
index-get (x ∷ xs) (suc i) n e = index-get xs i n e

pub has-room : {A : Type 0} (allows : A → Meaning) (count : A → ℕ) (label : A → List ℕ) (f : PairFacts) (i most : ℕ) (old now : List A) (x : A) → Asked allows count label f i old now → slice_get now i ≡ Some x
    → ((k : ℕ) → slice_index (map count old) k < most) → count x < most
has-room allows count label f i most old now x h at room =
    (let e = index-get (map count old) i (count x) (ap (λ l. slice_get l i) (sym h.counts) ∙ get-map count now i x at) in let r = room i in omega arith)

-- ---- what the place of the first refusal tells

-- what the first rule says decides which comes next
by-first : (m : Meaning) (ms : List Meaning) (f : PairFacts) (b : Bool) → m f ≡ b → first_refusal (m ∷ ms) f ≡ cond b (option_map (λ i. i + 1) (first_refusal ms f)) (Some 0)
by-first m ms f b w = ap (λ v. cond v (option_map (λ i. i + 1) (first_refusal ms f)) (Some 0)) w

none-below : (o : Option ℕ) → option_map (λ i. i + 1) o ≡ None → o ≡ None
none-below None e = refl
none-below (Some j) e = (cc)

-- the place of the first that refuses tells what all say
abbrev pub Tells : List Meaning → PairFacts → Option ℕ → Type 0
Tells rules f None = all_allow rules f ≡ true
Tells rules f (Some i) = (refuses_first rules i f ≡ true) × (all_allow rules f ≡ false) × (i < length rules)

tells-next : (m : Meaning) (ms : List Meaning) (f : PairFacts) (o : Option ℕ) → m f ≡ true → Tells ms f o → Tells (m ∷ ms) f (option_map (λ i. i + 1) o)
tells-next m ms f None w h = ap (λ b. b && all_allow ms f) w ∙ h
tells-next m ms f (Some j) w h =
    (let p : suc j ≡ j + 1 = omega arith in
    subst (λ (n : ℕ). Tells (m ∷ ms) f (Some n)) p
    (ap (λ b. b && refuses_first ms j f) w ∙ h.0, ap (λ b. b && all_allow ms f) w ∙ h.1, (let l = h.2 in omega arith)))

pub tells : (rules : List Meaning) (f : PairFacts) → Tells rules f (first_refusal rules f)
tells [] f = refl
tells (m ∷ ms) f = by (m f) refl (tells ms f)
  where
    by : (b : Bool) → m f ≡ b → Tells ms f (first_refusal ms f) → Tells (m ∷ ms) f (first_refusal (m ∷ ms) f)
    by true w h = subst (Tells (m ∷ ms) f) (sym (by-first m ms f true w)) (tells-next m ms f (first_refusal ms f) w h)
    by false w h = subst (Tells (m ∷ ms) f) (sym (by-first m ms f false w)) (ap not w, ap (λ b. b && all_allow ms f) w, omega arith)

some-refuses : (rules : List Meaning) (f : PairFacts) (i : ℕ) → Some i ≡ first_refusal rules f → (refuses_first rules i f ≡ true) × (all_allow rules f ≡ false) × (i < length rules)
some-refuses rules f i e = subst (Tells rules f) (sym e) (tells rules f)

-- ---- the same, as the clauses of `judge` say it

true-is : (b : Bool) → b ≡ true → IsTrue b
true-is b e = grind arith

pub found-refuses : (rules : List Meaning) (f : PairFacts) (i : ℕ) → Some i ≡ first_refusal rules f → IsTrue (refuses_first rules i f)
found-refuses rules f i e = true-is (refuses_first rules i f) (some-refuses rules f i e).0

pub found-none : (rules : List Meaning) (f : PairFacts) (o : Option ℕ) → o ≡ first_refusal rules f → IsNone o ↔ IsTrue (all_allow rules f)
found-none rules f None e = (let h : all_allow rules f ≡ true = subst (Tells rules f) (sym e) (tells rules f) in (λ w. true-is (all_allow rules f) h, λ w. refl))
found-none rules f (Some i) e = (let h = (some-refuses rules f i e).1 in grind arith)

pub found-within : {A : Type 0} (allows : A → Meaning) (rules : List A) (f : PairFacts) (i : ℕ) → Some i ≡ first_refusal (map allows rules) f → i < length rules
found-within allows rules f i e = (let l = (some-refuses (map allows rules) f i e).2 in let d = length-map rules allows in omega arith)

-- the rule at i refuses
pub record Refused {A : Type 0} (allows : A → Meaning) (count : A → ℕ) (label : A → List ℕ) (f : PairFacts) (i : ℕ) (old now : List A) : Type 0 where
  pub value : Some i ≡ first_refusal (map allows old) f
  pub none : IsNone (Some i) ↔ IsTrue (all_allow (map allows old) f)
  pub some : IsTrue (refuses_first (map allows old) i f)
  pub within : i < length old
  pub counts : map count now ≡ raised i (map count old)
  pub same : SameRules allows label old now

pub refused-at : {A : Type 0} (allows : A → Meaning) (count : A → ℕ) (label : A → List ℕ) (f : PairFacts) (i : ℕ) (old now : List A) (x y : A) → Asked allows count label f i old now → slice_get now i ≡ Some x
    → allows x f ≡ false → allows y ≡ allows x → count y ≡ count x + 1 → label y ≡ label x → Refused allows count label f i old (set now i y)
refused-at allows count label f i old now x y h at bad m c n =
    let value : Some i ≡ first_refusal (map allows old) f = sym (first_refusal-at (map allows old) f i (allows x) h.so_far (ap (λ l. slice_get l i) (sym h.meanings) ∙ get-map allows now i x at) bad) in
    record {
      value = value;
      none = found-none (map allows old) f (Some i) value;
      some = found-refuses (map allows old) f i value;
      within = found-within allows old f i value;
      counts = map-raised count now i x y at c ∙ ap (raised i) h.counts;
      same = record { meanings = map-set allows now i x y at m ∙ h.meanings; names = map-set label now i x y at n ∙ h.names };
    }

-- every rule was asked, and none refuses
pub record AllAsked {A : Type 0} (allows : A → Meaning) (f : PairFacts) (old : List A) : Type 0 where
  pub value : None ≡ first_refusal (map allows old) f
  pub none : IsNone {T = ℕ} None ↔ IsTrue (all_allow (map allows old) f)

pub all-asked : {A : Type 0} (allows : A → Meaning) (count : A → ℕ) (label : A → List ℕ) (f : PairFacts) (i : ℕ) (old now : List A) → Asked allows count label f i old now → length old ≤ i → AllAsked allows f old
all-asked allows count label f i old now h l =
    let value : None ≡ first_refusal (map allows old) f = sym (first_refusal-none (map allows old) f (λ k m b e. h.so_far k m (let d = length-map old allows in omega arith) e)) in
    record { value = value; none = found-none (map allows old) f None value }
