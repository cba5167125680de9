-- Fronts from the last section to the first, and in order again.
use Rattle.std.proofs.Common.{◌≡◌, ℕ, zero, suc, ◌+◌, ◌-◌, ◌<◌, List, [], ◌∷◌, ◌++◌, length, Bool, false, Some, slice_get, get_or, refl, ap, sym, ◌∙◌, subst, arith, length-append}
use mathlib.Core.List.{reverse}
use Rattle.std.proofs.lemmas.List.{get_or-reverse, length-reverse}
use Rattle.std.proofs.lemmas.Option.{slice_get-get_or, slice_get_within, slice_get_read, get_or_from_slice_get}
use Rattle.duct_definitions.specs.Network.{Network}
use Rattle.duct_definitions.specs.Tree.{section_count}
use Rattle.contract_join.specs.Kept.{KeptData, IsKeptOf}
use Rattle.contract_join.specs.SectionFronts.{SectionData, AreFrontsOf}
use Rattle.edit_session.specs.Condensed.{AreLater, AreKeptOf, AreKeptBut}

get-before : {A : Type 0} (xs ys : List A) (j : ℕ) (x : A) → slice_get xs j ≡ Some x → slice_get (xs ++ ys) j ≡ Some x
get-before [] ys j x at = absurd (cc at)
get-before (z ∷ zs) ys zero x at = at
get-before (z ∷ zs) ys (suc j) x at = get-before zs ys j x at

-- an entry of a list to which one is joined is the last, or stands before it
pub get-pushed : {A : Type 0} {C : Type 0} (xs : List A) (y x : A) (j : ℕ) → slice_get (xs ++ y ∷ []) j ≡ Some x → (slice_get xs j ≡ Some x → C) → (j ≡ length xs → y ≡ x → C) → C
get-pushed [] y x zero at before last = (let same : y ≡ x = cc in last refl same)
get-pushed [] y x (suc j) at before last = absurd (cc at)
get-pushed (z ∷ zs) y x zero at before last = before at
get-pushed (z ∷ zs) y x (suc j) at before last = get-pushed zs y x j at before (λ e same. last (ap suc e) same)

-- the fronts of one section more, before those after it
pub later-more : (net : Network) (s : ℕ) (fronts next : List SectionData) (entry : SectionData) → AreLater net (s + 1) fronts → entry.net ≡ net → entry.section ≡ s → next ≡ fronts ++ entry ∷ [] → AreLater net s next
later-more net s fronts next entry are of_net of_section is =
    subst (AreLater net s) (sym is) (record {
      count = (let l = length-append fronts (entry ∷ []) in let e = are.count in omega arith);
      each = λ j x at. get-pushed fronts entry x j at (λ before. are.each j x before)
          (λ last same. (
            ap (λ (y : SectionData). y.net) (sym same) ∙ of_net,
            (let c = are.count in let m : x.section ≡ s = ap (λ (y : SectionData). y.section) (sym same) ∙ of_section in omega arith),
          ));
    })

-- in reverse they stand in order
pub later-all : (net : Network) (fronts : List SectionData) → AreLater net 0 fronts → AreFrontsOf net (reverse fronts)
later-all net fronts are = record {
  count = (let l = length-reverse fronts in let c = are.count in omega arith);
  each = λ s entry at.
      let l = length-reverse fronts in
      let c = are.count in
      let below = slice_get_within (reverse fronts) s entry at in
      let less : s < length fronts = omega arith in
      let there : slice_get fronts (length fronts - 1 - s) ≡ Some entry =
      slice_get-get_or fronts (length fronts - 1 - s) entry (omega arith)
      ∙ ap (λ x. Some x) (sym (get_or-reverse fronts s entry less) ∙ get_or_from_slice_get (reverse fronts) s entry entry at) in
      let is = are.each (length fronts - 1 - s) entry there in
      let place = is.1 in
      (is.0, omega arith);
}

-- ---- the fronts that are left

-- the fronts of the first sections, which are exact where they aren't touched
pub record AreLeft (net : Network) (touched : ℕ → Bool) (left : List KeptData) : Type 0 where
  pub each : (s : ℕ) (k : KeptData) → slice_get left s ≡ Some k → touched s ≡ false → (k.section ≡ s) × IsKeptOf net k

pub left-before : (net : Network) (touched : ℕ → Bool) (left next : List KeptData) (last : KeptData) → AreLeft net touched left → left ≡ next ++ last ∷ [] → AreLeft net touched next
left-before net touched left next last are is = record {
  each = λ s k at off. are.each s k (ap (λ xs. slice_get xs s) is ∙ get-before next (last ∷ []) s k at) off;
}

get-last : {A : Type 0} (xs : List A) (x : A) → slice_get (xs ++ x ∷ []) (length xs) ≡ Some x
get-last [] x = refl
get-last (y ∷ ys) x = get-last ys x

pub left-last : (net : Network) (touched : ℕ → Bool) (left next : List KeptData) (last : KeptData) → AreLeft net touched left → left ≡ next ++ last ∷ [] → touched (length next) ≡ false → (last.section ≡ length next) × IsKeptOf net last
left-last net touched left next last are is off = are.each (length next) last (ap (λ xs. slice_get xs (length next)) is ∙ get-last next last) off

-- ---- the fronts that are let go

-- the fronts of the first n sections
pub record AreKeptTo (net : Network) (n : ℕ) (kept : List KeptData) : Type 0 where
  pub count : length kept ≡ n
  pub each : (s : ℕ) (k : KeptData) → slice_get kept s ≡ Some k → (k.section ≡ s) × IsKeptOf net k

pub kept-more : (net : Network) (fronts : List SectionData) (kept next : List KeptData) (n : ℕ) (front : SectionData) (one : KeptData) → AreFrontsOf net fronts → n < length fronts → front ≡ get_or fronts n front
    → AreKeptTo net n kept → one.section ≡ front.section → IsKeptOf front.net one → next ≡ kept ++ one ∷ [] → AreKeptTo net (n + 1) next
kept-more net fronts kept next n front one are less read so section exact is =
    (let of = are.each n front (slice_get_read fronts (length fronts) n front refl less read) in
    subst (AreKeptTo net (n + 1)) (sym is) (record {
      count = (let l = length-append kept (one ∷ []) in let c = so.count in omega arith);
      each = λ s k at. get-pushed kept one k s at (λ before. so.each s k before)
          (λ last same. (
            ap (λ (y : KeptData). y.section) (sym same) ∙ section ∙ of.1 ∙ sym so.count ∙ sym last,
            subst (IsKeptOf net) same (subst (λ (x : Network). IsKeptOf x one) of.0 exact),
          ));
    }))

pub kept-all : (net : Network) (fronts : List SectionData) (kept : List KeptData) (n : ℕ) → AreFrontsOf net fronts → n ≡ length fronts → AreKeptTo net n kept → AreKeptOf net kept
kept-all net fronts kept n are end so = record { count = so.count ∙ end ∙ are.count; each = so.each }

-- ---- from the last section to the first

pub left-start : (net : Network) (touched : ℕ → Bool) (kept left : List KeptData) → left ≡ kept → AreKeptBut net touched kept → AreLeft net touched left
left-start net touched kept left is are = record { each = λ s k at off. are.each s k (ap (λ xs. slice_get xs s) (sym is) ∙ at) off }

pub later-start : (net : Network) (kept left : List KeptData) (touched : ℕ → Bool) (fronts : List SectionData) → left ≡ kept → AreKeptBut net touched kept → fronts ≡ [] → AreLater net (length left) fronts
later-start net kept left touched fronts is are none =
    subst (AreLater net (length left)) (sym none) (record {
      count = (let l = ap length is in let c = are.count in let z : length left ≡ section_count net.tree = l ∙ c in omega arith);
      each = λ j entry at. absurd (cc at);
    })

pub length-popped : (left next : List KeptData) (last : KeptData) → left ≡ next ++ last ∷ [] → length left ≡ length next + 1
length-popped left next last is = ap length is ∙ length-append next (last ∷ [])

pub later-none : (net : Network) (left : List KeptData) (fronts : List SectionData) → length left ≡ 0 → AreLater net (length left) fronts → AreLater net 0 fronts
later-none net left fronts none are = subst (λ (n : ℕ). AreLater net n fronts) none are

pub empty-when : (n : ℕ) → (0 < n → ⊥) → n ≡ 0
empty-when zero none = refl
empty-when (suc n) none = absurd (none (omega arith))
