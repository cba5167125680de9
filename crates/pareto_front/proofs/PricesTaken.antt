-- Prices that are taken away in rising need, until none is left.
use Rattle.std.proofs.Common.{◌≡◌, ℕ, ◌+◌, ◌-◌, ◌<◌, ◌≤◌, max, refl, ap, sym, ◌∙◌, arith, inl, inr, subst, List, length, take, drop, get_or, set, length-set, get_or-drop}
use Rattle.std.proofs.lemmas.Bool.Decides.{leb_tells}
use Rattle.std.proofs.lemmas.List.{take_more_set, drop-drop, drop-set-lt}
use Rattle.std.proofs.lemmas.List.Elements.{All-drop, All-push}
use Rattle.pareto_front.specs.declared.least_prices.TheConstants.{ABSENT}
use Rattle.pareto_front.specs.LeastPrices.{AreAbsent, AreBetween}
use Rattle.pareto_front.proofs.PricesByNeed.{absent_before, absent_after, absent_all}

-- the first n prices are taken away
pub record IsTakenTo (old new : List ℕ) (n : ℕ) : Type 0 where
  pub wide : length new ≡ length old
  pub gone : AreAbsent (take n new)
  pub left : drop n new ≡ drop n old

pub IsTakenTo-start : (prices : List ℕ) (from until : ℕ) → AreBetween from until prices → IsTakenTo prices prices from
IsTakenTo-start prices from until are = record { wide = refl; gone = are.before; left = refl }

module _ (old new : List ℕ) (n : ℕ) (taken : IsTakenTo old new n) where
  -- the next one is still there
  pub IsTakenTo-next_is : (d : ℕ) → get_or new n d ≡ get_or old n d
  IsTakenTo-next_is d =
      let same : n + 0 ≡ n = omega arith in
      ap (λ i. get_or new i d) (sym same)
      ∙ sym (get_or-drop n new 0 d) ∙ ap (λ l. get_or l 0 d) taken.left ∙ get_or-drop n old 0 d
      ∙ ap (λ i. get_or old i d) same

  pub IsTakenTo-next : n < length old → IsTakenTo old (set new n ABSENT) (n + 1)
  IsTakenTo-next within = record {
    wide = length-set new n ABSENT ∙ taken.wide;
    gone = subst AreAbsent (sym (take_more_set new n ABSENT (let same = taken.wide in omega arith)))
        (All-push (λ price. ABSENT ≤ price) (take n new) ABSENT taken.gone (omega arith));
    left =
        drop-set-lt (n + 1) new n ABSENT (omega arith)
        ∙ sym (drop-drop 1 n new) ∙ ap (drop 1) taken.left ∙ drop-drop 1 n old;
  }

  -- at the end none is left
  pub IsTakenTo-all : (from until : ℕ) → AreBetween from until old → until ≤ n → AreAbsent new
  IsTakenTo-all from until are end =
      absent_all new n taken.gone (subst AreAbsent (sym taken.left) (absent_after old until n end are.after))

  -- what is left is between the same needs
  pub IsTakenTo-between : (from until : ℕ) → from ≤ n → AreBetween from until old → n ≤ max from until → AreBetween from until new
  IsTakenTo-between from until past are end = record {
    starts = (let low = are.starts in let same = taken.wide in omega arith);
    ends = (let high = are.ends in let same = taken.wide in omega arith);
    before = absent_before new n from past taken.gone;
    after = elim (leb_tells until n) [
      | inl late ↦ All-drop (λ price. ABSENT ≤ price) until new (IsTakenTo-all from until are late.1)
      | inr early ↦
          (let before = early.1 in
          let same : n + (until - n) ≡ until = omega arith in
          let is : drop until new ≡ drop until old =
          ap (λ m. drop m new) (sym same) ∙ sym (drop-drop (until - n) n new) ∙ ap (drop (until - n)) taken.left
          ∙ drop-drop (until - n) n old ∙ ap (λ m. drop m old) same in
          subst AreAbsent (sym is) are.after)
    ];
  }
