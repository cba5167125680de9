-- The first broken rule of several lists of rules.
use Rattle.std.proofs.Common.{◌≡◌, ℕ, suc, zero, ◌+◌, ◌-◌, ◌<◌, ◌≤◌, inl, inr, List, [], ◌∷◌, ◌++◌, Bool, true, false, Option, Some, None, refl, ap, ◌∙◌, sym, subst, arith}
use Rattle.duct_units.specs.declared.fault.Fault.{Fault}
use Rattle.std.specs.Prelude.{if◌then◌else◌}
use Rattle.std.proofs.Math.Nat.{eq-or-lt_of_le}
use Rattle.std.specs.List.{flat_map, range_with_len}
use Rattle.duct_units.specs.Rules.{Rule, first_broken, or_else}

-- of two lists the first list's broken rule comes first
pub first_broken-append : (xs ys : List Rule) → first_broken (xs ++ ys) ≡ or_else (first_broken xs) (first_broken ys)
first_broken-append [] ys = refl
first_broken-append (x ∷ xs) ys =
    elim x.holds as (λ b. if b then first_broken (xs ++ ys) else Some x.fault ≡ or_else (if b then first_broken xs else Some x.fault) (first_broken ys))
    [ true ↦ first_broken-append xs ys | false ↦ refl ]

-- the rules of the numbers from i on, of n
pub first_broken-from : (f : ℕ → List Rule) (i n : ℕ) → i < n
    → first_broken (flat_map f (range_with_len i (n - i))) ≡ or_else (first_broken (f i)) (first_broken (flat_map f (range_with_len (i + 1) (n - (i + 1)))))
first_broken-from f i n h =
    let e : n - i ≡ suc (n - (i + 1)) = omega arith in
    rw e (first_broken-append (f i) (flat_map f (range_with_len (i + 1) (n - (i + 1)))))

-- the name under which an attribute can list it
pub append_rule : (xs ys : List Rule) → first_broken (xs ++ ys) ≡ or_else (first_broken xs) (first_broken ys)
append_rule = first_broken-append

-- where the rules of i hold, the first broken one is past i
pub broken_past : (f : ℕ → List Rule) (i n : ℕ) → i < n → first_broken (f i) ≡ None
    → first_broken (flat_map f (range_with_len i (n - i))) ≡ first_broken (flat_map f (range_with_len (i + 1) (n - (i + 1))))
broken_past f i n h none = first_broken-from f i n h ∙ ap (λ o. or_else o (first_broken (flat_map f (range_with_len (i + 1) (n - (i + 1)))))) none

-- where one of them is broken, it is the first
pub broken_here : (f : ℕ → List Rule) (i n : ℕ) (fault : Fault) → i < n → first_broken (f i) ≡ Some fault
    → first_broken (flat_map f (range_with_len i (n - i))) ≡ Some fault
broken_here f i n fault h some = first_broken-from f i n h ∙ ap (λ o. or_else o (first_broken (flat_map f (range_with_len (i + 1) (n - (i + 1)))))) some

-- a fault is something
none_some : (x : Fault) → ◌≡◌ {A = Option Fault} (Some x) None → ⊥
none_some x e = cc

-- neither is a refusal
pub both_none : (o p : Option Fault) → or_else o p ≡ None → (o ≡ None) × (p ≡ None)
both_none None p e = (refl, e)
both_none (Some x) p e = absurd (none_some x e)

-- a rule before the others holds where nothing is broken
pub rule_holds : (b : Bool) (rest : Option Fault) (fault : Fault) → (if b then rest else Some fault) ≡ None → (b ≡ true) × (rest ≡ None)
rule_holds true rest fault e = (refl, e)
rule_holds false rest fault e = absurd (none_some fault e)

-- no rule of any number is broken
pub none_broken : (f : ℕ → List Rule) (a n i : ℕ) → first_broken (flat_map f (range_with_len a n)) ≡ None → a ≤ i → i < a + n → first_broken (f i) ≡ None
none_broken f a zero i none low high = absurd (omega arith)
none_broken f a (suc n) i none low high =
    let parts = both_none _ _ (sym (first_broken-append (f a) (flat_map f (range_with_len (a + 1) n))) ∙ none) in
    elim (eq-or-lt_of_le low) [ inl same ↦ subst (λ x. first_broken (f x) ≡ None) same parts.0 | inr later ↦ none_broken f (a + 1) n i parts.1 (omega arith) (omega arith) ]
