-- Lists with a number for each section, under walks that write the numbers one by one, and their greatest and least.
use Rattle.std.proofs.Common.{◌≡◌, ◌≢◌, ℕ, ◌+◌, ◌<◌, ◌≤◌, List, [], ◌∷◌, length, map, max, min, Bool, true, false, cond, inl, inr, Option, Some, None, refl, ap, ◌∙◌, sym, subst, get_or, set, arith, get_or-set_other, get_or-set_same}
use Rattle.std.proofs.lemmas.Bool.{cases_eq}
use Rattle.std.proofs.lemmas.List.{length-set}
use Rattle.std.proofs.lemmas.List.Sums.{sum-map}
use Rattle.std.specs.Prelude.{filter, fold, sum, sum_by, slice_index}
use Rattle.duct_units.specs.declared.side.Side.{Side}
use Rattle.duct_units.specs.Prices.{lesser}
use Rattle.duct_definitions.specs.Tree.{Tree, section_count, at_neighbour, side, all_leaves, leaves}
use Rattle.duct_units.specs.Side.{same_side}
use Rattle.duct_definitions.specs.Dampers.{least_of}
use Rattle.duct_definitions.proofs.SectionLists.{leaves_of_side}
use Rattle.design_laws.proofs.Among.{Among}
use Rattle.damper_balance.specs.SectionNumbers.{ListsEach, greatest_at, least_at}

-- a walk has come to k: the numbers before k are those of before, and the others those of after
pub record IsWrittenTo (t : Tree) (before after : ℕ → ℕ) (k : ℕ) (numbers : List ℕ) : Type 0 where
  pub count : length numbers ≡ section_count t
  pub first : (s : ℕ) → s < k → s < section_count t → get_or numbers s 0 ≡ before s
  pub rest : (s : ℕ) → k ≤ s → s < section_count t → get_or numbers s 0 ≡ after s

pub written-none : (t : Tree) (before : ℕ → ℕ) (numbers : List ℕ) → length numbers ≡ section_count t
    → IsWrittenTo t before (λ s. get_or numbers s 0) 0 numbers
written-none t before numbers count = record {
  count = count;
  first = λ s low _. absurd (omega arith);
  rest = λ s _ _. refl;
}

-- the written number is what it has to be, and so are the others
set_is : (f : ℕ → ℕ) (numbers : List ℕ) (k number s : ℕ) → k < length numbers → number ≡ f k
    → (s ≢ k → get_or numbers s 0 ≡ f s) → get_or (set numbers k number) s 0 ≡ f s
set_is f numbers k number s here is others =
    elim (cases_eq s k) [
      | inl same ↦ subst (λ (j : ℕ). get_or (set numbers k number) j 0 ≡ f j) (sym same)
          (get_or-set_same numbers k number 0 here ∙ is)
      | inr other ↦ get_or-set_other numbers k s number 0 other ∙ others other
    ]

-- one number more, on the way up
pub written-up : (t : Tree) (before after : ℕ → ℕ) (k : ℕ) (numbers : List ℕ) (number : ℕ) → k < section_count t
    → IsWrittenTo t before after k numbers → number ≡ before k
    → IsWrittenTo t before after (k + 1) (set numbers k number)
written-up t before after k numbers number within to is =
    let count = to.count in
    record {
      count = length-set numbers k number ∙ to.count;
      first = λ s low inside. set_is before numbers k number s (omega arith) is
          (λ other. to.first s (omega arith) inside);
      rest = λ s high inside.
          let other : s ≢ k = omega arith in
          get_or-set_other numbers k s number 0 other ∙ to.rest s (omega arith) inside;
    }

-- one number more, on the way down
pub written-down : (t : Tree) (before after : ℕ → ℕ) (j k : ℕ) (numbers : List ℕ) (number : ℕ)
    → k < section_count t → j ≡ k + 1
    → IsWrittenTo t before after j numbers → number ≡ after k → IsWrittenTo t before after k (set numbers k number)
written-down t before after j k numbers number within next to is =
    let count = to.count in
    record {
      count = length-set numbers k number ∙ to.count;
      first = λ s low inside.
          let other : s ≢ k = omega arith in
          get_or-set_other numbers k s number 0 other ∙ to.first s (omega arith) inside;
      rest = λ s high inside. set_is after numbers k number s (omega arith) is
          (λ other. to.rest s (omega arith) inside);
    }

pub all_before : (t : Tree) (before after : ℕ → ℕ) (k : ℕ) (numbers : List ℕ) → section_count t ≤ k
    → IsWrittenTo t before after k numbers → ListsEach t before numbers
all_before t before after k numbers past to = record {
  count = to.count;
  each = λ s within. to.first s (omega arith) within;
}

pub none_after : (t : Tree) (before after : ℕ → ℕ) (numbers : List ℕ) → ListsEach t before numbers
    → IsWrittenTo t before after (section_count t) numbers
none_after t before after numbers all = record {
  count = all.count;
  first = λ s _ within. all.each s within;
  rest = λ s high within. absurd (omega arith);
}

pub all_after : (t : Tree) (before after : ℕ → ℕ) (numbers : List ℕ) → IsWrittenTo t before after 0 numbers
    → ListsEach t after numbers
all_after t before after numbers to = record {
  count = to.count;
  each = λ s within. to.rest s (omega arith) within;
}

-- the greatest number of those that pass a test, section by section
abbrev pub greater : (ℕ → Bool) → List ℕ → ℕ → ℕ → ℕ
greater test numbers most s = cond (test s) (max most (get_or numbers s 0)) most

fold-greater : (test : ℕ → Bool) (numbers : List ℕ) (most : ℕ) (ss : List ℕ)
    → fold (greater test numbers) most ss ≡ fold max most (map (λ s. slice_index numbers s) (filter test ss))
fold-greater test numbers most [] = refl
fold-greater test numbers most (s ∷ ss) =
    elim (test s) as
    (λ b. fold (greater test numbers) (cond b (max most (get_or numbers s 0)) most) ss
    ≡ fold max most (map (λ x. slice_index numbers x) (cond b (s ∷ filter test ss) (filter test ss)))) [
      | true ↦ fold-greater test numbers (max most (get_or numbers s 0)) ss
      | false ↦ fold-greater test numbers most ss
    ]

abbrev pub is_of : Tree → Side → ℕ → Bool
is_of t x s = same_side (side t s) x

pub greatest_of_side : (t : Tree) (x : Side) (numbers : List ℕ)
    → fold (greater (is_of t x) numbers) 0 (all_leaves t) ≡ greatest_at numbers (leaves t x)
greatest_of_side t x numbers =
    fold-greater (is_of t x) numbers 0 (all_leaves t)
    ∙ ap (λ ss. fold max 0 (map (λ s. slice_index numbers s) ss)) (leaves_of_side t x)

-- what two functions give of the neighbour, where they agree on it
pub same_beside : (f g : ℕ → ℕ) (o : Option ℕ) → ((n : ℕ) → o ≡ Some n → f n ≡ g n)
    → at_neighbour f o ≡ at_neighbour g o
same_beside f g None each = refl
same_beside f g (Some n) each = each n refl

-- what two functions make of a list, where they agree on its items
pub map_each : (f g : ℕ → ℕ) (ss : List ℕ) → ((s : ℕ) → Among s ss → f s ≡ g s) → map f ss ≡ map g ss
map_each f g [] each = refl
map_each f g (s ∷ ss) each =
    ap (λ (n : ℕ). n ∷ map f ss) (each s (inl refl))
    ∙ ap (λ (ns : List ℕ). g s ∷ ns) (map_each f g ss (λ x later. each x (inr later)))

pub sum_by-each : (f g : ℕ → ℕ) (ss : List ℕ) → ((s : ℕ) → Among s ss → f s ≡ g s) → sum_by f ss ≡ sum_by g ss
sum_by-each f g ss each = sym (sum-map f ss) ∙ ap sum (map_each f g ss each) ∙ sum-map g ss

least_of-first : (a b : ℕ) (rest : List ℕ) → least_of (min a b ∷ rest) ≡ least_of (a ∷ b ∷ rest)
least_of-first a b [] = refl
least_of-first a b (c ∷ rest) = let others : ℕ = least_of (c ∷ rest) in omega arith

least_from : (numbers : List ℕ) (f : ℕ → ℕ) (a : ℕ) (ss : List ℕ)
    → ((s : ℕ) → Among s ss → slice_index numbers s ≡ f s)
    → fold (λ least s. lesser least (Some (slice_index numbers s))) (Some a) ss ≡ Some (least_of (a ∷ map f ss))
least_from numbers f a [] each = refl
least_from numbers f a (s ∷ ss) each =
    least_from numbers f (min a (slice_index numbers s)) ss (λ x later. each x (inr later))
    ∙ ap (λ b. Some (least_of (min a b ∷ map f ss))) (each s (inl refl))
    ∙ ap Some (least_of-first a (f s) (map f ss))

pub least_at-each : (numbers : List ℕ) (f : ℕ → ℕ) (s : ℕ) (ss : List ℕ)
    → ((x : ℕ) → Among x (s ∷ ss) → slice_index numbers x ≡ f x)
    → least_at numbers (s ∷ ss) ≡ Some (least_of (map f (s ∷ ss)))
least_at-each numbers f s ss each =
    least_from numbers f (slice_index numbers s) ss (λ x later. each x (inr later))
    ∙ ap (λ b. Some (least_of (b ∷ map f ss))) (each s (inl refl))
