-- The sizes of the first sections, on the way from the fan outwards.
use Rattle.std.proofs.Common.{◌≡◌, ℕ, ◌+◌, ◌-◌, ◌<◌, ◌≤◌, refl, arith, ap, sym, ◌∙◌, subst, inl, inr, Option, Some, None, List, [], ◌∷◌, ◌++◌, length}
use Rattle.std.specs.Prelude.{IfSome, IsSome, slice_index}
use Rattle.std.proofs.lemmas.Bool.Decides.{eqb_tells}
use Rattle.std.proofs.lemmas.List.{length-append}
use Rattle.std.proofs.Math.ListN.{get_or-append}
use Rattle.std.proofs.Math.Seq.{get_or-append_seam}
use Rattle.duct_definitions.specs.Tree.{IsTree, section_count, neighbour, at_neighbour, side}
use Rattle.duct_definitions.specs.Network.{Network, columns, columns_beside, pair_at, cap}
use Rattle.duct_definitions.specs.Designs.{loss_of}
use Rattle.duct_definitions.proofs.TreeLaws.{earlier, neighbour_earlier}
use Rattle.least_laws.specs.LeastFromChildren.{least_in}
use Rattle.least_laws.specs.Choosing.{Attains}
use Rattle.least_laws.proofs.Attained.{root_there, child_there}
use Rattle.least_laws.proofs.DuctsOf.{columns-child}
use Rattle.fan_choice.specs.declared.choice.Choice.{Choice}
use Rattle.expand_sizes.specs.BestChoice.{IsBestChoice, budget_on}
use Rattle.expand_sizes.proofs.Budgets.{side-there, side-within}
use Rattle.expand_sizes.specs.Descent.{left_towards, CanBeSized}

-- k is the first size of section s with the least price within what is left, of which it leaves the rest
pub record IsSized (net : Network) (s g left rest k : ℕ) : Type 0 where
  pub within : left ≤ cap net
  pub attains : Attains net s g left k
  pub first : (j : ℕ) → j < k → Attains net s g left j → ⊥
  pub rest_is : rest ≡ left - loss_of (pair_at net s k g)

-- section s has its size among the sizes, and what it leaves among the rests
abbrev pub IsSizedAt : Network → Choice → List ℕ → List ℕ → ℕ → Type 0
IsSizedAt net choice sizes rests s =
    IsSized net s (at_neighbour (slice_index sizes) (neighbour net.tree s))
    (left_towards (budget_on choice (side net.tree s)) rests (neighbour net.tree s)) (slice_index rests s)
    (slice_index sizes s)

-- the first n sections have their sizes
pub record IsSizedTo (net : Network) (choice : Choice) (n : ℕ) (sizes rests : List ℕ) : Type 0 where
  pub tree : IsTree net.tree
  pub best : IsBestChoice net choice
  pub size_count : length sizes ≡ n
  pub rest_count : length rests ≡ n
  pub each : (s : ℕ) → s < n → IsSizedAt net choice sizes rests s

pub sized-none : {net : Network} {choice : Choice} {sizes rests : List ℕ} → IsTree net.tree
    → IsBestChoice net choice → sizes ≡ [] → rests ≡ [] → IsSizedTo net choice 0 sizes rests
sized-none tree best no_sizes no_rests = record {
  tree = tree;
  best = best;
  size_count = ap length no_sizes;
  rest_count = ap length no_rests;
  each = λ s less. absurd (omega arith);
}

-- the next section can be sized beside its neighbour's size, within what is left
module _ {net : Network} {choice : Choice} {n : ℕ} {sizes rests : List ℕ}
    (so_far : IsSizedTo net choice n sizes rests) (within : n < section_count net.tree) where
  sizable-at : (o : Option ℕ) → neighbour net.tree n ≡ o
      → CanBeSized net n (at_neighbour (slice_index sizes) o)
      (left_towards (budget_on choice (side net.tree n)) rests o)
  sizable-at None at_fan = record {
    tree = so_far.tree;
    section = within;
    beside = (let one : columns net n ≡ 1 = ap (columns_beside net) at_fan in omega arith);
    within = side-within so_far.best (side net.tree n);
    there =
        root_there net so_far.tree (side net.tree n) (budget_on choice (side net.tree n)) n
        (side-there so_far.best (side net.tree n)) within at_fan refl;
  }
  sizable-at (Some m) next =
      let sized = so_far.each m (earlier net.tree n m so_far.tree within next) in
      record {
        tree = so_far.tree;
        section = within;
        beside =
            (let many = columns-child net n m next in
            let in_range = sized.attains.in_range in
            omega arith);
        within =
            (let less = sized.within in
            let rest = sized.rest_is in
            omega arith);
        there =
            subst (λ rest. IsSome (least_in net n (slice_index sizes m) rest)) (sym sized.rest_is)
            (child_there net so_far.tree m _ _ (slice_index sizes m) n sized.attains next);
      }

-- a list that grows keeps what stands in it, and ends with what was added
kept : (xs : List ℕ) (x m : ℕ) → m < length xs → slice_index xs m ≡ slice_index (xs ++ x ∷ []) m
kept xs x m within = sym (get_or-append xs (x ∷ []) 0 m within)

added : (xs : List ℕ) (x n : ℕ) → length xs ≡ n → x ≡ slice_index (xs ++ x ∷ []) n
added xs x n count = sym (ap (slice_index (xs ++ x ∷ [])) (sym count) ∙ get_or-append_seam xs x [] 0)

size-kept : (sizes : List ℕ) (k : ℕ) (o : Option ℕ) → IfSome o (λ m. m < length sizes)
    → at_neighbour (slice_index sizes) o ≡ at_neighbour (slice_index (sizes ++ k ∷ [])) o
size-kept sizes k None within = refl
size-kept sizes k (Some m) within = kept sizes k m within

left-kept : (budget : ℕ) (rests : List ℕ) (rest : ℕ) (o : Option ℕ) → IfSome o (λ m. m < length rests)
    → left_towards budget rests o ≡ left_towards budget (rests ++ rest ∷ []) o
left-kept budget rests rest None within = refl
left-kept budget rests rest (Some m) within = kept rests rest m within

IsSized-same : (net : Network) (s g left rest k h room other j : ℕ) → g ≡ h → left ≡ room → rest ≡ other → k ≡ j
    → IsSized net s g left rest k → IsSized net s h room other j
IsSized-same net s g left rest k h room other j beside left_is rest_is size sized =
    subst (IsSized net s h room other) size
    (subst (λ r. IsSized net s h room r k) rest_is
    (subst (λ l. IsSized net s h l rest k) left_is
    (subst (λ b. IsSized net s b left rest k) beside sized)))

earlier-within : (o : Option ℕ) (s n : ℕ) → IfSome o (λ m. m < s) → s ≤ n → IfSome o (λ m. m < n)
earlier-within None s n before few = before
earlier-within (Some m) s n before few = omega arith

-- one section more
module _ (net : Network) (choice : Choice) (n : ℕ) (sizes rests : List ℕ)
    (so_far : IsSizedTo net choice n sizes rests)
    (within : n < section_count net.tree) (k rest : ℕ) where
  -- what a section up to the new one was sized with stays
  grown : (s other j : ℕ) → s ≤ n → other ≡ slice_index (rests ++ rest ∷ []) s → j ≡ slice_index (sizes ++ k ∷ []) s
      → IsSized net s (at_neighbour (slice_index sizes) (neighbour net.tree s))
      (left_towards (budget_on choice (side net.tree s)) rests (neighbour net.tree s)) other j
      → IsSizedAt net choice (sizes ++ k ∷ []) (rests ++ rest ∷ []) s
  grown s other j few rest_is size_is sized =
      let before = neighbour_earlier net.tree s so_far.tree (omega arith) in
      let long = so_far.size_count in
      let wide = so_far.rest_count in
      IsSized-same net s _ _ other j _ _ _ _
      (size-kept sizes k (neighbour net.tree s)
      (earlier-within (neighbour net.tree s) s (length sizes) before (omega arith)))
      (left-kept (budget_on choice (side net.tree s)) rests rest (neighbour net.tree s)
      (earlier-within (neighbour net.tree s) s (length rests) before (omega arith)))
      rest_is size_is sized

  sized-more : IsSized net n (at_neighbour (slice_index sizes) (neighbour net.tree n))
      (left_towards (budget_on choice (side net.tree n)) rests (neighbour net.tree n)) rest k
      → IsSizedTo net choice (n + 1) (sizes ++ k ∷ []) (rests ++ rest ∷ [])
  sized-more sized =
      let long = so_far.size_count in
      let wide = so_far.rest_count in
      record {
        tree = so_far.tree;
        best = so_far.best;
        size_count = simp length-append (omega arith);
        rest_count = simp length-append (omega arith);
        each = λ s less. elim (eqb_tells s n) [
          | inl same ↦
              subst (IsSizedAt net choice (sizes ++ k ∷ []) (rests ++ rest ∷ [])) (sym same.1)
              (grown n rest k (omega arith) (added rests rest n wide) (added sizes k n long) sized)
          | inr other ↦
              (let differ = other.1 in
              let below : s < n = omega arith in
              grown s _ _ (omega arith) (kept rests rest s (omega arith)) (kept sizes k s (omega arith))
              (so_far.each s below))
        ];
      }

-- the next section beside size g of its neighbour, with so much left
module _ {net : Network} {choice : Choice} {n : ℕ} {sizes rests : List ℕ}
    (so_far : IsSizedTo net choice n sizes rests) (within : n < section_count net.tree) {g left : ℕ}
    {seen : List ℕ} (seen_is : seen ≡ sizes) (beside : g ≡ at_neighbour (slice_index seen) (neighbour net.tree n))
    {known : List ℕ} (known_is : known ≡ rests)
    (left_is : left ≡ left_towards (budget_on choice (side net.tree n)) known (neighbour net.tree n)) where
  size-is : g ≡ at_neighbour (slice_index sizes) (neighbour net.tree n)
  size-is = beside ∙ ap (λ xs. at_neighbour (slice_index xs) (neighbour net.tree n)) seen_is

  room-is : left ≡ left_towards (budget_on choice (side net.tree n)) rests (neighbour net.tree n)
  room-is =
      left_is ∙ ap (λ xs. left_towards (budget_on choice (side net.tree n)) xs (neighbour net.tree n)) known_is

  pub next-sizable : CanBeSized net n g left
  next-sizable =
      subst (λ h. CanBeSized net n h left) (sym size-is)
      (subst (λ room. CanBeSized net n (at_neighbour (slice_index sizes) (neighbour net.tree n)) room) (sym room-is)
      (sizable-at so_far within (neighbour net.tree n) refl))

  pub next-sized : {k loss : ℕ} → Attains net n g left k → ((j : ℕ) → j < k → Attains net n g left j → ⊥)
      → loss ≡ loss_of (pair_at net n k g) → {more_sizes more_rests : List ℕ} → more_sizes ≡ sizes ++ k ∷ []
      → more_rests ≡ rests ++ (left - loss) ∷ [] → IsSizedTo net choice (n + 1) more_sizes more_rests
  next-sized {k} {loss} attains first loss_is {more_sizes} {more_rests} sizes_are rests_are =
      let sized : IsSized net n g left (left - loss) k = record {
        within = next-sizable.within;
        attains = attains;
        first = first;
        rest_is = ap (λ lost. left - lost) loss_is;
      } in
      subst (λ xs. IsSizedTo net choice (n + 1) xs more_rests) (sym sizes_are)
      (subst (λ xs. IsSizedTo net choice (n + 1) (sizes ++ k ∷ []) xs) (sym rests_are)
      (sized-more net choice n sizes rests so_far within k (left - loss)
      (IsSized-same net n g left (left - loss) k _ _ _ _ size-is room-is refl refl sized)))
