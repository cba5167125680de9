-- Workers whose hands have given all: together their passes have noted every leaf.
use Rattle.std.proofs.Common.{◌≡◌, ℕ, zero, suc, ◌+◌, ◌<◌, ◌⊎◌, inl, inr, List, [], ◌∷◌, ◌++◌, take, drop, length, get_or, map, append-nil, true, refl, ap, sym, ◌∙◌, arith, subst}
use Rattle.std.proofs.lemmas.List.Sums.{sum_by-cons}
use Rattle.std.proofs.lemmas.List.{take_all, drop_all, length-map}
use Rattle.std.proofs.lemmas.List.Elements.{All-map}
use Rattle.std.proofs.lemmas.List.Folds.{list_any-append}
use Rattle.std.proofs.lemmas.Bool.{or_left, or_right}
use Rattle.std.proofs.lemmas.Bool.Decides.{eqb_tells}
use Rattle.std.specs.Prelude.{All, ◌==◌}
use Rattle.std.specs.List.{sum_by}
use Rattle.std.specs.List.Sorted.{IsPermutation}
use Rattle.std.proofs.lemmas.List.Sorted.{sum_by-IsPermutation}
use mathlib.Core.Option.{some}
use lib.ListN.{get_elem?}
use Rattle.duct_definitions.specs.Tree.{Tree, is_leaf, all_leaves, sections, section_count}
use Rattle.schedule_core.specs.Schedule.{is_in}
use Rattle.schedule_core.proofs.Claims.{leaf_within}
use Rattle.design_laws.proofs.Among.{Among, Among-filter, Among-range}
use Rattle.child_counter.specs.declared.view.PassView.{PassView}
use Rattle.child_counter.specs.Public.{Which, PassData, IsNew, IsBack, AreBack, noted_by}
use Rattle.steal_pool.specs.Rule.{times}
use Rattle.steal_pool.specs.Hands.{HandView}
use Rattle.steal_pool.specs.Deals.{IsDealt}
use Rattle.steal_pool.proofs.Sums.{times-cons, once, sum-map}
use Rattle.tree_contract.specs.declared.worker.Worker.{Worker}
use Rattle.tree_contract.specs.Crews.{IsReady, HasWorked}

-- the item at a place
at-has : {A : Type 0} (xs : List A) (k : ℕ) (d : A) → k < length xs → get_elem? xs k ≡ some (get_or xs k d)
at-has [] k d l = absurd (omega arith)
at-has (x ∷ xs) zero d l = refl
at-has (x ∷ xs) (suc k) d l = at-has xs k d (omega arith)

get-map : {A B : Type 0} (f : A → B) (xs : List A) (k : ℕ) (d : A) → k < length xs → get_or (map f xs) k (f d) ≡ f (get_or xs k d)
get-map f [] k d l = absurd (omega arith)
get-map f (x ∷ xs) zero d l = refl
get-map f (x ∷ xs) (suc k) d l = get-map f xs k d (omega arith)

-- a leaf is one of the leaves
leaf-among : (t : Tree) (s : ℕ) → is_leaf t s ≡ true → Among s (all_leaves t)
leaf-among t s leaf =
    Among-filter (is_leaf t) s (sections t) (Among-range 0 (section_count t) s (omega arith) (let a = leaf_within t s leaf in omega arith)) leaf

once-same : (x : ℕ) → once (x == x) ≡ 1
once-same x = elim (eqb_tells x x) [ inl p ↦ ap once p.0 | inr p ↦ absurd (p.1 refl) ]

among-times : (s : ℕ) (xs : List ℕ) → Among s xs → 0 < times s xs
among-times s [] among = absurd among
among-times s (x ∷ xs) (inl same) =
    let a = times-cons s x xs in
    let b : once (x == s) ≡ 1 = ap (λ y. once (x == y)) same ∙ once-same x in
    omega arith
among-times s (x ∷ xs) (inr later) =
    let a = times-cons s x xs in
    let b = among-times s xs later in
    omega arith

times-in : (s : ℕ) (xs : List ℕ) → 0 < times s xs → is_in xs s ≡ true
times-in s [] some_time = absurd (omega arith)
times-in s (x ∷ xs) some_time = elim (eqb_tells s x) [
  | inl p ↦ or_left _ _ p.0
  | inr p ↦ (
      let q = p.1 in
      let n : once (x == s) ≡ 0 = elim (eqb_tells x s) [ inl r ↦ absurd (q (sym r.1)) | inr r ↦ ap once r.0 ] in
      let a = times-cons s x xs in
      or_right _ _ (times-in s xs (omega arith)))
]

-- a worker before its work, by its hand and its pass
pub ready : (which : Which) (tasks : List ℕ) (n : ℕ) (crew : List Worker) → IsDealt tasks n (map (λ (w : Worker). w.hand) crew)
    → All (IsNew which) (map (λ (w : Worker). w.pass) crew) → All (λ (w : Worker). IsReady which w.hand w.pass) crew
ready which tasks n crew dealt new k d within =
    let w = get_or crew k d in
    let long = length-map crew (λ (x : Worker). x.pass) in
    let long_hands = length-map crew (λ (x : Worker). x.hand) in
    let fresh : IsNew which w.pass = subst (IsNew which) (get-map (λ (x : Worker). x.pass) crew k d within)
    (new k d.pass (omega arith)) in
    let start = dealt.start k w.hand (at-has (map (λ (x : Worker). x.hand) crew) k d.hand (omega arith)
    ∙ ap some (get-map (λ (x : Worker). x.hand) crew k d within)) in
    record {
      free = record {
        belongs = record { id_is = fresh.id_is; net_is = ap (λ (v : PassView). v.net) fresh.view_is };
        free = ap (λ (v : PassView). v.turn) fresh.view_is;
        home = fresh.home;
      };
      part = ap (λ (v : PassView). v.parts) fresh.view_is;
      fresh = start.its_rest ∙ sym start.its_share;
    }

abbrev pub Worked : Which → List Worker → List Worker → Type 0
Worked which old new = (i : ℕ) (d : Worker) → i < length old
    → HasWorked which (get_or old i d).hand (get_or new i d).hand (get_or new i d).pass

parts-sum : (which : Which) (old new : List Worker) → length new ≡ length old → Worked which old new
    → sum_by (λ (p : PassData). p.view.parts) (map (λ (w : Worker). w.pass) new) ≡ length old
parts-sum which [] [] same worked = refl
parts-sum which [] (w ∷ new) same worked = absurd (omega arith)
parts-sum which (v ∷ old) [] same worked = absurd (omega arith)
parts-sum which (v ∷ old) (w ∷ new) same worked =
    let a = sum_by-cons (λ (x : PassData). x.view.parts) w.pass (map (λ (x : Worker). x.pass) new) in
    let b = (worked 0 v (omega arith)).part in
    let c = parts-sum which old new (omega arith) (λ k d within. worked (suc k) d (omega arith)) in
    omega arith

-- a leaf that stands in the share of one of them
noted-one : (which : Which) (old new : List Worker) → length new ≡ length old → Worked which old new → (s : ℕ)
    → is_leaf which.net.tree s ≡ true → 0 < sum_by (λ (w : Worker). times s w.hand.fixed.share) old
    → is_in (noted_by (map (λ (w : Worker). w.pass) new)) s ≡ true
noted-one which [] new same worked s leaf some_time = absurd (omega arith)
noted-one which (v ∷ old) [] same worked s leaf some_time = absurd (omega arith)
noted-one which (v ∷ old) (w ∷ new) same worked s leaf some_time =
    let share = v.hand.fixed.share in
    let a = sum_by-cons (λ (x : Worker). times s x.hand.fixed.share) v old in
    let rest = noted_by (map (λ (x : Worker). x.pass) new) in
    list_any-append (λ x. s == x) w.pass.view.noted rest ∙ elim (split (times s share) (sum_by (λ (x : Worker). times s x.hand.fixed.share) old) (omega arith)) [
      | inl here ↦ or_left (is_in w.pass.view.noted s) (is_in rest s) ((worked 0 v (omega arith)).noted s (times-in s share here) leaf)
      | inr later ↦ or_right (is_in w.pass.view.noted s) (is_in rest s)
          (noted-one which old new (omega arith) (λ k d within. worked (suc k) d (omega arith)) s leaf later)
    ] where
      split : (m n : ℕ) → 0 < m + n → (0 < m) ⊎ (0 < n)
      split zero n l = inr (omega arith)
      split (suc m) n l = inl (omega arith)

-- all passes are given back
pub backs : (which : Which) (old new : List Worker) → length new ≡ length old → length old ≡ which.passes
    → Worked which old new
    → ((t : ℕ) → sum_by (λ (w : Worker). times t w.hand.fixed.share) old ≡ times t (all_leaves which.net.tree))
    → AreBack which (map (λ (w : Worker). w.pass) new)
backs which old new same passes worked shares =
    record {
      each = All-map (IsBack which) (λ (w : Worker). w.pass) new
          (λ k d within. let h = worked k d (omega arith) in record { belongs = h.free.belongs; free = h.free.free });
      parts = parts-sum which old new same worked ∙ passes;
      noted = λ s leaf. noted-one which old new same worked s leaf
          (let a = shares s in let b = among-times s (all_leaves which.net.tree) (leaf-among which.net.tree s leaf) in omega arith);
    }

-- a list that was written over whole
pub written : {X : Type 0} (len : ℕ) (new old : List X) → length old ≡ len → length new ≡ length old
    → take len (new ++ drop (length new) old) ≡ new
written len new old count same =
    ap (λ l. take len (new ++ l)) (drop_all (length new) old (omega arith))
    ∙ ap (take len) (append-nil new)
    ∙ take_all len new (omega arith)

-- the hands of the crew hold the leaves
pub crew-shares : (crew : List Worker) (hands : List HandView) (tasks : List ℕ) (t : Tree) → map (λ (w : Worker). w.hand) crew ≡ hands
    → IsPermutation (all_leaves t) tasks → ((s : ℕ) → sum_by (λ (h : HandView). times s h.fixed.share) hands ≡ times s tasks)
    → (s : ℕ) → sum_by (λ (w : Worker). times s w.hand.fixed.share) crew ≡ times s (all_leaves t)
crew-shares crew hands tasks t is all once_each s =
    sym (sum-map (λ (h : HandView). times s h.fixed.share) (λ (w : Worker). w.hand) crew)
    ∙ ap (sum_by (λ (h : HandView). times s h.fixed.share)) is
    ∙ once_each s
    ∙ sum_by-IsPermutation (λ x. once (x == s)) (all_leaves t) tasks all
