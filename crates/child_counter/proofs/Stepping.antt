-- Each step as the table asks for it.
use Rattle.std.proofs.Common.{◌≡◌, ◌==◌, ℕ, ◌+◌, ◌-◌, ◌%◌, ◌^◌, ◌<◌, List, [], ◌∷◌, set, length, Option, Some, None, true, refl, ap, sym, ◌∙◌, arith, inl, inr, subst, slice_index, slice_set, cond}
use Rattle.std.proofs.lemmas.Bool.Decides.{eqb_tells}
use Rattle.std.proofs.lemmas.List.{length-set}
use mathlib.Core.Option.{some, none}
use lib.ListN.{get_elem?}
use Rattle.atomic_table.specs.Table.{Act, State as TableState, keeps, takes, gives, chain, Valid, carried_after, homes_after, put_back, rest, turned}
use Rattle.atomic_table.proofs.Lists.{set_again}
use Rattle.duct_definitions.specs.Network.{Network}
use Rattle.duct_definitions.specs.Tree.{IsTree, section_count, neighbour, is_leaf}
use Rattle.schedule_core.specs.declared.events.Event.TheVariants.{Claim, Finish}
use Rattle.schedule_core.specs.Schedule.{State, added}
use Rattle.contract_join.specs.declared.outcome.Outcome.{Outcome}
use Rattle.contract_join.specs.Outcomes.{section_of, IsOutcomeOf}
use Rattle.child_counter.specs.declared.view.PassView.{PassView}
use Rattle.child_counter.specs.Passes.{out_view, claimed_view, finished_view}
use Rattle.child_counter.specs.Shown.{Homes, Shows}
use Rattle.child_counter.specs.Steps.{Happens, IsClaim, IsFinish, with_child, without_child, own_slot, next_turn, laid}
use Rattle.child_counter.proofs.Sums.{set_twice, set_at, word-again}
use Rattle.child_counter.proofs.Children.{fits-section, give-shows, take-shows}
use Rattle.child_counter.proofs.States.{after-accepted, after-refused}
use Rattle.child_counter.proofs.Claiming.{claim-shows, claim-none}
use Rattle.child_counter.proofs.Below.{finish-more, finish-last, finish-root}

-- a step tells its caller of the states before and after
pub tells : (net : Network) (passes place word : ℕ) (old new : TableState (Option Outcome) PassView)
    (before after : State) (v w : PassView) → Shows net passes before old.words old.homes old.views
    → Shows net passes after new.words new.homes new.views
    → get_elem? old.views place ≡ some v → new.views ≡ set old.views place w → 0 < v.parts
    → (related : State → ℕ → State → Type 0) → related before (slice_index old.words word) after
    → Happens v w word related
tells net passes place word old new before after v w shown shows had has part related event =
    let same : net ≡ v.net = sym ((shown.each place v had).network part) in
    record {
      passes = passes;
      place = place;
      old = old;
      new = new;
      before = before;
      after = after;
      shown = subst (λ m. Shows m passes before old.words old.homes old.views) same shown;
      shows = subst (λ m. Shows m passes after new.words new.homes new.views) same shows;
      had = had;
      has = has;
      event = event;
    }

-- the child that may be out has gone home, and the own slot is held alone
record Given (net : Network) (passes : ℕ) (state : State) (words : List ℕ) (homes : Homes) (views : List PassView)
    (place s : ℕ) (v : PassView) (x : Option Outcome) (held : List (ℕ × Option Outcome)) : Type 0 where
  pub act : Act (Option Outcome)
  pub valid : Valid homes held act
  pub carried : carried_after held act ≡ (s, x) ∷ []
  pub left : without_child v.out held ≡ (s, x) ∷ []
  pub long : length (homes_after homes held act) ≡ section_count net.tree
  pub shows : Shows net passes state words (homes_after homes held act) (set views place (out_view None v))

given : (net : Network) (passes : ℕ) (state : State) (words : List ℕ) (homes : Homes) (views : List PassView)
    (place s : ℕ) (v : PassView) (x : Option Outcome) (held : List (ℕ × Option Outcome))
    → IsTree net.tree → Shows net passes state words homes views → length homes ≡ section_count net.tree
    → get_elem? views place ≡ some v → (out : Option Outcome) → v.out ≡ out → held ≡ with_child out ((s, x) ∷ [])
    → Given net passes state words homes views place s v x held
given net passes state words homes views place s v x held tree h long at None is holds =
    record {
      act = keeps;
      valid = tt;
      carried = holds;
      left = ap (λ o. without_child o held) is ∙ holds;
      long = long;
      shows = subst (Shows net passes state words homes) (sym (set_again views place v at)
          ∙ ap (λ o. set views place (out_view o v)) is) h;
    }
given net passes state words homes views place s v x held tree h long at (Some child) is holds =
    let home : homes_after homes held gives ≡ set homes (section_of child) (some (Some child)) = ap
    (λ l. homes_after homes l gives) holds in
    record {
      act = gives;
      valid = tt;
      carried = ap (λ l. carried_after l gives) holds;
      left = ap (λ o. without_child o held) is ∙ ap (λ l. carried_after l gives) holds;
      long = ap length home ∙ length-set homes (section_of child) (some (Some child)) ∙ long;
      shows = subst (λ l. Shows net passes state words l (set views place (out_view None v))) (sym home)
          (give-shows net passes state words homes views place v child tree h long at is);
    }

-- the act of a step, which is allowed and keeps the rule
pub record Stepped (net : Network) (passes : ℕ) (after : State) (words : List ℕ) (homes : Homes)
    (views : List PassView) (held left : List (ℕ × Option Outcome)) : Type 0 where
  pub act : Act (Option Outcome)
  pub valid : Valid homes held act
  pub shows : Shows net passes after words (homes_after homes held act) views
  pub carried : carried_after held act ≡ left

-- a child is taken, and the one that was out goes home
pub take-step : (net : Network) (passes : ℕ) (state : State) (words : List ℕ) (homes : Homes) (views : List PassView)
    (place c s word : ℕ) (v : PassView) (held : List (ℕ × Option Outcome))
    → IsTree net.tree → Shows net passes state words homes views → length homes ≡ section_count net.tree
    → get_elem? views place ≡ some v → v.turn ≡ Some s → held ≡ with_child v.out ((s, None) ∷ [])
    → c < section_count net.tree → neighbour net.tree c ≡ Some s
    → (o : Outcome) × IsOutcomeOf net c o × (section_of o ≡ c)
    × Stepped net passes state (slice_set words word (slice_index words word)) homes
    (set views place (out_view (Some o) v)) held ((c, Some o) ∷ without_child v.out held)
take-step net passes state words homes views place c s word v held tree h long at mine holds within is =
    let g = given net passes state words homes views place s v None held tree h long at v.out refl holds in
    let v1 : PassView = out_view None v in
    let k = take-shows net passes state words (homes_after homes held g.act)
    (set views place v1) place c s v1 tree g.shows g.long (set_at views place v v1 at) mine refl within is in (
      k.0,
      k.2,
      fits-section net c k.0 k.2,
      record {
        act = chain g.act (takes c (Some k.0));
        valid = (g.valid, k.1);
        shows = subst (λ ws. Shows net passes state ws (set (homes_after homes held g.act) c none)
            (set views place (out_view (Some k.0) v))) (sym (word-again words word))
            (subst (Shows net passes state words (set (homes_after homes held g.act) c none))
            (set_twice views place v1 (out_view (Some k.0) v)) k.3);
        carried = ap (λ l. (c, Some k.0) ∷ l) (g.carried ∙ sym g.left);
      },
    )

-- one less, as the table counts
less-one : (x : ℕ) → 0 < x → x < 18446744073709551616 → (x + (2 ^ 64 - 1)) % 2 ^ 64 ≡ x - 1
less-one x more small = omega arith

-- a finish below a section
pub below-step : (net : Network) (passes : ℕ) (state : State) (words : List ℕ) (homes : Homes) (views : List PassView)
    (place s n : ℕ) (v : PassView) (o : Outcome) (held : List (ℕ × Option Outcome))
    → IsTree net.tree → Shows net passes state words homes views → length homes ≡ section_count net.tree
    → get_elem? views place ≡ some v → v.turn ≡ Some s → held ≡ with_child v.out ((s, Some o) ∷ [])
    → neighbour net.tree s ≡ Some n → IsOutcomeOf net s o → slice_index words n < 18446744073709551616
    → IsFinish net s (next_turn (Some n) (slice_index words n)) state (slice_index words n) (added state (Finish s))
    × Stepped net passes (added state (Finish s)) (slice_set words n ((slice_index words n + (2 ^ 64 - 1)) % 2 ^ 64))
    homes (set views place (finished_view (Some o) (next_turn (Some n) (slice_index words n)) v)) held
    (own_slot (next_turn (Some n) (slice_index words n)) [])
below-step net passes state words homes views place s n v o held tree h long at mine holds is fits small =
    let found : ℕ = slice_index words n in
    let next : Option ℕ = next_turn (Some n) found in
    let g = given net passes state words homes views place s v (Some o) held tree h long at v.out refl holds in
    let v1 : PassView = out_view None v in
    let at1 = set_at views place v v1 at in
    let w : PassView = finished_view (Some o) next v in
    let after : State = added state (Finish s) in
    let home : Homes = homes_after homes held g.act in
    elim (eqb_tells found 1) [
      | inl p ↦ (
          let k = finish-last net passes state words home
          (set views place v1) place s n v1 o tree g.shows g.long at1 mine refl is fits p.1 in (
            k.2,
            record {
              act = chain (chain g.act gives) (takes n None);
              valid = (
                (g.valid, tt),
                subst (λ l. get_elem? (put_back home l) n ≡ some (some None))
                    (sym g.carried) k.0,
              );
              shows = subst (λ l. Shows net passes after (slice_set words n ((found + (2 ^ 64 - 1)) % 2 ^ 64))
                  (set (put_back home l) n none) (set views place w)) (sym g.carried)
                  (subst (λ x. Shows net passes after (slice_set words n x) (set (set home s (some (Some o))) n none)
                  (set views place w)) (sym (less-one found k.1 small))
                  (subst (Shows net passes after (slice_set words n (found - 1))
                  (set (set home s (some (Some o))) n none)) (set_twice views place v1 w) k.3));
              carried = ap (λ l. (n, None) ∷ rest l) g.carried
                  ∙ ap (λ b. own_slot (cond b (Some n) None) []) (sym p.0);
            },
          ))
      | inr p ↦ (
          let k = finish-more net passes state words home
          (set views place v1) place s n v1 o tree g.shows g.long at1 mine refl is fits p.1 in (
            k.1,
            record {
              act = chain g.act gives;
              valid = (g.valid, tt);
              shows = subst (λ l. Shows net passes after (slice_set words n ((found + (2 ^ 64 - 1)) % 2 ^ 64))
                  (put_back home l) (set views place w)) (sym g.carried)
                  (subst (λ x. Shows net passes after (slice_set words n x) (set home s (some (Some o)))
                  (set views place w)) (sym (less-one found k.0 small))
                  (subst (Shows net passes after (slice_set words n (found - 1)) (set home s (some (Some o))))
                  (set_twice views place v1 w) k.2));
              carried = ap rest g.carried ∙ ap (λ b. own_slot (cond b (Some n) None) []) (sym p.0);
            },
          ))
    ]

-- a finish at the fan
pub fan-step : (net : Network) (passes : ℕ) (state : State) (words : List ℕ) (homes : Homes) (views : List PassView)
    (place s word : ℕ) (v : PassView) (o : Outcome) (held : List (ℕ × Option Outcome)) → section_count net.tree ≡ word
    → IsTree net.tree → Shows net passes state words homes views → length homes ≡ section_count net.tree
    → get_elem? views place ≡ some v → v.turn ≡ Some s → held ≡ with_child v.out ((s, Some o) ∷ [])
    → neighbour net.tree s ≡ None → IsOutcomeOf net s o → slice_index words word < 18446744073709551616
    → IsFinish net s None state (slice_index words word) (added state (Finish s))
    × Stepped net passes (added state (Finish s)) (slice_set words word
    ((slice_index words word + (2 ^ 64 - 1)) % 2 ^ 64)) homes
    (set views place (finished_view (Some o) None v)) held []
fan-step net passes state words homes views place s word v o held last tree h long at mine holds is fits small =
    let found : ℕ = slice_index words word in
    let g = given net passes state words homes views place s v (Some o) held tree h long at v.out refl holds in
    let v1 : PassView = out_view None v in
    let at1 = set_at views place v v1 at in
    let w : PassView = finished_view (Some o) None v in
    let after : State = added state (Finish s) in
    let home : Homes = homes_after homes held g.act in
    let k = subst (λ j. (0 < slice_index words j) × IsFinish net s None state (slice_index words j) after
    × Shows net passes after (slice_set words j (slice_index words j - 1)) (set home s (some (Some o)))
    (set (set views place v1) place w))
    last (finish-root net passes state words home (set views place v1) place s v1 o tree g.shows g.long at1 mine refl
    is fits) in (
      k.1,
      record {
        act = chain g.act gives;
        valid = (g.valid, tt);
        shows = subst (λ l. Shows net passes after (slice_set words word ((found + (2 ^ 64 - 1)) % 2 ^ 64))
            (put_back home l) (set views place w)) (sym g.carried)
            (subst (λ x. Shows net passes after (slice_set words word x) (set home s (some (Some o)))
            (set views place w)) (sym (less-one found k.0 small))
            (subst (Shows net passes after (slice_set words word (found - 1)) (set home s (some (Some o))))
            (set_twice views place v1 w) k.2));
        carried = ap rest g.carried;
      },
    )

-- the own slot comes to the front, where one can write
pub own-first : (s : ℕ) (x : Option Outcome) (held : List (ℕ × Option Outcome)) (out : Option Outcome)
    → held ≡ with_child out ((s, x) ∷ []) → turned held ≡ (s, x) ∷ rest (turned held)
own-first s x held None is = ap turned is ∙ ap (λ l. (s, x) ∷ rest (turned l)) (sym is)
own-first s x held (Some child) is = ap turned is ∙ ap (λ l. (s, x) ∷ rest (turned l)) (sym is)

-- and goes behind the child again
pub own-behind : (s : ℕ) (x y : Option Outcome) (held : List (ℕ × Option Outcome)) (out : Option Outcome)
    → held ≡ with_child out ((s, x) ∷ []) → turned ((s, y) ∷ rest (turned held)) ≡ with_child out ((s, y) ∷ [])
own-behind s x y held None is = ap (λ l. turned ((s, y) ∷ rest (turned l))) is
own-behind s x y held (Some child) is = ap (λ l. turned ((s, y) ∷ rest (turned l))) is

-- what was laid is what the finish publishes
pub laid-is : (s : ℕ) (x : Option Outcome) (held : List (ℕ × Option Outcome)) (out : Option Outcome)
    → held ≡ with_child out ((s, x) ∷ []) → laid held ≡ x
laid-is s x held None is = ap laid is
laid-is s x held (Some child) is = ap laid is

-- a claim: the leaf's slot comes out where its word was 1, and nothing happens where it was 0
pub claim-step : (net : Network) (passes : ℕ) (state : State) (words : List ℕ) (homes : Homes) (views : List PassView)
    (place leaf : ℕ) (v : PassView) (held : List (ℕ × Option Outcome))
    → Shows net passes state words homes views → length homes ≡ section_count net.tree → get_elem? views place ≡ some v
    → is_leaf net.tree leaf ≡ true → v.turn ≡ None → 0 < v.parts
    → (after : State) × IsClaim net leaf (slice_index words leaf == 1) state (slice_index words leaf) after
    × Stepped net passes after (slice_set words leaf 0) homes
    (set views place (claimed_view leaf (next_turn (Some leaf) (slice_index words leaf)) v)) held
    (own_slot (next_turn (Some leaf) (slice_index words leaf)) held)
claim-step net passes state words homes views place leaf v held h long at leaf_is free part =
    let found : ℕ = slice_index words leaf in
    elim (eqb_tells found 1) [
      | inl p ↦ (
          let k = claim-shows net passes state words homes views place leaf v h long at leaf_is free part p.1 in
          let after : State = added state (Claim leaf) in (
            after,
            record { event = sym (after-accepted net.tree state (Claim leaf) k.1); accepted = p.0 ∙ sym k.1; word = refl },
            record {
              act = takes leaf None;
              valid = k.0;
              shows = k.2;
              carried = ap (λ b. own_slot (cond b (Some leaf) None) held) (sym p.0);
            },
          ))
      | inr p ↦ (
          let k = claim-none net passes state words homes views place leaf v h at leaf_is free part p.1 in (
            state,
            record { event = sym (after-refused net.tree state (Claim leaf) k.0); accepted = p.0 ∙ sym k.0; word = refl },
            record {
              act = keeps;
              valid = tt;
              shows = k.1;
              carried = ap (λ b. own_slot (cond b (Some leaf) None) held) (sym p.0);
            },
          ))
    ]
