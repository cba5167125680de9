-- What an edit leaves of a session that is up to date.
use Rattle.std.proofs.Common.{◌≡◌, ℕ, ◌<◌, ◌≤◌, List, [], ◌∷◌, map, length, All, Bool, true, false, not, ◌||◌, max, Option, Some, None, Ok, Err, slice_get, get_or, refl, ap, sym, ◌∙◌, subst, arith}
use Rattle.std.specs.Prelude.{unwrap_or, ◌==◌}
use Rattle.std.specs.List.{range_with_len}
use Rattle.std.proofs.lemmas.Bool.{eqb-true}
use Rattle.std.proofs.lemmas.List.FromFn.{get_or-map-range_with_len, length-map-range_with_len}
use Rattle.std.proofs.lemmas.Option.{slice_get-get_or}
use Rattle.duct_units.specs.Rules.{Fails, first_broken, unless_refused}
use Rattle.duct_units.specs.declared.fault.Fault.{Fault}
use Rattle.duct_units.specs.declared.fault.ReadError.{ReadError}
use Rattle.duct_units.specs.declared.fault.ReadError.TheVariants.{Refused, NoMemory}
use Rattle.duct_definitions.specs.declared.design.NetFan.{NetFan}
use Rattle.duct_definitions.specs.declared.design.Pair.{Pair}
use Rattle.duct_definitions.specs.declared.listed.RuleCount.{RuleCount}
use Rattle.duct_definitions.specs.Airflow.{fan_flow}
use Rattle.duct_definitions.specs.Network.{Network, cap, greatest_pressure}
use Rattle.duct_definitions.specs.declared.limits.TheConstants.{MAX_SECTIONS}
use Rattle.duct_definitions.specs.Tree.{IsTree, section_count, sections, passes}
use Rattle.duct_definitions.proofs.TreeLaws.{few_sections}
use Rattle.duct_definitions.proofs.SectionLists.{chosen_below, chosen_pass}
use Rattle.fan_points.specs.declared.row.FanRow.{FanRow}
use Rattle.project_file.specs.declared.project.Project.{Project}
use Rattle.project_file.specs.declared.section_row.SectionRow.{SectionRow}
use Rattle.project_file.specs.Projects.{IsProject}
use Rattle.design_rules.specs.Meanings.{Meaning, SameRules}
use Rattle.least_laws.specs.Least.{sections_beyond}
use Rattle.least_laws.specs.SamePairs.{AgreeBeyond}
use Rattle.net_build.specs.Built.{built_by_section, network_and_counts, network_of, pairs_of as section_pairs_of, section_pairs, size_names, names_of_numbers, with_pairs_and_fans}
use Rattle.net_build.specs.Catalogues.{Catalogues}
use Rattle.net_build.specs.Fans.{offered}
use Rattle.net_build.specs.Joining.{joining_rules}
use Rattle.net_build.proofs.JoinLaws.{accepted}
use Rattle.net_build.specs.declared.limits.TheConstants.{MAX_SECTION_ASKED}
use Rattle.net_build.specs.Refusals.{counted_together, refusals, refusals_of, section_refusals, CountsWithin}
use Rattle.net_build.proofs.NetworkLaws.{counted-refusals}
use Rattle.contract_join.specs.Kept.{KeptData, IsKeptOf}
use Rattle.project_edit.specs.declared.edit.Edit.{Edit}
use Rattle.project_edit.specs.Edits.{edited, edited_rows}
use Rattle.project_edit.specs.Touched.{cap_of, is_cap_kept, is_changed, is_touched}
use Rattle.project_edit.proofs.EditedProjects.{edited-joins, is-accepted}
use Rattle.project_edit.proofs.Rows.{all-kept, row-kept}
use Rattle.net_build.specs.Rows.{row_at}
use Rattle.project_edit.proofs.Untouched.{numbers-kept, sizes-kept, unchanged-beyond}
use Rattle.edit_session.specs.Condensed.{AreKeptOf, AreKeptBut}
use Rattle.edit_session.specs.declared.making.Made.{Made}
use Rattle.edit_session.specs.Current.{IsEdited, IsMadeOf}
use Rattle.edit_session.specs.Rebuilt.{AreMadeBut, IsBuiltBut}

untouched : (kept changed : Bool) → (not kept || changed) ≡ false → (kept ≡ true) × (changed ≡ false)
untouched true changed e = (refl, e)
untouched false changed e = absurd (cc e)

map-same : {A B : Type 0} (f g : A → B) (xs : List A) → ((x : A) → f x ≡ g x) → map f xs ≡ map g xs
map-same f g [] same = refl
map-same f g (x ∷ xs) same = ap (λ y. y ∷ map f xs) (same x) ∙ ap (λ ys. g x ∷ ys) (map-same f g xs same)

-- what stands at a place of a list of all numbers
get-made : {X : Type 0} (make : ℕ → X) (n s : ℕ) → s < n → slice_get (map make (range_with_len 0 n)) s ≡ Some (make s)
get-made make n s less =
    (let l = length-map-range_with_len make 0 n in
    slice_get-get_or (map make (range_with_len 0 n)) s (make s) (omega arith) ∙ ap (λ x. Some x) (get_or-map-range_with_len make 0 n s s (make s) less (omega arith)))

-- ---- the network

frame-kept : (p : Project) (c : Catalogues) (e : Edit) (pairs : List (List (Option Pair))) (fans : List NetFan) → e.section < length p.sections → with_pairs_and_fans p c pairs fans ≡ with_pairs_and_fans (edited p e) c pairs fans
frame-kept p c e pairs fans less =
    ap (λ names. record { name = p.name; tree = p.tree; names = names; sizes = map (size_names p c) (sections p.tree); pairs = pairs; fans = fans; return_fans = [] })
    (sym (all-kept (λ (row : SectionRow). row.name) p e less (row-kept e.change (row_at p e.section)).name))
    ∙ ap (λ sizes. record { name = p.name; tree = p.tree; names = map (λ (row : SectionRow). row.name) (edited_rows p e); sizes = sizes; pairs = pairs; fans = fans; return_fans = [] })
    (map-same (size_names p c) (size_names (edited p e) c) (sections p.tree) (λ s. ap (names_of_numbers c) (sym (numbers-kept p c e s less))))

-- a section that isn't touched has its pairs and its counts
pairs-kept : (p : Project) (c : Catalogues) (e : Edit) (rules : List Meaning) (kept : Bool) → IsProject p → e.section < section_count p.tree
    → AreMadeBut (section_pairs (edited p e) c rules) (is_touched p.tree e kept) (section_count p.tree) (map (section_pairs p c rules) (sections p.tree))
pairs-kept p c e rules kept is named = record {
  count = length-map-range_with_len (section_pairs p c rules) 0 (section_count p.tree);
  each = λ s within off.
      get-made (section_pairs p c rules) (section_count p.tree) s within
      ∙ ap (λ section. Some (section_pairs_of c rules section)) (sym (sizes-kept p c e s is named within (untouched kept (is_changed p.tree e.change e.section s) off).1));
}

counts-kept : (p : Project) (c : Catalogues) (e : Edit) (rules : List Meaning) (names : List (List ℕ)) (kept : Bool) → IsProject p → e.section < section_count p.tree
    → AreMadeBut (section_refusals (edited p e) c rules names) (is_touched p.tree e kept) (section_count p.tree) (map (section_refusals p c rules names) (sections p.tree))
counts-kept p c e rules names kept is named = record {
  count = length-map-range_with_len (section_refusals p c rules names) 0 (section_count p.tree);
  each = λ s within off.
      get-made (section_refusals p c rules names) (section_count p.tree) s within
      ∙ ap (λ section. Some (refusals_of c rules names section)) (sym (sizes-kept p c e s is named within (untouched kept (is_changed p.tree e.change e.section s) off).1));
}

pub built-but : (p : Project) (c : Catalogues) (fans : List FanRow) (e : Edit) (rules : List Meaning) (names : List (List ℕ)) (kept : Bool) (net : Network) (counts : List (List RuleCount)) → IsProject p → e.section < section_count p.tree
    → net ≡ network_of p c fans rules → counts ≡ map (section_refusals p c rules names) (sections p.tree) → All (CountsWithin MAX_SECTION_ASKED) counts
    → IsBuiltBut (edited p e) c rules names (is_touched p.tree e kept) net counts
built-but p c fans e rules names kept net counts is named network counted most =
    (let less : e.section < length p.sections = subst (λ (n : ℕ). e.section < n) (sym is.count) named in
    let offer : List NetFan = offered fans p.energy (fan_flow p.flows) in
    let pairs : List (List (Option Pair)) = map (section_pairs p c rules) (sections p.tree) in
    subst (λ (n : Network). IsBuiltBut (edited p e) c rules names (is_touched p.tree e kept) n counts) (sym network) (record {
      frame = frame-kept p c e pairs offer less;
      pairs = pairs-kept p c e rules kept is named;
      refusals = subst (AreMadeBut (section_refusals (edited p e) c rules names) (is_touched p.tree e kept) (section_count p.tree)) (sym counted) (counts-kept p c e rules names kept is named);
      most = most;
    }))

-- ---- the greatest pressure

pub cap-is : (p : Project) (c : Catalogues) (fans : List FanRow) (rules : List Meaning) (net : Network) → net ≡ network_of p c fans rules → cap net ≡ cap_of p fans
cap-is p c fans rules net is = ap cap is ∙ none (cap_of p fans)
  where
    none : (n : ℕ) → max n 0 ≡ n
    none n = omega arith

-- ---- the fronts

-- what the law says of fronts in two networks
abbrev pub StayExact : Type 0
StayExact = (net other : Network) (kept : KeptData) → IsTree net.tree → AgreeBeyond net other kept.section → cap other ≡ cap net → IsKeptOf net kept → IsKeptOf other kept

agree-beyond : (p : Project) (c : Catalogues) (fans : List FanRow) (e : Edit) (rules : List Meaning) (s : ℕ) → IsProject p → e.section < section_count p.tree → is_changed p.tree e.change e.section s ≡ false
    → AgreeBeyond (network_of p c fans rules) (network_of (edited p e) c fans rules) s
agree-beyond p c fans e rules s is named off =
    (let less : e.section < length p.sections = subst (λ (n : ℕ). e.section < n) (sym is.count) named in
    record {
      tree = refl;
      sizes = map-same (size_names (edited p e) c) (size_names p c) (sections p.tree) (λ s. ap (names_of_numbers c) (numbers-kept p c e s less));
      pairs = λ i d at.
          let t : ℕ = get_or (sections_beyond p.tree s) i d in
          let within : t < section_count p.tree = chosen_below (passes p.tree s) (section_count p.tree) i d at in
          let beyond : passes p.tree s t ≡ true = chosen_pass (passes p.tree s) (section_count p.tree) i d at in
          let away = unchanged-beyond p.tree e.change e.section s t is.tree named within off beyond in
          ap (λ o. unwrap_or o []) (get-made (section_pairs (edited p e) c rules) (section_count p.tree) t within)
          ∙ ap (section_pairs_of c rules) (sizes-kept p c e t is named within away)
          ∙ sym (ap (λ o. unwrap_or o []) (get-made (section_pairs p c rules) (section_count p.tree) t within));
    })

pub kept-but : StayExact → (p : Project) (c : Catalogues) (fans : List FanRow) (e : Edit) (rules : List Meaning) (net next : Network) (kept : List KeptData) → IsProject p → e.section < section_count p.tree
    → net ≡ network_of p c fans rules → next ≡ network_of (edited p e) c fans rules → AreKeptOf net kept → AreKeptBut next (is_touched next.tree e (is_cap_kept p fans e)) kept
kept-but stay p c fans e rules net next kept is named was now are =
    subst (λ (n : Network). AreKeptBut n (is_touched n.tree e (is_cap_kept p fans e)) kept) (sym now) (record {
      count = before.count;
      each = λ s k at off.
          let parts = untouched (is_cap_kept p fans e) (is_changed p.tree e.change e.section s) off in
          let is_of = before.each s k at in
          let same : cap_of (edited p e) fans ≡ cap_of p fans = eqb-true (cap_of (edited p e) fans) (cap_of p fans) parts.0 in (
            is_of.0,
            stay (network_of p c fans rules) (network_of (edited p e) c fans rules) k is.tree
                (subst (AgreeBeyond (network_of p c fans rules) (network_of (edited p e) c fans rules)) (sym is_of.0) (agree-beyond p c fans e rules s is named parts.1))
                (cap-is (edited p e) c fans rules _ refl ∙ same ∙ sym (cap-is p c fans rules _ refl)) is_of.1,
          );
    })
  where
    before : AreKeptOf (network_of p c fans rules) kept
    before = subst (λ (n : Network). AreKeptOf n kept) was are

-- ---- the session from scratch

-- what a build is where it isn't refused
pub record IsBuilt (p : Project) (c : Catalogues) (fans : List FanRow) (rules : List Meaning) (names : List (List ℕ)) (net : Network) (counts : List (List RuleCount)) : Type 0 where
  pub joined : first_broken (joining_rules p c) ≡ None
  pub network : net ≡ network_of p c fans rules
  pub counted : counts ≡ map (section_refusals p c rules names) (sections p.tree)

pub is-built : (p : Project) (c : Catalogues) (fans : List FanRow) (rules : List Meaning) (names : List (List ℕ)) (net : Network) (counts : List (List RuleCount))
    → built_by_section p c fans rules names ≡ Ok (net, counts) → IsBuilt p c fans rules names net counts
is-built p c fans rules names net counts is =
    (let found = accepted (first_broken (joining_rules p c)) (network_and_counts p c fans rules names) (net, counts) is in record {
      joined = found.0;
      network = sym (ap (λ x. x.0) found.1);
      counted = sym (ap (λ x. x.1) found.1);
    })

-- a refusal doesn't depend on what is made where nothing is refused
pub fails-alike : {X Y : Type 0} (o : Option Fault) (one : X) (other : Y) (error : ReadError) → Fails error (unless_refused o one) → Fails error (unless_refused o other)
fails-alike None one other (Refused fault) is = absurd (cc is)
fails-alike (Some refused) one other (Refused fault) is = (let same : refused ≡ fault = cc in ap (λ f. Err f) same)
fails-alike o one other NoMemory is = is

-- ---- the session after an edit

pub named-after : (p q : Project) (c : Catalogues) (e : Edit) → IsEdited p q c e → e.section < section_count q.tree
named-after p q c e at = subst (λ (x : Project). e.section < section_count x.tree) (sym at.is) at.named

pub joined-after : (p q : Project) (c : Catalogues) (e : Edit) → IsEdited p q c e → first_broken (joining_rules q c) ≡ None
joined-after p q c e at =
    subst (λ (x : Project). first_broken (joining_rules x c) ≡ None) (sym at.is)
    (edited-joins p c e at.before at.named (is-accepted p c.sizes e at.unrefused).listed at.joined)

pub built-after : (p q : Project) (c : Catalogues) (fans : List FanRow) (e : Edit) (rules : List Meaning) (names : List (List ℕ)) (kept : Bool) (net : Network) (counts : List (List RuleCount)) → IsEdited p q c e
    → net ≡ network_of p c fans rules → counts ≡ map (section_refusals p c rules names) (sections p.tree) → All (CountsWithin MAX_SECTION_ASKED) counts
    → IsBuiltBut q c rules names (is_touched q.tree e kept) net counts
built-after p q c fans e rules names kept net counts at network counted most =
    subst (λ (x : Project). IsBuiltBut x c rules names (is_touched x.tree e kept) net counts) (sym at.is)
    (built-but p c fans e rules names kept net counts at.before at.named network counted most)

-- the test of the greatest pressure
pub cap-after : (p q : Project) (c : Catalogues) (fans : List FanRow) (e : Edit) (rules : List Meaning) (net : Network) (offer : List NetFan) (most now : ℕ) → IsEdited p q c e → net ≡ network_of p c fans rules
    → offer ≡ offered fans q.energy (fan_flow q.flows) → most ≡ greatest_pressure offer → now ≡ cap net → (most == now) ≡ is_cap_kept p fans e
cap-after p q c fans e rules net offer most now at network on_offer mosts caps =
    ap (λ m. m == now) (mosts ∙ ap greatest_pressure on_offer ∙ ap (λ (x : Project). cap_of x fans) at.is)
    ∙ ap (λ m. cap_of (edited p e) fans == m) (caps ∙ cap-is p c fans rules net network)

pub kept-after : StayExact → (p q : Project) (c : Catalogues) (fans : List FanRow) (e : Edit) (rules : List Meaning) (net next : Network) (kept : List KeptData) (flag : Bool) → IsEdited p q c e → net ≡ network_of p c fans rules
    → next ≡ network_of q c fans rules → flag ≡ is_cap_kept p fans e → AreKeptOf net kept → AreKeptBut next (is_touched next.tree e flag) kept
kept-after stay p q c fans e rules net next kept flag at was now same are =
    subst (λ (b : Bool). AreKeptBut next (is_touched next.tree e b) kept) (sym same)
    (kept-but stay p c fans e rules net next kept at.before at.named was (now ∙ ap (λ (x : Project). network_of x c fans rules) at.is) are)

-- there are counts of at most as many sections as a tree has
pub counts-few : (p : Project) (c : Catalogues) (rules : List Meaning) (names : List (List ℕ)) (counts : List (List RuleCount)) → IsProject p → counts ≡ map (section_refusals p c rules names) (sections p.tree)
    → length counts ≤ MAX_SECTIONS
counts-few p c rules names counts is counted =
    subst (λ (rs : List (List RuleCount)). length rs ≤ MAX_SECTIONS) (sym counted)
    (let few = few_sections p.tree is.tree in let long = length-map-range_with_len (section_refusals p c rules names) 0 (section_count p.tree) in omega (arith, few, long))

-- the counts of all sections together are those of the project
pub counted-all : (p : Project) (c : Catalogues) (rules : List Meaning) (names now : List (List ℕ)) (counts shown : List (List RuleCount)) (all : List RuleCount) → now ≡ names → shown ≡ counts
    → counts ≡ map (section_refusals p c rules names) (sections p.tree) → all ≡ counted_together shown now → all ≡ refusals p c rules names
counted-all p c rules names now counts shown all named same counted is =
    is ∙ ap (λ (sections : List (List RuleCount)). counted_together sections now) (same ∙ counted)
    ∙ ap (counted_together (map (section_refusals p c rules names) (sections p.tree))) named ∙ counted-refusals p c rules names

-- ---- the rules after they are asked

pub made-same : {B : Type 0} (allows : B → Meaning) (label : B → List ℕ) (old new : List B) (p : Project) (c : Catalogues) (fans : List FanRow) (made : Made) → SameRules allows label old new
    → IsMadeOf p c fans (map allows old) (map label old) made → IsMadeOf p c fans (map allows new) (map label new) made
made-same allows label old new p c fans made same is =
    subst (λ (rules : List Meaning). IsMadeOf p c fans rules (map label new) made) (sym same.meanings)
    (subst (λ (names : List (List ℕ)). IsMadeOf p c fans (map allows old) names made) (sym same.names) is)
