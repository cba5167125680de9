-- The fronts of all sections, one section after the other: where each stands, and what holds of all.
use Rattle.std.proofs.Common.{◌≡◌, ℕ, zero, suc, ◌+◌, ◌<◌, ◌≤◌, List, [], ◌∷◌, ◌++◌, length, take, get_or, Some, refl, ap, sym, subst, ◌∙◌, arith, length-append, append_assoc}
use Rattle.std.specs.Prelude.{All, slice_get, Result, Ok, Err, IfOk}
use Rattle.duct_units.specs.declared.fault.NoMemory.{NoMemory}
use Rattle.std.proofs.lemmas.List.{take_all, take_more}
use Rattle.std.proofs.lemmas.List.Concat.{get_or-flat_map}
use Rattle.std.proofs.lemmas.List.Elements.{All-append}
use Rattle.std.proofs.lemmas.Option.{unwrap_or-slice_get, slice_get-get_or}
use Rattle.duct_definitions.specs.Tree.{section_count}
use Rattle.duct_definitions.specs.Network.{Network, columns, cap}
use Rattle.pareto_front.specs.declared.point.Point.{Point}
use Rattle.pareto_front.specs.Front.{IsFront, NeedsWithin, cheapest}
use Rattle.least_laws.specs.Least.{IsLeast}
use Rattle.contract_join.specs.SectionFronts.{SectionData, front_of, AreExact, AreFrontsOf}
use Rattle.front_certificate.specs.Certificates.{Certificate, fronts_before, front_count, front_at}
use Rattle.exact_certificate.specs.Exact.{HasExactFronts, collected}

-- one entry more
pub collected_more : (entries : List SectionData) (entry : SectionData)
    → collected (entries ++ entry ∷ []) ≡ collected entries ++ entry.fronts
collected_more [] entry = append-nil entry.fronts where
  append-nil : (xs : List (List Point)) → xs ++ [] ≡ xs
  append-nil [] = refl
  append-nil (x ∷ xs) = ap (λ (l : List (List Point)). x ∷ l) (append-nil xs)
collected_more (first ∷ entries) entry =
    ap (λ (l : List (List Point)). first.fronts ++ l) (collected_more entries entry)
    ∙ sym (append_assoc first.fronts (collected entries) entry.fronts)

collected-all : (P : List Point → Type 0) (entries : List SectionData) → All (λ entry. All P entry.fronts) entries
    → All P (collected entries)
collected-all P [] all = λ i d within. absurd (omega (arith, within))
collected-all P (entry ∷ entries) all =
    All-append P entry.fronts (collected entries) (all 0 entry (omega arith))
    (collected-all P entries (λ i d within. all (suc i) d (omega (arith, within))))

-- entries of all sections in order, each with its exact fronts
module _ (net : Network) (entries : List SectionData) (of_net : AreFrontsOf net entries)
    (all_exact : All (λ entry. AreExact entry.net entry.section entry.fronts) entries) where
  no_entry : SectionData
  no_entry = record { net = net; section = 0; fronts = [] }

  entry-exact : (s : ℕ) (d : SectionData) → s < length entries → AreExact net s (get_or entries s d).fronts
  entry-exact s d within =
      let entry : SectionData = get_or entries s d in
      let same = of_net.each s entry (slice_get-get_or entries s d within) in
      subst (λ n. AreExact n s entry.fronts) same.0
      (subst (λ t. AreExact entry.net t entry.fronts) same.1 (all_exact s d within))

  -- the fronts before those of a section
  places : (s : ℕ) → s ≤ length entries → length (collected (take s entries)) ≡ fronts_before net s
  places zero within = refl
  places (suc s) within =
      let count = (entry-exact s no_entry (omega (arith, within))).count in
      let so_far = places s (omega (arith, within)) in
      let next : suc s ≡ s + 1 = omega arith in
      let whole : length (collected (take (suc s) entries)) ≡ length (collected (take s entries)) + length (get_or entries s no_entry).fronts =
      ap (λ n. length (collected (take n entries))) next
      ∙ ap (λ (xs : List SectionData). length (collected xs)) (take_more entries s no_entry (omega (arith, within)))
      ∙ ap (λ (fs : List (List Point)). length fs) (collected_more (take s entries) (get_or entries s no_entry))
      ∙ length-append (collected (take s entries)) (get_or entries s no_entry).fronts in
      omega (arith, whole, so_far, count)

  pub has_exact_fronts : HasExactFronts net (collected entries)
  has_exact_fronts = record {
    count = ap (λ (xs : List SectionData). length (collected xs)) (sym (take_all (length entries) entries (omega arith)))
        ∙ places (length entries) (omega arith) ∙ ap (fronts_before net) of_net.count;
    rising = collected-all IsFront entries (λ i d within. (all_exact i d within).rising);
    needs = collected-all (NeedsWithin (cap net)) entries (λ i d within. (entry-exact i d within).needs);
    exact = λ s section g budget beside in_cap.
        let count = of_net.count in
        let exact = entry-exact s no_entry (omega (arith, count)) in
        let fronts : List (List Point) = (get_or entries s no_entry).fronts in
        let within : g < length fronts = (let e = exact.count in omega (arith, e)) in
        let at : front_at net (collected entries) s g ≡ front_of fronts g =
        unwrap_or-slice_get (collected entries) (fronts_before net s + g) []
        ∙ ap (λ n. get_or (collected entries) (n + g) []) (sym (places s (omega (arith, count))))
        ∙ get_or-flat_map (λ entry. entry.fronts) entries s g no_entry [] (omega (arith, count)) within
        ∙ sym (unwrap_or-slice_get fronts g []) in
        subst (λ (front : List Point). IsLeast net s g budget (cheapest front budget)) (sym at)
        (exact.exact g budget beside in_cap);
  }

-- what is made of the fronts of all sections has exact fronts
pub exact_of : (net : Network) (entries : List SectionData) → AreFrontsOf net entries → (made : Result Certificate NoMemory)
    → IfOk made (λ c. c.fronts ≡ collected entries)
    → IfOk made (λ _. All (λ entry. AreExact entry.net entry.section entry.fronts) entries)
    → IfOk made (λ c. HasExactFronts net c.fronts)
exact_of net entries of_net (Ok c) fronts exact = subst (HasExactFronts net) (sym fronts) (has_exact_fronts net entries of_net exact)
exact_of net entries of_net (Err error) fronts exact = tt
