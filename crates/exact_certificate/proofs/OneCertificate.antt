-- A network has one exact certificate.
use Rattle.std.proofs.Common.{◌≡◌, ℕ, zero, suc, ◌+◌, ◌-◌, ◌<◌, inl, inr, List, [], length, get_or, Option, Some, None, refl, ap, sym, subst, ◌∙◌, arith}
use Rattle.std.proofs.lemmas.Bool.{cases_lt}
use Rattle.std.proofs.lemmas.List.{ext_get_or}
use Rattle.std.proofs.lemmas.Option.{unwrap_or-slice_get}
use Rattle.duct_definitions.specs.declared.design.Design.{Design}
use Rattle.duct_definitions.specs.Tree.{section_count}
use Rattle.duct_definitions.specs.Network.{Network, columns, cap}
use Rattle.duct_definitions.specs.Designs.{cost}
use Rattle.duct_definitions.proofs.OrderLaws.{best_is_one}
use Rattle.least_laws.proofs.Leasts.{least_is_one}
use Rattle.pareto_front.specs.declared.point.Point.{Point}
use Rattle.pareto_front.specs.Front.{IsFront, NeedsWithin, cheapest}
use Rattle.pareto_front.proofs.Same.{same_up_to}
use Rattle.front_certificate.specs.Certificates.{Certificate, fronts_before, front_count, front_at}
use Rattle.exact_certificate.specs.Exact.{HasExactFronts, IsCostOfBest, IsExactCertificate}

-- the section and the size of its neighbour whose front stands at a place
record IsPlaceOf (net : Network) (n i : ℕ) : Type 0 where
  section : ℕ
  beside : ℕ
  within : section < n
  column : beside < columns net section
  is : i ≡ fronts_before net section + beside

place-of : (net : Network) (n i : ℕ) → i < fronts_before net n → IsPlaceOf net n i
place-of net zero i below = absurd (omega (arith, below))
place-of net (suc n) i below = elim (cases_lt i (fronts_before net n)) [
  | inl earlier ↦ (let found = place-of net n i earlier in record {
    section = found.section;
    beside = found.beside;
    within = (let w = found.within in omega (arith, w));
    column = found.column;
    is = found.is;
  })
  | inr later ↦ record {
    section = n;
    beside = i - fronts_before net n;
    within = omega arith;
    column = omega arith;
    is = omega arith;
  }
]

module _ (net : Network) (fs gs : List (List Point)) (one : HasExactFronts net fs) (other : HasExactFronts net gs) where
  same-front : (i : ℕ) → i < length fs → get_or fs i [] ≡ get_or gs i []
  same-front i within =
      let count = one.count in
      let again = other.count in
      let found = place-of net (section_count net.tree) i (omega (arith, count)) in
      let at : (hs : List (List Point)) → get_or hs i [] ≡ front_at net hs found.section found.beside =
      λ hs. ap (λ (n : ℕ). get_or hs n []) found.is ∙ sym (unwrap_or-slice_get hs (fronts_before net found.section + found.beside) []) in
      same_up_to (get_or fs i []) (get_or gs i []) (cap net) (one.rising i [] within) (other.rising i [] (omega (arith, count, again)))
      (one.needs i [] within) (other.needs i [] (omega (arith, count, again))) (λ b in_cap.
      ap (λ (ps : List Point). cheapest ps b) (at fs)
      ∙ least_is_one net found.section found.beside b _ _ (one.exact found.section found.within found.beside b found.column in_cap)
      (other.exact found.section found.within found.beside b found.column in_cap)
      ∙ ap (λ (ps : List Point). cheapest ps b) (sym (at gs)))

  same-fronts : fs ≡ gs
  same-fronts = ext_get_or [] fs gs (one.count ∙ sym other.count) same-front

same-total : (net : Network) (t u : Option ℕ) → IsCostOfBest net t → IsCostOfBest net u → t ≡ u
same-total net None None is again = refl
same-total net None (Some u) is again = absurd (is again.0 again.1.meets)
same-total net (Some t) None is again = absurd (again is.0 is.1.meets)
same-total net (Some t) (Some u) is again =
    ap Some (is.2 ∙ ap (λ (d : Design). cost net d) (best_is_one net is.0 again.0 is.1 again.1) ∙ sym again.2)

pub certificate-once : (net : Network) (c d : Certificate) → IsExactCertificate net c → IsExactCertificate net d → c ≡ d
certificate-once net c d is again =
    ap (λ (total : Option ℕ). record { total = total; fronts = c.fronts }) (same-total net c.total d.total is.total again.total)
    ∙ ap (λ (fronts : List (List Point)). record { total = d.total; fronts = fronts }) (same-fronts net c.fronts d.fronts is.fronts again.fronts)
