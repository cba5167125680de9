-- What the fronts of all sections give of one.
use Rattle.std.proofs.Common.{◌≡◌, ℕ, ◌<◌, ◌≤◌, refl, arith, sym, subst, Option, List, length, get_or}
use Rattle.std.specs.Prelude.{IfSome}
use Rattle.std.proofs.lemmas.Option.{slice_get_read}
use Rattle.duct_definitions.specs.Tree.{IsTree, section_count}
use Rattle.duct_definitions.specs.Network.{Network, columns, cap}
use Rattle.least_laws.specs.Least.{IsLeast}
use Rattle.least_laws.specs.LeastFromChildren.{least_in}
use Rattle.least_laws.proofs.Leasts.{least_in-unique}
use Rattle.contract_join.specs.SectionFronts.{SectionData, AreFrontsOf, most_beyond}

module _ {net : Network} {fronts : List SectionData} {s : ℕ} {entry : SectionData} (are : AreFrontsOf net fronts)
    (within : s < section_count net.tree) (is : entry ≡ get_or fronts s entry) where
  found : (entry.net ≡ net) × (entry.section ≡ s)
  found =
      let count = are.count in
      are.each s entry (slice_get_read fronts (length fronts) s entry refl (omega arith) is)

  pub entry-beside : (g : ℕ) → g < columns net s → g < columns entry.net entry.section
  entry-beside g beside =
      subst (λ (n : Network). g < columns n entry.section) (sym found.0)
      (subst (λ t. g < columns net t) (sym found.1) beside)

  pub entry-within : (budget : ℕ) → budget ≤ cap net → budget ≤ cap entry.net
  entry-within budget less = subst (λ (n : Network). budget ≤ cap n) (sym found.0) less

  -- the entry's least is the section's
  pub entry-least : IsTree net.tree → (g budget : ℕ) (o : Option ℕ) → g < columns net s
      → IsLeast entry.net entry.section g budget o → o ≡ least_in net s g budget
  entry-least tree g budget o beside least =
      least_in-unique net tree s g budget o within beside
      (subst (λ t. IsLeast net t g budget o) found.1
      (subst (λ (n : Network). IsLeast n entry.section g budget o) found.0 least))

  pub entry-bound : (o : Option ℕ) → IfSome o (λ cost. cost ≤ most_beyond entry.net)
      → IfSome o (λ cost. cost ≤ most_beyond net)
  entry-bound o bound = subst (λ (n : Network). IfSome o (λ cost. cost ≤ most_beyond n)) found.0 bound
