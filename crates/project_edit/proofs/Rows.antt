-- The rows of a changed project.
use Rattle.std.proofs.Common.{◌≡◌, ◌≢◌, ℕ, zero, suc, ◌<◌, List, [], ◌∷◌, map, length, set, Option, Some, None, slice_get, refl, ap, sym, ◌∙◌, arith}
use Rattle.std.specs.Prelude.{unwrap_or}
use Rattle.std.proofs.lemmas.Option.{slice_get-get_or}
use Rattle.std.proofs.lemmas.Bool.{cases_eq}
use Rattle.std.proofs.Common.{inl, inr}
use Rattle.project_file.specs.declared.project.Project.{Project}
use Rattle.project_file.specs.declared.section_row.SectionRow.{SectionRow}
use Rattle.project_file.specs.Projects.{IsRow}
use Rattle.net_build.specs.Rows.{row_at, no_row}
use Rattle.edit_script.specs.declared.script.Change.{Change}
use Rattle.edit_script.specs.declared.script.Change.TheVariants.{Length, Device, Airflow, Preset}
use Rattle.project_edit.specs.declared.edit.Edit.{Edit}
use Rattle.edit_script.specs.Scripts.{IsChange, IsPreset}
use Rattle.project_file.specs.Sections.{IsNameOrNone}
use Rattle.project_edit.specs.Edits.{row_with, edited, edited_rows}

-- ---- a list in which one item is replaced

pub get-set-same : {A : Type 0} (xs : List A) (i : ℕ) (x : A) → i < length xs → slice_get (set xs i x) i ≡ Some x
get-set-same [] i x less = absurd (omega arith)
get-set-same (y ∷ ys) zero x less = refl
get-set-same (y ∷ ys) (suc i) x less = get-set-same ys i x (omega arith)

pub get-set-other : {A : Type 0} (xs : List A) (i j : ℕ) (x : A) → j ≢ i → slice_get (set xs i x) j ≡ slice_get xs j
get-set-other [] i j x other = refl
get-set-other (y ∷ ys) zero zero x other = absurd (other refl)
get-set-other (y ∷ ys) zero (suc j) x other = refl
get-set-other (y ∷ ys) (suc i) zero x other = refl
get-set-other (y ∷ ys) (suc i) (suc j) x other = get-set-other ys i j x (λ e. other (ap suc e))

-- what is made of the items is the same where it is the same of the new one
pub map-set-same : {A B : Type 0} (f : A → B) (xs : List A) (i : ℕ) (x y : A) → slice_get xs i ≡ Some y → f x ≡ f y → map f (set xs i x) ≡ map f xs
map-set-same f [] i x y at same = refl
map-set-same f (z ∷ zs) zero x y at same = (let first : z ≡ y = cc in ap (λ v. v ∷ map f zs) (same ∙ ap f (sym first)))
map-set-same f (z ∷ zs) (suc i) x y at same = ap (λ vs. f z ∷ vs) (map-set-same f zs i x y at same)

-- ---- the named row

-- what no edit changes
pub record IsKept (new old : SectionRow) : Type 0 where
  pub name : new.name ≡ old.name
  pub list : new.list ≡ old.list
  pub junction : new.junction ≡ old.junction
  pub leak : new.leak ≡ old.leak

pub row-kept : (change : Change) (row : SectionRow) → IsKept (row_with change row) row
row-kept (Length n) row = record { name = refl; list = refl; junction = refl; leak = refl }
row-kept (Device n) row = record { name = refl; list = refl; junction = refl; leak = refl }
row-kept (Airflow q) row = record { name = refl; list = refl; junction = refl; leak = refl }
row-kept (Preset name) row = record { name = refl; list = refl; junction = refl; leak = refl }

-- a preset that a line may have is one that a section may have
preset-is : (name : Option (List ℕ)) → IsPreset name → IsNameOrNone name
preset-is None is = tt
preset-is (Some name) is = is

pub is-row : (change : Change) (row : SectionRow) → IsChange change → IsRow row → IsRow (row_with change row)
is-row (Length n) row is was = record { name = was.name; length = is; list = was.list; local = was.local; junction = was.junction; device = was.device; airflow = was.airflow; preset = was.preset; velocity = was.velocity; height = was.height; leak = was.leak }
is-row (Device n) row is was = record { name = was.name; length = was.length; list = was.list; local = was.local; junction = was.junction; device = is; airflow = was.airflow; preset = was.preset; velocity = was.velocity; height = was.height; leak = was.leak }
is-row (Airflow q) row is was = record { name = was.name; length = was.length; list = was.list; local = was.local; junction = was.junction; device = was.device; airflow = is; preset = was.preset; velocity = was.velocity; height = was.height; leak = was.leak }
is-row (Preset name) row is was = record { name = was.name; length = was.length; list = was.list; local = was.local; junction = was.junction; device = was.device; airflow = was.airflow; preset = preset-is name is; velocity = was.velocity; height = was.height; leak = was.leak }

-- ---- the rows of the project

pub row-there : (p : Project) (s : ℕ) → s < length p.sections → slice_get p.sections s ≡ Some (row_at p s)
row-there p s less =
    (let at = slice_get-get_or p.sections s no_row less in at ∙ ap (λ r. Some r) (sym (ap (λ o. unwrap_or o no_row) at)))

pub row-named : (p : Project) (e : Edit) → e.section < length p.sections → row_at (edited p e) e.section ≡ row_with e.change (row_at p e.section)
row-named p e less = ap (λ o. unwrap_or o no_row) (get-set-same p.sections e.section (row_with e.change (row_at p e.section)) less)

pub row-other : (p : Project) (e : Edit) (s : ℕ) → s ≢ e.section → row_at (edited p e) s ≡ row_at p s
row-other p e s other = ap (λ o. unwrap_or o no_row) (get-set-other p.sections e.section s (row_with e.change (row_at p e.section)) other)

-- a field that no edit changes
pub all-kept : {B : Type 0} (f : SectionRow → B) (p : Project) (e : Edit) → e.section < length p.sections → f (row_with e.change (row_at p e.section)) ≡ f (row_at p e.section) → map f (edited_rows p e) ≡ map f p.sections
all-kept f p e less same = map-set-same f p.sections e.section (row_with e.change (row_at p e.section)) (row_at p e.section) (row-there p e.section less) same

-- every section has its list
pub list-kept : (p : Project) (e : Edit) (s : ℕ) → e.section < length p.sections → (row_at (edited p e) s).list ≡ (row_at p s).list
list-kept p e s less =
    elim (cases_eq s e.section) [
      | inl same ↦
          ap (λ n. (row_at (edited p e) n).list) same ∙ ap (λ row. row.list) (row-named p e less)
          ∙ (row-kept e.change (row_at p e.section)).list ∙ ap (λ n. (row_at p n).list) (sym same)
      | inr other ↦ ap (λ row. row.list) (row-other p e s other)
    ]
