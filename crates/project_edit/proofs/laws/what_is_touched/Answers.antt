use Rattle.std.proofs.Common.{◌≡◌, ℕ, List, [], ◌∷◌, filter, false, refl, ap}
use Rattle.duct_definitions.specs.Tree.{Tree, sections}
use Rattle.project_edit.specs.declared.edit.Edit.{Edit}
use Rattle.project_edit.specs.Touched.{is_touched}
use Rattle.project_edit.proofs.laws.what_is_touched.Goals as goal

all-touched : (t : Tree) (e : Edit) (xs : List ℕ) → filter (is_touched t e false) xs ≡ xs
all-touched t e [] = refl
all-touched t e (x ∷ xs) = ap (λ ys. x ∷ ys) (all-touched t e xs)

pub returns : goal.returns
returns c = record { all = λ t e. all-touched t e (sections t) }
