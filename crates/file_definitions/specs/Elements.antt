-- The rules of the elements of an array, each of which may look at those before it.
--   each rules xs   the rules of all elements in order; rules is given the earlier ones, and the element
use Rattle.std.specs.Prelude.{List, [], ◌∷◌, ◌++◌}
use Rattle.duct_units.specs.Rules.{Rule}

-- the rules of the elements that are left, after those before them
abbrev pub each_after : {A : Type 0} → (List A → A → List Rule) → List A → List A → List Rule
each_after rules before [] = []
each_after rules before (x ∷ xs) = rules before x ++ each_after rules (before ++ x ∷ []) xs

-- the rules of all elements, in order
abbrev pub each : {A : Type 0} → (List A → A → List Rule) → List A → List Rule
each rules xs = each_after rules [] xs
