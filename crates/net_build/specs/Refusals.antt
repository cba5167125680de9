-- How many pairs of sizes each rule refuses.
--   is_refused_by i         rule i refuses the pair, and no rule before it does; only where there is friction
--   refusal_count i         how many pairs of all sections rule i refuses so
--   refusals names          the counts of all rules, with their names, in order
--   section_refusals s      the same of the pairs of section s alone
--   counted_together        the counts of all rules, from those of each section
use Rattle.std.specs.Prelude.{ℕ, ◌+◌, ◌≤◌, List, [], ◌∷◌, length, map, filter, sum_by, slice_index, Bool, ◌&&◌}
use Rattle.duct_definitions.specs.declared.listed.RuleCount.{RuleCount}
use Rattle.duct_definitions.specs.Tree.{sections}
use Rattle.project_file.specs.declared.project.Project.{Project}
use Rattle.design_rules.specs.Meanings.{Meaning, refuses_first}
use Rattle.net_build.specs.declared.sections.SectionSizes.{SectionSizes}
use Rattle.net_build.specs.Catalogues.{Catalogues}
use Rattle.net_build.specs.Sections.{section_sizes, told}
use Rattle.net_build.specs.Pairs.{SizePair, size_pairs, has_friction}

-- the pair has friction, rule i refuses it, and no rule before it does
abbrev pub is_refused_by : Catalogues → List Meaning → SectionSizes → ℕ → SizePair → Bool
is_refused_by c rules section i pair =
    has_friction c section pair.size && refuses_first rules i (told c section pair.size pair.beside)

-- how many of these pairs of the section rule i refuses, and no rule before it
abbrev pub refused_among : Catalogues → List Meaning → SectionSizes → List SizePair → ℕ → ℕ
refused_among c rules section pairs i = length (filter (is_refused_by c rules section i) pairs)

-- the same of all pairs of section s
abbrev pub refused_in : Project → Catalogues → List Meaning → ℕ → ℕ → ℕ
refused_in p c rules i s =
    let section = section_sizes p c s in refused_among c rules section (size_pairs section) i

-- how many pairs of sizes of all sections rule i refuses, and no rule before it
abbrev pub refusal_count : Project → Catalogues → List Meaning → ℕ → ℕ
refusal_count p c rules i = sum_by (refused_in p c rules i) (sections p.tree)

-- each name with its count, the first of them being that of rule i
abbrev pub counts_from : (ℕ → ℕ) → ℕ → List (List ℕ) → List RuleCount
counts_from count i [] = []
counts_from count i (name ∷ names) = record { name = name; count = count i } ∷ counts_from count (i + 1) names

-- the counts of all rules, with their names, in order
abbrev pub refusals : Project → Catalogues → List Meaning → List (List ℕ) → List RuleCount
refusals p c rules names = counts_from (refusal_count p c rules) 0 names

-- the same counts of the pairs of one section
abbrev pub refusals_of : Catalogues → List Meaning → List (List ℕ) → SectionSizes → List RuleCount
refusals_of c rules names section = counts_from (refused_among c rules section (size_pairs section)) 0 names

-- the same of section s
abbrev pub section_refusals : Project → Catalogues → List Meaning → List (List ℕ) → ℕ → List RuleCount
section_refusals p c rules names s = refusals_of c rules names (section_sizes p c s)

-- the count of rule i, 0 where there is no such rule
abbrev pub count_of : ℕ → List RuleCount → ℕ
count_of i refusals = slice_index (map (λ rule. rule.count) refusals) i

-- no rule counts more than n
abbrev pub CountsWithin : ℕ → List RuleCount → Type 0
CountsWithin n refusals = (i : ℕ) → count_of i refusals ≤ n

-- how many refusals of each rule these sections have together, with the rules' names
abbrev pub counted_together : List (List RuleCount) → List (List ℕ) → List RuleCount
counted_together sections names = counts_from (λ i. sum_by (count_of i) sections) 0 names
