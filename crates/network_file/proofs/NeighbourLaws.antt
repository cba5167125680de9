-- The number of sizes of a neighbour, among the sections that were read before.
use Rattle.std.proofs.Common.{◌≡◌, ℕ, suc, zero, ◌<◌, List, [], ◌∷◌, length, take, map, Option, Some, None, option_map, IfSome, refl, ap, ◌∙◌, arith, subst}
use Rattle.std.specs.Prelude.{slice_get, unwrap_or}
use Rattle.std.proofs.lemmas.Option.{slice_get-map}
use Rattle.duct_definitions.specs.Tree.{Tree, neighbour}
use Rattle.section_tables.specs.Neighbours.{neighbour_of, tree_of}
use Rattle.network_file.specs.SectionTables.{SectionEntry, tree_sections}
use Rattle.network_file.specs.Pairs.{section_size_count, neighbour_size_count, size_and_pair_rules}
use Rattle.duct_units.specs.Rules.{Rule}

abbrev pub sizes_in : List SectionEntry → List (List (List ℕ))
sizes_in sections = map (λ (section : SectionEntry). section.sizes) sections

pub neighbour_in_tree : (sections : List SectionEntry) (s : ℕ) (section : SectionEntry) → slice_get sections s ≡ Some section
    → neighbour (tree_of (tree_sections sections)) s ≡ neighbour_of (tree_sections sections) section.tree
neighbour_in_tree sections s section at =
    let in_tree = tree_sections sections in
    let tree_at : slice_get in_tree s ≡ Some section.tree = slice_get-map (λ (x : SectionEntry). x.tree) sections s ∙ ap (option_map (λ (x : SectionEntry). x.tree)) at in
    ap (λ o. unwrap_or o None) (slice_get-map (neighbour_of in_tree) in_tree s ∙ ap (option_map (neighbour_of in_tree)) tree_at)

-- the earlier ones are as among all
given_before : (sections : List SectionEntry) (s n : ℕ) → n < s → length (unwrap_or (slice_get (sizes_in (take s sections)) n) []) ≡ section_size_count sections n
given_before [] zero n less = absurd (omega arith)
given_before [] (suc s) n less = refl
given_before (section ∷ sections) zero n less = absurd (omega arith)
given_before (section ∷ sections) (suc s) zero less = refl
given_before (section ∷ sections) (suc s) (suc n) less = given_before sections s n (omega arith)

before_or_none : (sections : List SectionEntry) (s : ℕ) (o : Option ℕ) → IfSome o (λ n. n < s)
    → option_map (λ n. length (unwrap_or (slice_get (sizes_in (take s sections)) n) [])) o ≡ option_map (section_size_count sections) o
before_or_none sections s None earlier = refl
before_or_none sections s (Some n) earlier = ap (λ k. Some k) (given_before sections s n earlier)

-- how many sizes the neighbour of section s has, by the sizes that were read
abbrev pub counted_in : List (List (List ℕ)) → ℕ → Tree → Option ℕ
counted_in sizes s tree = option_map (λ n. length (unwrap_or (slice_get sizes n) [])) (neighbour tree s)

-- it is the number of the neighbour's sizes, where those of all sections before were read
pub found_size_count : (sections : List SectionEntry) (s : ℕ) (section : SectionEntry) (read seen : List (List (List ℕ))) (tree : Tree) (found : Option ℕ) → slice_get sections s ≡ Some section
    → read ≡ sizes_in (take s sections) → seen ≡ read → tree ≡ tree_of (tree_sections sections) → IfSome (neighbour tree s) (λ n. n < s) → found ≡ counted_in seen s tree → found ≡ neighbour_size_count sections section
found_size_count sections s section read seen tree found at is_read same is_tree earlier is =
    is ∙ ap (λ ss. counted_in ss s tree) (same ∙ is_read) ∙ ap (counted_in (sizes_in (take s sections)) s) is_tree
    ∙ before_or_none sections s (neighbour (tree_of (tree_sections sections)) s) (subst (λ (t : Tree). IfSome (neighbour t s) (λ n. n < s)) is_tree earlier)
    ∙ ap (option_map (section_size_count sections)) (neighbour_in_tree sections s section at)

-- the rules of a section's sizes and pairs, by the place of the section
abbrev pub size_and_pair_rules_at : List SectionEntry → ℕ → SectionEntry → List Rule
size_and_pair_rules_at sections n section = size_and_pair_rules n (neighbour_size_count sections section) section
