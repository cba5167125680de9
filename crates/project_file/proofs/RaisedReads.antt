-- A document and its raised one are read as one project.
use Rattle.std.proofs.Common.{◌≡◌, ℕ, List, [], ◌∷◌, map, length, Bool, true, false, Option, Some, None, is_some, is_eq, Ok, refl, ap, ◌∙◌, sym, subst, option_map}
use Rattle.std.specs.Prelude.{codes, pos, unwrap_or, option_and_then, if◌then◌else◌, nat_le}
use Rattle.std.proofs.lemmas.List.{length-map}
use Rattle.std.specs.Ordering.{nat_cmp}
use Rattle.std.specs.Cmp.Lexicographic.{slice_cmp}
use Rattle.toml.specs.Data.{Data, integer, Members, no_members, get_member, as_array, as_integer, as_str, as_table}
use Rattle.duct_units.specs.Name.{name_of}
use Rattle.duct_units.specs.declared.fault.Reason.TheVariants.{Key, Field, Format as OtherFormat, TooMany}
use Rattle.duct_units.specs.Rules.{Rule, at_file, file_fault, first_broken, unless_refused}
use Rattle.duct_units.proofs.RuleLaws.{first_broken-append, both_none, rule_holds}
use Rattle.duct_definitions.specs.declared.limits.TheConstants.{MAX_SECTIONS}
use Rattle.file_definitions.specs.Document.{all_of, bounded, has_only, items_at, list_of, name_at, tables_at}
use Rattle.file_definitions.specs.Elements.{each}
use Rattle.fan_points.specs.declared.terms.Energy.{Energy}
use Rattle.section_tables.proofs.SequenceLaws.{all_hold, given}
use Rattle.project_file.specs.declared.format.Format.{Format}
use Rattle.project_file.specs.declared.format.Format.TheVariants.{One, Two}
use Rattle.duct_definitions.specs.declared.duct.TheConstants.{MAX_DENSITY}
use Rattle.project_file.specs.declared.project.Project.{Project}
use Rattle.project_file.specs.declared.section_table.SectionTable.{SectionTable}
use Rattle.project_file.specs.declared.size_limits.SizeLimits.{SizeLimits}
use Rattle.project_file.specs.Energy.{energy_keys, energy_in, energy_of, energy_rules}
use Rattle.project_file.specs.Limits.{limits_keys, limits_in, limits_of, limits_rules}
use Rattle.project_file.specs.TopTable.{array_rules, density_at, format_at, format_in, has_format, head_rules, is_format, section_tables, top_in, top_keys, top_rules}
use Rattle.project_file.specs.SectionTables.{all_section_rules, section_in, section_rules}
use Rattle.project_file.specs.ProjectFile.{project_in, project_rules, project_with, reading, section_rules_of, sections_of, tree_and_flow_rules}
use Rattle.project_file.specs.Raised.{raised, with_leaks, with_member}
use Rattle.project_file.proofs.MemberLaws.{get_here, get_other, only_with}
use Rattle.project_file.proofs.OrderLaws.{after_energy, after_head, after_top, all_of_top}
use Rattle.project_file.proofs.RaisedSections.{put, raised_list, raised_some, sections_hold, tables_raised}

-- the raised document of one of format 1
abbrev with_sections : Members → Members
with_sections doc = with_member (codes "section") (with_leaks doc) doc

abbrev in_format_2 : Members → Members
in_format_2 doc = with_member (codes "format") (integer (pos 2)) (with_sections doc)

-- what stands at another key
stays : (doc : Members) (key : List ℕ) → is_eq (slice_cmp nat_cmp key (codes "format")) ≡ false → is_eq (slice_cmp nat_cmp key (codes "section")) ≡ false → get_member key (in_format_2 doc) ≡ get_member key doc
stays doc key apart other = get_other key (codes "format") (integer (pos 2)) (with_sections doc) apart ∙ get_other key (codes "section") (with_leaks doc) doc other

format_there : (doc : Members) → get_member (codes "format") (in_format_2 doc) ≡ Some (integer (pos 2))
format_there doc = get_here (codes "format") (integer (pos 2)) (with_sections doc)

sections_there : (doc : Members) → get_member (codes "section") (in_format_2 doc) ≡ Some (with_leaks doc)
sections_there doc = get_other (codes "section") (codes "format") (integer (pos 2)) (with_sections doc) refl ∙ get_here (codes "section") (with_leaks doc) doc

-- the sections of the raised document
array_raised : (doc : Members) → is_some (tables_at (codes "section") doc) ≡ true → tables_at (codes "section") (in_format_2 doc) ≡ option_map (map put) (tables_at (codes "section") doc)
array_raised doc there =
    ap (λ (o : Option Data). option_and_then (all_of as_table) (option_map list_of (option_and_then as_array o))) (sections_there doc) ∙ tables_raised (items_at (codes "section") doc) there

-- ---- the rules of the top table

five_hold : (a b c d e : Bool) → a ≡ true → b ≡ true → c ≡ true → d ≡ true → e ≡ true
    → first_broken (at_file a Key ∷ at_file b Field ∷ at_file c OtherFormat ∷ at_file d Field ∷ at_file e Field ∷ []) ≡ None
five_hold a b c d e ah bh ch dh eh = rw (ah, bh, ch, dh, eh) refl

format_raised : (doc : Members) → format_at (in_format_2 doc) ≡ Some Two
format_raised doc =
    ap (λ (o : Option Data). if is_some (bounded 1 1 (option_and_then as_integer o)) then Some One else if is_some (bounded 2 2 (option_and_then as_integer o)) then Some Two else None) (format_there doc)

energy_stays : (doc : Members) → energy_rules (in_format_2 doc) ≡ energy_rules doc
energy_stays doc =
    ap (λ (o : Option Data). at_file (is_some (option_and_then as_table o)) Field ∷ at_file (has_only energy_keys (unwrap_or (option_and_then as_table o) no_members)) Key
    ∷ at_file (is_some (energy_of (unwrap_or (option_and_then as_table o) no_members))) Field ∷ []) (stays doc (codes "energy") refl refl)

limits_stay : (doc : Members) → limits_rules (in_format_2 doc) ≡ limits_rules doc
limits_stay doc =
    let found = λ (o : Option Data). if is_some o then option_and_then as_table o else Some no_members in
    ap (λ (o : Option Data). at_file (is_some (found o)) Field ∷ at_file (has_only limits_keys (unwrap_or (found o) no_members)) Key
    ∷ at_file (is_some (limits_of (unwrap_or (found o) no_members))) Field ∷ []) (stays doc (codes "rules") refl refl)

top_holds : (doc : Members) → first_broken (top_rules doc) ≡ None → first_broken (top_rules (in_format_2 doc)) ≡ None
top_holds doc none =
    let top = both_none _ _ (sym (first_broken-append (head_rules doc) (after_head doc)) ∙ none) in
    let rest = both_none _ _ (sym (first_broken-append (energy_rules doc) (after_energy doc)) ∙ top.1) in
    let last = both_none _ _ (sym (first_broken-append (limits_rules doc) (array_rules doc)) ∙ rest.1) in
    let keys = rule_holds _ _ _ top.0 in
    let format = rule_holds _ _ _ keys.1 in
    let known = rule_holds _ _ _ format.1 in
    let name = rule_holds _ _ _ known.1 in
    let density = rule_holds _ _ _ name.1 in
    let sections = rule_holds _ _ _ last.1 in
    let only : has_only top_keys (in_format_2 doc) ≡ true = only_with top_keys (codes "format") (integer (pos 2)) (with_sections doc) refl (only_with top_keys (codes "section") (with_leaks doc) doc refl keys.0) in
    let head = five_hold _ _ _ _ _ only (ap (λ (o : Option Data). is_some (option_and_then as_integer o)) (format_there doc)) (ap is_some (format_raised doc))
    (ap (λ (o : Option Data). is_some (option_and_then name_of (option_and_then as_str o))) (stays doc (codes "name") refl refl) ∙ name.0)
    (ap (λ (o : Option Data). is_some (bounded 1 MAX_DENSITY (option_and_then as_integer o))) (stays doc (codes "density") refl refl) ∙ density.0) in
    let array : first_broken (array_rules (in_format_2 doc)) ≡ None =
    ap (λ b. first_broken (at_file b Field ∷ [])) (ap is_some (array_raised doc sections.0) ∙ raised_some (tables_at (codes "section") doc) ∙ sections.0) in
    all_of_top (in_format_2 doc) head (ap first_broken (energy_stays doc) ∙ rest.0) (ap first_broken (limits_stay doc) ∙ last.0) array

-- ---- the whole document

-- the project of its parts
abbrev project_by : List ℕ → ℕ → Energy → SizeLimits → List SectionTable → Project
project_by name density energy limits sections = project_with (record { head = record { format = One; name = name; density = density }; energy = energy; limits = limits; sections = [] }) sections

format_of : (doc : Members) → is_format 1 doc ≡ true → format_in doc ≡ One
format_of doc is = ap (λ b. unwrap_or (if b then Some One else if is_format 2 doc then Some Two else None) One) is

limits_in_stay : (doc : Members) → limits_in (in_format_2 doc) ≡ limits_in doc
limits_in_stay doc =
    let found = λ (o : Option Data). if is_some o then option_and_then as_table o else Some no_members in
    ap (λ (o : Option Data). unwrap_or (limits_of (unwrap_or (found o) no_members)) (record { velocity = None; height = None; taper = false })) (stays doc (codes "rules") refl refl)

few_hold : (n m : ℕ) → n ≡ m → nat_le m MAX_SECTIONS ≡ true → nat_le n MAX_SECTIONS ≡ true
few_hold n m same few = ap (λ k. nat_le k MAX_SECTIONS) same ∙ few

both_hold : (doc : Members) → is_format 1 doc ≡ true → first_broken (project_rules doc) ≡ None → (first_broken (project_rules (in_format_2 doc)) ≡ None) × (project_in (in_format_2 doc) ≡ project_in doc)
both_hold doc is none =
    let new = in_format_2 doc in
    let tables = section_tables doc in
    let file = both_none _ _ (sym (first_broken-append (top_rules doc) (after_top doc)) ∙ none) in
    let parts = both_none _ _ (sym (first_broken-append (section_rules_of (top_in doc)) (tree_and_flow_rules (limits_in doc) (sections_of (top_in doc)))) ∙ file.1) in
    let top = both_none _ _ (sym (first_broken-append (head_rules doc) (after_head doc)) ∙ file.0) in
    let rest = both_none _ _ (sym (first_broken-append (energy_rules doc) (after_energy doc)) ∙ top.1) in
    let last = both_none _ _ (sym (first_broken-append (limits_rules doc) (array_rules doc)) ∙ rest.1) in
    let there = (rule_holds _ _ _ last.1).0 in
    let of_one : first_broken (all_section_rules One tables) ≡ None = subst (λ (f : Format). first_broken (all_section_rules f tables) ≡ None) (format_of doc is) parts.0 in
    let few = rule_holds _ _ _ of_one in
    let hold = sections_hold tables [] refl few.1 in
    let new_tables : section_tables new ≡ map put tables = ap (λ (o : Option (List Members)). unwrap_or o []) (array_raised doc there) ∙ raised_list (tables_at (codes "section") doc) in
    let new_format : format_in new ≡ Two = ap (λ (o : Option Format). unwrap_or o One) (format_raised doc) in
    let of_two : first_broken (all_section_rules Two (map put tables)) ≡ None =
    ap (λ b. if b then first_broken (each (section_rules Two) (map put tables)) else Some (file_fault TooMany)) (few_hold (length (map put tables)) (length tables) (length-map tables put) few.0) ∙ hold.0 in
    let of_sections : first_broken (section_rules_of (top_in new)) ≡ None =
    ap (λ (f : Format). first_broken (all_section_rules f (section_tables new))) new_format ∙ ap (λ (ts : List Members). first_broken (all_section_rules Two ts)) new_tables ∙ of_two in
    let same : sections_of (top_in new) ≡ sections_of (top_in doc) = ap (map section_in) new_tables ∙ hold.1 in
    let of_rest : first_broken (tree_and_flow_rules (limits_in new) (sections_of (top_in new))) ≡ None =
    ap (λ (l : SizeLimits). first_broken (tree_and_flow_rules l (sections_of (top_in new)))) (limits_in_stay doc)
    ∙ ap (λ (ss : List SectionTable). first_broken (tree_and_flow_rules (limits_in doc) ss)) same ∙ parts.1 in (
      all_hold (top_rules new) (after_top new) (top_holds doc file.0) (all_hold (section_rules_of (top_in new)) (tree_and_flow_rules (limits_in new) (sections_of (top_in new))) of_sections of_rest),
      ap (λ (o : Option Data). project_by (unwrap_or (option_and_then name_of (option_and_then as_str o)) []) (unwrap_or (density_at new) 0) (energy_in new) (limits_in new) (sections_of (top_in new))) (stays doc (codes "name") refl refl)
          ∙ ap (λ (o : Option Data). project_by (unwrap_or (name_at (codes "name") doc) []) (unwrap_or (bounded 1 MAX_DENSITY (option_and_then as_integer o)) 0) (energy_in new) (limits_in new) (sections_of (top_in new))) (stays doc (codes "density") refl refl)
          ∙ ap (λ (o : Option Data). project_by (unwrap_or (name_at (codes "name") doc) []) (unwrap_or (density_at doc) 0)
          (unwrap_or (energy_of (unwrap_or (option_and_then as_table o) no_members)) (record { hours = 0; tariff = 0; worth = 0 })) (limits_in new) (sections_of (top_in new))) (stays doc (codes "energy") refl refl)
          ∙ ap (λ (l : SizeLimits). project_by (unwrap_or (name_at (codes "name") doc) []) (unwrap_or (density_at doc) 0) (energy_in doc) l (sections_of (top_in new))) (limits_in_stay doc)
          ∙ ap (λ (ss : List SectionTable). project_by (unwrap_or (name_at (codes "name") doc) []) (unwrap_or (density_at doc) 0) (energy_in doc) (limits_in doc) ss) same,
    )

-- what a document is read as, its raised one is
pub raised_reads : (doc : Members) (p : Project) → reading (Some doc) ≡ Ok p → reading (Some (raised doc)) ≡ Ok p
raised_reads doc p is = at (is_format 1 doc) refl
  where
    at : (b : Bool) → is_format 1 doc ≡ b → reading (Some (if b then in_format_2 doc else doc)) ≡ Ok p
    at true one =
        let read = given (first_broken (project_rules doc)) (project_in doc) p is in
        let both = both_hold doc one read.0 in
        ap (λ o. unless_refused o (project_in (in_format_2 doc))) both.0 ∙ ap (λ (q : Project). Ok q) (both.1 ∙ sym read.1)
    at false other = is

-- the third of some rules that hold
third : (a b c : Rule) (others : List Rule) → first_broken (a ∷ b ∷ c ∷ others) ≡ None → c.holds ≡ true
third a b c others none =
    let first = rule_holds a.holds (first_broken (b ∷ c ∷ others)) a.fault none in
    let second = rule_holds b.holds (first_broken (c ∷ others)) b.fault first.1 in
    let last = rule_holds c.holds (first_broken others) c.fault second.1 in
    last.0

format_known : (doc : Members) → first_broken (project_rules doc) ≡ None → is_some (format_at doc) ≡ true
format_known doc none =
    let file = both_none (first_broken (top_rules doc)) (first_broken (after_top doc)) (sym (first_broken-append (top_rules doc) (after_top doc)) ∙ none) in
    let top = both_none (first_broken (head_rules doc)) (first_broken (after_head doc)) (sym (first_broken-append (head_rules doc) (after_head doc)) ∙ file.0) in
    third (at_file (has_only top_keys doc) Key) (at_file (has_format doc) Field) (at_file (is_some (format_at doc)) OtherFormat) (at_file (is_some (name_at (codes "name") doc)) Field ∷ at_file (is_some (density_at doc)) Field ∷ []) top.0

-- and it is of format 2
pub raised_format : (doc : Members) (p : Project) → reading (Some doc) ≡ Ok p → is_format 2 (raised doc) ≡ true
raised_format doc p is = at (is_format 1 doc) refl
  where
    only_two : (one two : Bool) → one ≡ false → is_some (if one then Some One else if two then Some Two else None) ≡ true → two ≡ true
    only_two true two e some = cc e
    only_two false true e some = refl
    only_two false false e some = cc some

    known : is_some (format_at doc) ≡ true
    known = format_known doc (given (first_broken (project_rules doc)) (project_in doc) p is).0

    at : (b : Bool) → is_format 1 doc ≡ b → is_format 2 (if b then in_format_2 doc else doc) ≡ true
    at true one = ap (λ (o : Option Data). is_some (bounded 2 2 (option_and_then as_integer o))) (format_there doc)
    at false other = only_two (is_format 1 doc) (is_format 2 doc) other known
