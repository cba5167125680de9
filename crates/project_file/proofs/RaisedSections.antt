-- The tables of the sections of a raised document: they say what those of the document say.
use Rattle.std.proofs.Common.{◌≡◌, ℕ, ◌+◌, List, [], ◌∷◌, ◌++◌, map, length, Bool, true, false, not, Option, Some, None, is_some, option_map, is_eq, refl, ap, ◌∙◌, sym, subst}
use Rattle.std.specs.Prelude.{codes, pos, unwrap_or, option_and_then}
use Rattle.std.proofs.lemmas.List.{map-append}
use Rattle.std.specs.Ordering.{nat_cmp}
use Rattle.std.specs.Cmp.Lexicographic.{slice_cmp}
use Rattle.toml.specs.Data.{Data, string, integer, float, boolean, datetime, array, table, Members, get_member, as_table}
use Rattle.toml.specs.View.{items_of}
use Rattle.duct_units.specs.declared.fault.Reason.TheVariants.{Key, Field, Twice, JunctionAtFan}
use Rattle.duct_units.specs.Rules.{at_section, first_broken}
use Rattle.duct_units.proofs.RuleLaws.{first_broken-append, both_none, rule_holds}
use Rattle.name_index.specs.Places.{is_among}
use Rattle.file_definitions.specs.Document.{all_of, has_only, list_of}
use Rattle.file_definitions.specs.Elements.{each_after}
use Rattle.section_tables.proofs.SequenceLaws.{all_hold}
use Rattle.project_file.specs.declared.format.Format.TheVariants.{One, Two}
use Rattle.project_file.specs.declared.section_table.SectionTable.{SectionTable}
use Rattle.project_file.specs.Raised.{with_leak, with_member}
use Rattle.project_file.specs.SectionTables.{is_junction_at_fan, keys_of_both, no_section, section_in, section_keys, section_of, section_rules, table_names}
use Rattle.project_file.proofs.MemberLaws.{get_here, get_other, not_listed, only_more, only_with}

-- the table of a section with `leak` 0
abbrev pub put : Members → Members
put section = with_member (codes "leak") (integer (pos 0)) section

-- it says what the table says that has no leak
section_same : (section : Members) → get_member (codes "leak") section ≡ None → section_of (put section) ≡ section_of section
section_same section none =
    rw (
      other (codes "name") refl,
      other (codes "side") refl,
      other (codes "neighbour") refl,
      other (codes "length") refl,
      other (codes "list") refl,
      other (codes "local") refl,
      other (codes "junction") refl,
      other (codes "device") refl,
      other (codes "flow") refl,
      other (codes "preset") refl,
      other (codes "velocity") refl,
      other (codes "height") refl,
      get_here (codes "leak") (integer (pos 0)) section,
      none,
    ) refl
  where
    other : (key : List ℕ) → is_eq (slice_cmp nat_cmp key (codes "leak")) ≡ false → get_member key (put section) ≡ get_member key section
    other key apart = get_other key (codes "leak") (integer (pos 0)) section apart

four_hold : (n : ℕ) (a b c d : Bool) → a ≡ true → b ≡ true → c ≡ true → d ≡ true
    → first_broken (at_section n a Key ∷ at_section n b Field ∷ at_section n c JunctionAtFan ∷ at_section n d Twice ∷ []) ≡ None
four_hold n a b c d ah bh ch dh = rw (ah, bh, ch, dh) refl

-- where the rules of format 1 hold of the tables, those of format 2 hold of the raised ones, which say the same
pub sections_hold : (tables before : List Members) → table_names (map put before) ≡ table_names before → first_broken (each_after (section_rules One) before tables) ≡ None
    → (first_broken (each_after (section_rules Two) (map put before) (map put tables)) ≡ None) × (map section_in (map put tables) ≡ map section_in tables)
sections_hold [] before names none = (refl, refl)
sections_hold (section ∷ tables) before names none =
    let parts = both_none _ _ (sym (first_broken-append (section_rules One before section) (each_after (section_rules One) (before ++ section ∷ []) tables)) ∙ none) in
    let keys = rule_holds _ _ _ parts.0 in
    let says = rule_holds _ _ _ keys.1 in
    let free = rule_holds _ _ _ says.1 in
    let new = rule_holds _ _ _ free.1 in
    let same = section_same section (not_listed (section_keys One) (codes "leak") section keys.0 refl) in
    let same_in : section_in (put section) ≡ section_in section = ap (λ (o : Option SectionTable). unwrap_or o no_section) same in
    let only : has_only (section_keys Two) (put section) ≡ true = only_with (section_keys Two) (codes "leak") (integer (pos 0)) section refl (only_more keys_of_both (codes "leak" ∷ []) section keys.0) in
    let is_new : not (is_among (section_in (put section)).name (table_names (map put before))) ≡ true =
    ap (λ (s : SectionTable). not (is_among s.name (table_names (map put before)))) same_in ∙ ap (λ ns. not (is_among (section_in section).name ns)) names ∙ new.0 in
    let here : first_broken (section_rules Two (map put before) (put section)) ≡ None =
    four_hold (length (map put before) + 1) _ _ _ _ only (ap is_some same ∙ says.0) (ap (λ (s : SectionTable). not (is_junction_at_fan s)) same_in ∙ free.0) is_new in
    let put_last : map put (before ++ section ∷ []) ≡ map put before ++ put section ∷ [] = map-append put before (section ∷ []) in
    let names_last : table_names (map put (before ++ section ∷ [])) ≡ table_names (before ++ section ∷ []) =
    ap table_names put_last ∙ map-append (λ t. (section_in t).name) (map put before) (put section ∷ [])
    ∙ ap (λ ns. ns ++ (section_in (put section)).name ∷ []) names ∙ ap (λ (s : SectionTable). table_names before ++ s.name ∷ []) same_in ∙ sym (map-append (λ t. (section_in t).name) before (section ∷ [])) in
    let later = sections_hold tables (before ++ section ∷ []) names_last parts.1 in
    let behind : first_broken (each_after (section_rules Two) (map put before ++ put section ∷ []) (map put tables)) ≡ None =
    subst (λ (ts : List Members). first_broken (each_after (section_rules Two) ts (map put tables)) ≡ None) put_last later.0 in (
      all_hold (section_rules Two (map put before) (put section)) (each_after (section_rules Two) (map put before ++ put section ∷ []) (map put tables)) here behind,
      ap (λ (s : SectionTable). s ∷ map section_in (map put tables)) same_in ∙ ap (λ ss. section_in section ∷ ss) later.1,
    )

-- the array of the raised sections has the raised tables
raised_tables : (values : List Data) → all_of as_table (list_of (items_of (map with_leak values))) ≡ option_map (map put) (all_of as_table values)
raised_tables [] = refl
raised_tables (string s ∷ values) = refl
raised_tables (integer z ∷ values) = refl
raised_tables (float x ∷ values) = refl
raised_tables (boolean b ∷ values) = refl
raised_tables (datetime t ∷ values) = refl
raised_tables (array ds ∷ values) = refl
raised_tables (table ms ∷ values) = ap (option_map (λ others. put ms ∷ others)) (raised_tables values) ∙ at (all_of as_table values)
  where
    at : (o : Option (List Members)) → option_map (λ others. put ms ∷ others) (option_map (map put) o) ≡ option_map (map put) (option_map (λ others. ms ∷ others) o)
    at None = refl
    at (Some others) = refl

pub tables_raised : (found : Option (List Data)) → is_some (option_and_then (all_of as_table) found) ≡ true
    → all_of as_table (list_of (items_of (map with_leak (unwrap_or found [])))) ≡ option_map (map put) (option_and_then (all_of as_table) found)
tables_raised None e = cc e
tables_raised (Some values) e = raised_tables values

pub raised_some : (found : Option (List Members)) → is_some (option_map (map put) found) ≡ is_some found
raised_some None = refl
raised_some (Some tables) = refl

pub raised_list : (found : Option (List Members)) → unwrap_or (option_map (map put) found) [] ≡ map put (unwrap_or found [])
raised_list None = refl
raised_list (Some tables) = refl
