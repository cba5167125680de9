-- How deep the arrays and tables of a document nest that breaks no rule.
use Rattle.std.proofs.Common.{◌≡◌, ℕ, ◌≤◌, List, [], true, Option, Some, None, IfSome, is_some, ◌∙◌, sym, arith, get_or}
use Rattle.std.specs.Prelude.{codes, unwrap_or, option_and_then, All, if◌then◌else◌}
use Rattle.std.proofs.lemmas.Option.{slice_get-get_or}
use Rattle.std.proofs.lemmas.List.Elements.{All-nil}
use Rattle.toml.specs.Data.{Data, Members, no_members, get_member, members_depth, as_table}
use Rattle.duct_units.specs.Rules.{first_broken}
use Rattle.duct_units.proofs.RuleLaws.{first_broken-append, both_none, rule_holds}
use Rattle.file_definitions.specs.Document.{has_only, name_at, number_at, tables_at, text_at}
use Rattle.file_definitions.specs.Elements.{each}
use Rattle.fan_points.specs.declared.limits.TheConstants.{MAX_HOURS, MAX_TARIFF, MAX_WORTH}
use Rattle.toml_fields.specs.KeyFields.{optional_name_at, table_at}
use Rattle.section_tables.specs.Sides.{side_at, side_called}
use Rattle.section_tables.specs.TreeSections.{tree_section_at}
use Rattle.section_tables.proofs.StepLaws.{named_holds}
use Rattle.project_file.specs.declared.format.Format.{Format}
use Rattle.project_file.specs.declared.format.Format.TheVariants.{One, Two}
use Rattle.duct_definitions.specs.declared.duct.TheConstants.{MAX_DENSITY}
use Rattle.project_file.specs.Ascending.{KeysAscend}
use Rattle.project_file.specs.Shallow.{AreShallow}
use Rattle.project_file.specs.Energy.{energy_keys, energy_of, energy_rules, energy_table}
use Rattle.project_file.specs.Limits.{limits_keys, limits_of, limits_rules, limits_table}
use Rattle.project_file.specs.TopTable.{array_rules, format_in, head_rules, section_tables, top_in, top_keys, top_rules}
use Rattle.project_file.specs.SectionTables.{section_keys, section_of, section_rules, section_table_rules}
use Rattle.project_file.specs.ProjectFile.{project_rules, section_rules_of, sections_of, tree_and_flow_rules}
use Rattle.project_file.proofs.AscendingLaws.{nests}
use Rattle.project_file.proofs.KindDepths.{Nests, array_nests, first_some, integer_nests, name_nests, number_nests, optional_flag_nests, optional_name_nests, optional_number_nests, optional_table_nests, table_nests, text_nests, then_some}
use Rattle.project_file.proofs.OrderLaws.{after_energy, after_head, after_top}
use Rattle.project_file.proofs.PartLaws.{is_new_section, section_twice}

-- ---- the tables `energy` and `rules`

energy_flat : (table : Members) → KeysAscend table → has_only energy_keys table ≡ true → is_some (energy_of table) ≡ true → AreShallow 0 table
energy_flat table ascending only says =
    let hours = then_some (number_at (codes "hours") 0 MAX_HOURS table) _ says in
    let tariff = then_some (number_at (codes "tariff") 0 MAX_TARIFF table) _ hours.1.1 in
    let worth = then_some (number_at (codes "worth") 0 MAX_WORTH table) _ tariff.1.1 in
    nests 0 energy_keys table ascending only (number_nests 0 (codes "hours") _ _ table hours.0, (number_nests 0 (codes "tariff") _ _ table tariff.0, (number_nests 0 (codes "worth") _ _ table worth.0, tt)))

limits_flat : (table : Members) → KeysAscend table → has_only limits_keys table ≡ true → is_some (limits_of table) ≡ true → AreShallow 0 table
limits_flat table ascending only says =
    let velocity = then_some _ _ says in
    let height = then_some _ _ velocity.1.1 in
    let taper = then_some _ _ height.1.1 in
    nests 0 limits_keys table ascending only
    (optional_number_nests 0 (codes "velocity") _ _ table velocity.0, (optional_number_nests 0 (codes "height") _ _ table height.0, (optional_flag_nests 0 (codes "taper") table taper.0, tt)))

-- ---- the tables of the sections

section_flat : (format : Format) (table : Members) → KeysAscend table → has_only (section_keys format) table ≡ true → is_some (section_of table) ≡ true → AreShallow 0 table
section_flat format table ascending only says =
    let tree = then_some (tree_section_at table) _ says in
    let name = then_some (name_at (codes "name") table) _ tree.0 in
    let side = then_some (side_at table) _ name.1.1 in
    let neighbour = then_some (optional_name_at (codes "neighbour") table) _ side.1.1 in
    let long = then_some _ _ tree.1.1 in
    let list = then_some _ _ long.1.1 in
    let local = then_some _ _ list.1.1 in
    let junction = then_some _ _ local.1.1 in
    let device = then_some _ _ junction.1.1 in
    let flow = then_some _ _ device.1.1 in
    let preset = then_some _ _ flow.1.1 in
    let velocity = then_some _ _ preset.1.1 in
    let height = then_some _ _ velocity.1.1 in
    let leak = then_some _ _ height.1.1 in
    by_format format only
    (name_nests 0 (codes "name") table name.0) (text_nests 0 (codes "side") table (first_some (text_at (codes "side") table) side_called side.0)) (optional_name_nests 0 (codes "neighbour") table neighbour.0)
    (number_nests 0 (codes "length") _ _ table long.0) (name_nests 0 (codes "list") table list.0) (optional_number_nests 0 (codes "local") _ _ table local.0) (optional_name_nests 0 (codes "junction") table junction.0)
    (optional_number_nests 0 (codes "device") _ _ table device.0) (optional_number_nests 0 (codes "flow") _ _ table flow.0) (optional_name_nests 0 (codes "preset") table preset.0)
    (optional_number_nests 0 (codes "velocity") _ _ table velocity.0) (optional_number_nests 0 (codes "height") _ _ table height.0) (optional_number_nests 0 (codes "leak") _ _ table leak.0)
  where
    Q : List ℕ → Type 0
    Q key = Nests 0 (get_member key table)

    by_format : (format : Format) → has_only (section_keys format) table ≡ true → Q (codes "name") → Q (codes "side") → Q (codes "neighbour") → Q (codes "length") → Q (codes "list") → Q (codes "local") → Q (codes "junction")
        → Q (codes "device") → Q (codes "flow") → Q (codes "preset") → Q (codes "velocity") → Q (codes "height") → Q (codes "leak") → AreShallow 0 table
    by_format One only n s b l i c j d f p v h k = nests 0 (section_keys One) table ascending only (n, (s, (b, (l, (i, (c, (j, (d, (f, (p, (v, (h, tt))))))))))))
    by_format Two only n s b l i c j d f p v h k = nests 0 (section_keys Two) table ascending only (n, (s, (b, (l, (i, (c, (j, (d, (f, (p, (v, (h, (k, tt)))))))))))))

sections_flat : (format : Format) (tables : List Members) → All KeysAscend tables → first_broken (each (section_rules format) tables) ≡ None → All (AreShallow 0) tables
sections_flat format tables ascending none = λ k d within.
    let table = get_or tables k d in
    let own = (named_holds (section_table_rules format) is_new_section section_twice tables k table none (slice_get-get_or tables k d within)).0 in
    let keys = rule_holds _ _ _ own in
    let says = rule_holds _ _ _ keys.1 in
    section_flat format table (ascending k d within) keys.0 says.0

-- ---- the whole document

ascending_table : (found : Option Members) → IfSome found KeysAscend → KeysAscend (unwrap_or found no_members)
ascending_table None ascending = tt
ascending_table (Some ms) ascending = ascending

ascending_limits : (found : Option Data) → IfSome (option_and_then as_table found) KeysAscend → KeysAscend (unwrap_or (if is_some found then option_and_then as_table found else Some no_members) no_members)
ascending_limits None ascending = tt
ascending_limits (Some d) ascending = ascending_table (as_table d) ascending

ascending_tables : (found : Option (List Members)) → IfSome found (λ tables. All KeysAscend tables) → All KeysAscend (unwrap_or found [])
ascending_tables None ascending = All-nil KeysAscend
ascending_tables (Some tables) ascending = ascending

-- a value that nests less nests no more
nests_more : (n m : ℕ) (found : Option Data) → n ≤ m → Nests n found → Nests m found
nests_more n m None less nests = tt
nests_more n m (Some d) less nests = let inside = nests.0 in (omega arith, nests.1)

once_is_less : 1 ≤ 2
once_is_less = omega arith

pub document_nests : (doc : Members) → first_broken (project_rules doc) ≡ None → KeysAscend doc → IfSome (table_at (codes "energy") doc) KeysAscend → IfSome (table_at (codes "rules") doc) KeysAscend
    → IfSome (tables_at (codes "section") doc) (λ tables. All KeysAscend tables) → AreShallow 2 doc
document_nests doc none ascending of_energy of_limits of_sections =
    let file = both_none _ _ (sym (first_broken-append (top_rules doc) (after_top doc)) ∙ none) in
    let top = both_none _ _ (sym (first_broken-append (head_rules doc) (after_head doc)) ∙ file.0) in
    let rest = both_none _ _ (sym (first_broken-append (energy_rules doc) (after_energy doc)) ∙ top.1) in
    let last = both_none _ _ (sym (first_broken-append (limits_rules doc) (array_rules doc)) ∙ rest.1) in
    let keys = rule_holds _ _ _ top.0 in
    let format = rule_holds _ _ _ keys.1 in
    let known = rule_holds _ _ _ format.1 in
    let name = rule_holds _ _ _ known.1 in
    let density = rule_holds _ _ _ name.1 in
    let energy = rule_holds _ _ _ rest.0 in
    let energy_only = rule_holds _ _ _ energy.1 in
    let energy_says = rule_holds _ _ _ energy_only.1 in
    let limits = rule_holds _ _ _ last.0 in
    let limits_only = rule_holds _ _ _ limits.1 in
    let limits_say = rule_holds _ _ _ limits_only.1 in
    let sections = rule_holds _ _ _ last.1 in
    let parts = both_none _ _ (sym (first_broken-append (section_rules_of (top_in doc)) (tree_and_flow_rules (top_in doc).limits (sections_of (top_in doc)))) ∙ file.1) in
    let few = rule_holds _ _ _ parts.0 in
    let in_energy = energy_flat (energy_table doc) (ascending_table (table_at (codes "energy") doc) of_energy) energy_only.0 energy_says.0 in
    let in_limits = limits_flat (limits_table doc) (ascending_limits (get_member (codes "rules") doc) of_limits) limits_only.0 limits_say.0 in
    let in_sections = sections_flat (format_in doc) (section_tables doc) (ascending_tables (tables_at (codes "section") doc) of_sections) few.1 in
    nests 2 top_keys doc ascending keys.0 (
      integer_nests 2 (codes "format") doc format.0,
      (
        name_nests 2 (codes "name") doc name.0,
        (
          number_nests 2 (codes "density") 1 MAX_DENSITY doc density.0,
          (
            nests_more 1 2 (get_member (codes "energy") doc) once_is_less (table_nests 0 (get_member (codes "energy") doc) energy.0 in_energy),
            (
              nests_more 1 2 (get_member (codes "rules") doc) once_is_less (optional_table_nests 0 (get_member (codes "rules") doc) limits.0 in_limits),
              (array_nests 0 (get_member (codes "section") doc) sections.0 in_sections, tt),
            ),
          ),
        ),
      ),
    )
