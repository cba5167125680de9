use Rattle.std.proofs.Common.{◌≡◌, ◌-◌, map, All}
use Rattle.std.specs.List.{range_with_len, flat_map}
use Rattle.duct_units.specs.Rules.{first_broken}
use Rattle.duct_definitions.specs.Tree.{section_count}
use Rattle.net_build.specs.Asking.{IsOpen}
use Rattle.net_build.specs.Joining.{joining_rules, rules_of_section}
use Rattle.net_build.specs.Sections.{section_sizes}
use Rattle.net_build.proofs.sections.all_sections.Given as goal

abbrev pub invariant-loop-s : goal.invariant-loop-s
invariant-loop-s l =
    record {
      sections : l.sections.items ≡ map (section_sizes l.project l.catalogues) (range_with_len 0 l.s);
      bounds : All (IsOpen l.catalogues) l.sections.items;
      rest : first_broken (flat_map (rules_of_section l.project l.catalogues) (range_with_len l.s (section_count l.project.tree - l.s))) ≡ first_broken (joining_rules l.project l.catalogues);
    }
