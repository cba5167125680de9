use Rattle.std.proofs.Common.{◌∙◌, sym, ap, not, rules, refl}
use Rattle.duct_units.specs.Rules.{first_broken, section_fault}
use Rattle.duct_units.specs.declared.fault.Reason.TheVariants.{Twice}
use Rattle.file_definitions.proofs.ElementLaws.{each_here, each_past}
use Rattle.name_index.specs.Places.{is_among}
use Rattle.toml_fields.specs.ArrayItems.{names_in}
use Rattle.network_file.specs.Pairs.{size_name_rules}
use Rattle.section_tables.proofs.StepLaws.{last, added}
use Rattle.network_file.proofs.sizes.read_size_names.Goals as goal

pub returns-then-is_among-clause-value : goal.returns-then-is_among-clause-value
returns-then-is_among-clause-value c =
    let old = ap not (sym (c.is_among.ensures ∙ ap (is_among c.get-name.result) (c.as_slice.ensures.value ∙ c.loop-k.invariant.sizes)) ∙ c.if-is_among.true) in
    let broken = c.loop-k.invariant.rules ∙ each_here (size_name_rules c.args.place) (names_in c.args.names.now) c.loop-k.k c.get-name.result (section_fault c.args.place Twice) c.get-name.ensures (ap (λ b. first_broken (last b (section_fault c.args.place Twice))) old) in
    search (rules, broken)

pub loop-k-preserved : goal.loop-k-preserved
loop-k-preserved c =
    let new = ap not (sym (c.is_among.ensures ∙ ap (is_among c.get-name.result) (c.as_slice.ensures.value ∙ c.loop-k.invariant.sizes)) ∙ c.if-is_among.false) in
    record {
      end = c.loop-k.invariant.end;
      rules = c.loop-k.invariant.rules ∙ each_past (size_name_rules c.args.place) (names_in c.args.names.now) c.loop-k.k c.get-name.result c.get-name.ensures (ap (λ b. first_broken (last b (section_fault c.args.place Twice))) new);
      sizes = added (names_in c.args.names.now) c.loop-k.k c.get-name.result _ _ _ c.get-name.ensures c.in_ok-push.ensures.items refl c.loop-k.invariant.sizes;
    }
