use Rattle.std.proofs.Common.{map, All, ap, ◌∙◌, arith}
use Rattle.std.proofs.lemmas.List.Elements.{All-set}
use Rattle.duct_definitions.specs.Network.{IsBounded}
use Rattle.duct_definitions.specs.Tree.{section_count}
use Rattle.net_build.specs.Built.{section_pairs}
use Rattle.net_build.specs.Refusals.{section_refusals, CountsWithin}
use Rattle.net_build.proofs.AskedLaws.{asked-then}
use Rattle.project_edit.specs.Touched.{is_touched}
use Rattle.edit_session.specs.Current.{catalogues_of}
use Rattle.edit_session.proofs.Made.{made-again, made-all}
use Rattle.edit_session.proofs.rebuilding.pairs_again.Goals as goal

pub loop-s-preserved : goal.loop-s-preserved
loop-s-preserved g c =
    let p = c.args.project.now in
    let all = catalogues_of c.args.catalogues.now in
    let allows = map g.R.SizeRule.allows c.args.rules.now.items in
    let names = map g.R.SizeRule.label c.args.rules.now.items in
    let touched = is_touched p.tree c.args.edit.now c.args.is_cap_kept in
    let s = c.loop-s.s in
    let v = c.loop-s.invariant in
    let e = c.in_ok-built.ensures in
    let n = c.len-s-end.ensures.value in
    record {
      pairs = made-again (section_pairs p all allows) touched (section_count p.tree) s c.loop-s.pairs.items c.in_ok-built.built.pairs (omega arith) (e.pairs ∙ ap (λ r. section_pairs p all r s) v.asked.same.meanings) v.pairs;
      counts = made-again (section_refusals p all allows names) touched (section_count p.tree) s c.loop-s.counts.items c.in_ok-built.built.refusals (omega arith)
          (e.refusals ∙ ap (λ r. section_refusals p all r (map g.R.SizeRule.label c.loop-s.rules.items) s) v.asked.same.meanings ∙ ap (λ ns. section_refusals p all allows ns s) v.asked.same.names) v.counts;
      bounds = All-set (All IsBounded) c.loop-s.pairs.items s c.in_ok-built.built.pairs e.bounds v.bounds;
      most = All-set (CountsWithin 576) c.loop-s.counts.items s c.in_ok-built.built.refusals e.most v.most;
      asked = asked-then _ _ _ _ _ _ _ _ _ v.asked e.asked (omega arith);
    }

pub returns-clause-pairs : goal.returns-clause-pairs
returns-clause-pairs g c =
    let p = c.args.project.now in
    let n = c.len-s-end.ensures.value in
    c.from_vec.ensures
    ∙ made-all (section_pairs p (catalogues_of c.args.catalogues.now) (map g.R.SizeRule.allows c.args.rules.now.items)) (is_touched p.tree c.args.edit.now c.args.is_cap_kept) (section_count p.tree) c.loop-s.s c.loop-s.pairs.items (omega arith) c.loop-s.invariant.pairs

pub returns-clause-counts : goal.returns-clause-counts
returns-clause-counts g c =
    let p = c.args.project.now in
    let n = c.len-s-end.ensures.value in
    c.from_vec-2.ensures
    ∙ made-all (section_refusals p (catalogues_of c.args.catalogues.now) (map g.R.SizeRule.allows c.args.rules.now.items) (map g.R.SizeRule.label c.args.rules.now.items)) (is_touched p.tree c.args.edit.now c.args.is_cap_kept) (section_count p.tree) c.loop-s.s
    c.loop-s.counts.items (omega arith) c.loop-s.invariant.counts
