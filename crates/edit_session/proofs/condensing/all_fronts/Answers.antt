use Rattle.std.proofs.Common.{◌≡◌, ℕ, [], length, false, ap, sym, ◌∙◌, subst, arith}
use Rattle.duct_definitions.specs.Tree.{Tree}
use Rattle.duct_definitions.proofs.TreeLaws.{few_sections}
use Rattle.contract_join.specs.SectionFronts.{AreFrontsOf}
use Rattle.project_edit.specs.Touched.{is_touched}
use Rattle.edit_session.specs.Condensed.{AreLater}
use Rattle.edit_session.proofs.Fronts.{empty-when, later-all, later-more, later-none, later-start, left-before, left-last, left-start, length-popped}
use Rattle.edit_session.proofs.condensing.all_fronts.Goals as goal

pub loop-old-init : goal.loop-old-init
loop-old-init c = record {
  left = left-start c.args.net.now (is_touched c.args.net.now.tree c.args.edit.now c.args.is_cap_kept) c.args.kept c.into_vec-left.result.items c.into_vec-left.ensures c.requires.kept;
  later = later-start c.args.net.now c.args.kept c.into_vec-left.result.items (is_touched c.args.net.now.tree c.args.edit.now c.args.is_cap_kept) c.new-fronts.result.items c.into_vec-left.ensures c.requires.kept c.new-fronts.ensures.items;
}

pub overflow_cast-s : goal.overflow_cast-s
overflow_cast-s c =
    let few = few_sections c.args.net.now.tree c.network_is_valid.ensures.tree in
    let count = c.loop-old.invariant.later.count in
    let more = length-popped c.loop-old.left.items c.pop.new.self.items c.in-Some.old c.in-Some.ensures.items in
    let len = c.len-s.ensures in
    omega arith

pub front_of-requires-clause-kept : goal.front_of-requires-clause-kept
front_of-requires-clause-kept c off =
    let e = c.args.edit.now in
    let len : c.len-s.result ≡ length c.pop.new.self.items = c.len-s.ensures ∙ c.pop.new.self.ok.0 in
    let untouched : is_touched c.args.net.now.tree e c.args.is_cap_kept (length c.pop.new.self.items) ≡ false =
    ap (is_touched c.args.net.now.tree e c.args.is_cap_kept) (sym len) ∙ ap (λ (t : Tree). is_touched t e c.args.is_cap_kept c.len-s.result) (sym c.tree.ensures.tree) ∙ sym c.is_touched-is_touched.ensures ∙ off in
    let is = left-last c.args.net.now (is_touched c.args.net.now.tree e c.args.is_cap_kept) c.loop-old.left.items c.pop.new.self.items c.in-Some.old c.loop-old.invariant.left c.in-Some.ensures.items untouched in
    (is.0 ∙ sym len, is.1)

pub loop-old-preserved : goal.loop-old-preserved
loop-old-preserved c =
    let net = c.args.net.now in
    let v = c.loop-old.invariant in
    let len : c.len-s.result ≡ length c.pop.new.self.items = c.len-s.ensures ∙ c.pop.new.self.ok.0 in
    record {
      left = left-before net (is_touched net.tree c.args.edit.now c.args.is_cap_kept) c.loop-old.left.items c.pop.new.self.items c.in-Some.old v.left c.in-Some.ensures.items;
      later = later-more net (length c.pop.new.self.items) c.loop-old.fronts.items c.push.new.self.items c.in_ok-front.front
          (subst (λ (n : ℕ). AreLater net n c.loop-old.fronts.items) (length-popped c.loop-old.left.items c.pop.new.self.items c.in-Some.old c.in-Some.ensures.items) v.later)
          c.in_ok-front.ensures.network (c.in_ok-front.ensures.section ∙ len) c.in_ok-push.ensures.items;
    }

pub returns : goal.returns
returns c =
    let net = c.args.net.now in
    let none : length c.loop-old.left.items ≡ 0 = sym c.loop-old.left.ok.0 ∙ empty-when _ (λ less. c.in_default.not-Some _ (c.pop.ensures.value (record { section = 0; fronts = [] }) less)) in
    subst (AreFrontsOf net) (sym (c.from_vec.ensures ∙ c.reverse.ensures.items))
    (later-all net c.loop-old.fronts.items (later-none net c.loop-old.left.items c.loop-old.fronts.items none c.loop-old.invariant.later))
