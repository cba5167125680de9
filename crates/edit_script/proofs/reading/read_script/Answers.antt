use Rattle.std.proofs.Common.{◌≡◌, ◌<◌, ◌+◌, ◌++◌, length, sym, ap, ◌∙◌, subst, append-nil, arith, refl, inr}
use Rattle.std.proofs.lemmas.Bool.{false≢true}
use Rattle.std.proofs.lemmas.Bool.Decides.{nat_tests}
use Rattle.edit_script.specs.Scripts.{script_line, script_text, IsScriptLine, IsRefusal}
use Rattle.edit_script.proofs.LineReader.{reader}
use Rattle.edit_script.proofs.Texts.{in_range-push, script_text-push, line_is_some, unread_is_no_line, nothing_left, not_empty}
use Rattle.edit_script.proofs.LineCounts.{few_before, few_all}
use Rattle.edit_script.proofs.reading.read_script.Goals as goal

-- the line that was read
taken : (c : goal.In_ok-push) → IsScriptLine c.in-Some.line × (c.loop-rest.rest.now ≡ script_line c.in-Some.line ++ c.in-Some.after.now)
taken c = reader.takes c.loop-rest.rest.now c.in-Some.line c.in-Some.after.now (sym c.in-Some.ensures)

pub bad_line-requires : goal.bad_line-requires
bad_line-requires c =
    let some : 0 < length c.loop-rest.rest.now = grind (arith, nat_tests, c.is_empty.ensures) in
    let few = few_before c.loop-rest.lines.items c.loop-rest.rest.now c.args.bytes.now c.loop-rest.invariant.in_range c.loop-rest.invariant.spelled some
    (λ long. false≢true (sym c.if-has_too_many_lines.false ∙ c.has_too_many_lines.ensures.1 long)) in
    omega arith

pub returns-in_default-clause-refused : goal.returns-in_default-clause-refused
returns-in_default-clause-refused c =
    let some : 0 < length c.loop-rest.rest.now = grind (arith, nat_tests, c.is_empty.ensures) in
    subst (IsRefusal c.args.bytes.now) (sym c.bad_line.ensures) (inr (record {
      short = λ long. false≢true (sym c.if-has_too_many_lines.false ∙ c.has_too_many_lines.ensures.1 long);
      line = c.len.result + 1;
      says = refl;
      first = record {
        lines = c.loop-rest.lines.items;
        number = omega arith;
        in_range = c.loop-rest.invariant.in_range;
        rest = c.loop-rest.rest.now;
        spelled = c.loop-rest.invariant.spelled;
        more = not_empty c.loop-rest.rest.now some;
        bad = unread_is_no_line c.loop-rest.rest.now (sym c.in_default.ensures);
      };
    }))

pub loop-rest-smaller : goal.loop-rest-smaller
loop-rest-smaller c = line_is_some c.in-Some.line c.loop-rest.rest.now c.in-Some.after.now (taken c).0 (taken c).1

pub loop-rest-preserved : goal.loop-rest-preserved
loop-rest-preserved c = record {
  in_range = rw c.in_ok-push.ensures.items (in_range-push c.loop-rest.lines.items c.in-Some.line c.loop-rest.invariant.in_range (taken c).0);
  spelled = rw c.in_ok-push.ensures.items (script_text-push c.loop-rest.lines.items c.in-Some.line c.loop-rest.rest.now c.in-Some.after.now c.args.bytes.now
      c.loop-rest.invariant.spelled (taken c).1);
}

pub returns-clause-ok : goal.returns-clause-ok
returns-clause-ok c =
    let none : length c.loop-rest.rest.now ≡ 0 = grind (arith, nat_tests, c.is_empty.ensures) in
    let whole : c.args.bytes.now ≡ script_text c.loop-rest.lines.items = c.loop-rest.invariant.spelled
    ∙ ap (λ r. script_text c.loop-rest.lines.items ++ r) (nothing_left c.loop-rest.rest.now none) ∙ append-nil (script_text c.loop-rest.lines.items) in
    rw c.from_vec.ensures (record {
      few = few_all c.loop-rest.lines.items c.args.bytes.now c.loop-rest.invariant.in_range whole
          (λ long. false≢true (sym c.if-has_too_many_lines.false ∙ c.has_too_many_lines.ensures.1 long));
      in_range = c.loop-rest.invariant.in_range;
      spelled = whole;
    })
