use Rattle.std.proofs.Common.{◌≡◌, ◌∙◌, ◌++◌, ◌∷◌, [], ◌<◌, ◌≤◌, length, sym, ap, subst, arith}
use Rattle.fan_points.specs.declared.limits.TheConstants.{MAX_POINTS}
use Rattle.fan_points.specs.Fans.{IsFans, names_of}
use Rattle.fan_points.proofs.FansLaws.{names_of-push, IsFans-push, not_there}
use Rattle.fan_points.proofs.fans.Fans.with_fan.Goals as goal

pub invariant_of-result : goal.invariant_of-result
invariant_of-result c =
    let fans = c.self.inside.fans.items in
    let row = c.args.row in
    let more : c.push.new.self.items ≡ fans ++ row ∷ [] = c.in_ok-push.ensures.items in
    let names : c.add.new.self ≡ c.self.inside.names ++ row.name ∷ [] = rw c.if-not-branch.false at c.in_ok-add.ensures.names in
    let order : row.low ≤ row.high = omega (arith, c.if-row.false) in
    let room : length fans < MAX_POINTS = omega (arith, c.len.ensures, c.self.inside.fans.ok.0, c.if-len-ge-MAX_POINTS.false) in
    let new = not_there row.name c.self.inside.names fans c.self.invariant.names (rw c.if-not-branch.false at c.in_ok-add.ensures.value) in
    record {
      names = names ∙ ap (λ ns. ns ++ row.name ∷ []) c.self.invariant.names ∙ sym (names_of-push fans row) ∙ ap names_of (sym more);
      is = subst IsFans (sym more) (IsFans-push fans row c.self.invariant.is c.requires order new room);
    }

pub returns-clause-fans : goal.returns-clause-fans
returns-clause-fans c = (invariant_of-result c).is
