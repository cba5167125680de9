use Rattle.std.proofs.Common.{◌≡◌, ◌∙◌, sym, ap, List, Some, length, ◌-◌, slice_get, false}
use Rattle.std.specs.Prelude.{nat_lt, nat_le, ◌&&◌}
use Rattle.std.proofs.lemmas.Bool.{lt-ltb, le-ltb}
use Rattle.friction_table.specs.declared.row.FlowRate.{FlowRate}
use Rattle.friction_table.specs.Rates.{last_of, may_follow_last}
use Rattle.friction_table.proofs.RisingLaws.{last_of-slice_get}
use Rattle.friction_table.proofs.table.RateTable.may_follow.Goals as goal

pub returns-then-last-row : goal.returns-then-last-row
returns-then-last-row c =
    let rows : c.deref.result.now ≡ c.args.self.now = c.deref.ensures.value ∙ c.self.view_is in
    let last : Some c.in-Some.last.now ≡ last_of c.args.self.now =
    c.in-Some.ensures.value ∙ ap (λ (rs : List FlowRate). slice_get rs (length rs - 1)) rows ∙ sym (last_of-slice_get c.args.self.now) in
    ap (λ b. b && nat_le c.in-Some.last.now.rate c.args.row.rate) (sym (lt-ltb c.in-Some.last.now.flow c.args.row.flow c.if-last-row.true))
    ∙ ap (λ o. may_follow_last o c.args.row) last

pub returns-else-last-row : goal.returns-else-last-row
returns-else-last-row c =
    let rows : c.deref.result.now ≡ c.args.self.now = c.deref.ensures.value ∙ c.self.view_is in
    let last : Some c.in-Some.last.now ≡ last_of c.args.self.now =
    c.in-Some.ensures.value ∙ ap (λ (rs : List FlowRate). slice_get rs (length rs - 1)) rows ∙ sym (last_of-slice_get c.args.self.now) in
    let not_above : nat_lt c.in-Some.last.now.flow c.args.row.flow ≡ false = le-ltb c.in-Some.last.now.flow c.args.row.flow c.if-last-row.false in
    not_above
    ∙ ap (λ b. b && nat_le c.in-Some.last.now.rate c.args.row.rate) (sym not_above)
    ∙ ap (λ o. may_follow_last o c.args.row) last
