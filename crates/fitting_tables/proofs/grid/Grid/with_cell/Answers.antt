use Rattle.std.proofs.Common.{◌≡◌, ◌∙◌, ◌++◌, ◌∷◌, [], List, None, sym, ap, subst}
use Rattle.std.specs.List.{position_from}
use Rattle.fitting_tables.specs.declared.row.Cell.{Cell}
use Rattle.fitting_tables.specs.Breakpoints.{with_breakpoint}
use Rattle.fitting_tables.specs.Cells.{areas_of, flows_of, is_at, refusal_of, IsGrid}
use Rattle.fitting_tables.proofs.CellLaws.{areas_of-push, flows_of-push, places-push, allowed, IsGrid-push}
use Rattle.fitting_tables.proofs.grid.Grid.with_cell.Goals as goal

pub invariant_of-result : goal.invariant_of-result
invariant_of-result c =
    let cells = c.self.inside.cells.items in
    let cell = c.args.cell in
    let more : c.push.new.self.items ≡ cells ++ cell ∷ [] = c.in_ok-push.ensures.items in
    let none = subst (λ (cs : List Cell). refusal_of cell cs ≡ None) (sym c.self.view_is) c.requires.allowed in
    record {
      areas = c.in_ok-add.ensures.ok ∙ ap (with_breakpoint cell.area) c.self.invariant.areas ∙ sym (areas_of-push cells cell) ∙ ap areas_of (sym more);
      flows = c.in_ok-add-2.ensures.ok ∙ ap (with_breakpoint cell.flow) c.self.invariant.flows ∙ sym (flows_of-push cells cell) ∙ ap flows_of (sym more);
      places = λ area flow.
          places-push cells cell c.self.inside.places c.insert.new.self c.len.result area flow (c.self.invariant.places area flow) (allowed cell cells none).absent c.in_ok-insert.ensures.updates (c.len.ensures ∙ c.self.inside.cells.ok.0)
          ∙ ap (position_from (is_at area flow) 0) (sym more);
      is = subst IsGrid (sym more) (IsGrid-push cells cell c.self.invariant.is c.requires.bounds none);
    }
