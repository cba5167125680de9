use Rattle.std.proofs.Common.{◌≡◌, [], List, ap, sym, subst}
use Rattle.contract_join.specs.SectionFronts.{SectionData, AreFrontsOf}
use Rattle.child_counter.specs.Closed.{ClosedData, AreSorted}
use Rattle.child_counter.proofs.Sorted.{fronts-of-all}
use Rattle.child_counter.proofs.closed.Closed.into_fronts.Goals as goal

pub returns-clause-all : goal.returns-clause-all
returns-clause-all c =
    let sorted = subst (λ (x : ClosedData). AreSorted x.net x.fronts x.refused) c.self.view_is c.self.invariant.0 in
    subst (λ (l : List SectionData). c.args.self.refused ≡ [] → AreFrontsOf c.args.self.net l)
    (sym (ap (λ (x : ClosedData). x.fronts) c.self.view_is)) (fronts-of-all _ _ _ sorted)
