use Rattle.std.proofs.Common.{◌≡◌, ◌+◌, arith, ap, sym, ◌∙◌, subst, Some, List, Option, Vec, Global}
use Rattle.std.specs.Prelude.{slice_get}
use Rattle.std.specs.Option.{ForSome}
use Rattle.duct_definitions.specs.Tree.{children}
use Rattle.pareto_front.specs.declared.point.Point.{Point}
use Rattle.contract_join.specs.declared.join.Join.TheInside.{Inside}
use Rattle.contract_join.specs.Join.{Joining, IsAdding}
use Rattle.contract_join.specs.SectionFronts.{SectionData}
use Rattle.contract_join.proofs.Children.{TakesChild, next-beside, next-room, next-few, next-added}
use Rattle.contract_join.proofs.join.Join.add.Goals as goal

abbrev joining : Inside → Joining
joining own = record { net = own.net.now; section = own.section; added = own.added }

-- the sums that are there, and the child that is the next one, of the fields that the value was opened to
takes : (own : Inside) (now : Joining) (child : SectionData) (sums : Vec (List (List Point)) Global) (o : Option (Vec (List (List Point)) Global))
    → ForSome own.sums (λ x. IsAdding own.net.now own.section own.added x.items) → o ≡ own.sums → o ≡ Some sums
    → joining own ≡ now → slice_get (children now.net.tree now.section) now.added ≡ Some child.section → child.net ≡ now.net
    → TakesChild own.net.now own.section own.added sums.items child
takes own now child sums o each was is same next same_net = record {
  adding = each sums (sym was ∙ is);
  next = subst (λ (v : Joining). slice_get (children v.net.tree v.section) v.added ≡ Some child.section) (sym same) next;
  same_net = same_net ∙ sym (ap (λ (v : Joining). v.net) same);
}

pub with_child-requires-clause-beside : goal.with_child-requires-clause-beside
with_child-requires-clause-beside c =
    let own : Inside = c.self.inside in
    next-beside own.net.now own.section own.added c.in-Some.sums.items c.args.child.now
    (takes own c.args.self.now c.args.child.now c.in-Some.sums c.take.result c.self.invariant c.take.ensures.value c.in-Some.is
    c.self.view_is c.requires.next c.requires.network)

pub with_child-requires-clause-room : goal.with_child-requires-clause-room
with_child-requires-clause-room c =
    let own : Inside = c.self.inside in
    next-room own.net.now own.section own.added c.in-Some.sums.items c.args.child.now
    (takes own c.args.self.now c.args.child.now c.in-Some.sums c.take.result c.self.invariant c.take.ensures.value c.in-Some.is
    c.self.view_is c.requires.next c.requires.network)

pub overflow_add-self : goal.overflow_add-self
overflow_add-self c =
    let own : Inside = c.self.inside in
    let few = next-few own.net.now own.section own.added c.in-Some.sums.items c.args.child.now
    (takes own c.args.self.now c.args.child.now c.in-Some.sums c.take.result c.self.invariant c.take.ensures.value c.in-Some.is
    c.self.view_is c.requires.next c.requires.network) in
    omega arith

pub invariant_of-self-2 : goal.invariant_of-self-2
invariant_of-self-2 c sums is =
    let own : Inside = c.self.inside in
    let same : c.in_ok-sums.sums ≡ sums = cc in
    subst (λ (v : Vec (List (List Point)) Global). IsAdding own.net.now own.section (own.added + 1) v.items) same
    (next-added own.net.now own.section own.added c.in-Some.sums.items c.args.child.now
    (takes own c.args.self.now c.args.child.now c.in-Some.sums c.take.result c.self.invariant c.take.ensures.value c.in-Some.is
    c.self.view_is c.requires.next c.requires.network) c.in_ok-sums.sums.items c.in_ok-sums.ensures)
