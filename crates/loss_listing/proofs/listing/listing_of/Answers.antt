use Rattle.std.proofs.Common.{◌≡◌, [], ◌∷◌, sym, subst, arith}
use Rattle.std.specs.Prelude.{codes}
use Rattle.file_definitions.specs.Rows.{rows_of}
use Rattle.csv_fields.specs.RowsLeft.{IsNextRow, HasEnded}
use Rattle.loss_listing.specs.Listing.{IsListing}
use Rattle.loss_listing.proofs.ListingLaws.{header_first, starts, goes_on, ends}
use Rattle.loss_listing.proofs.listing.listing_of.Goals as goal

pub loop-init : goal.loop-init
loop-init c = record {
  few = omega (arith, header_first (codes "question" ∷ []) (rows_of c.args.questions.now) c.in_ok-rows.rows c.in_ok-rows.ensures);
  answered = starts c.args.catalogues.now c.args.questions.now c.in_ok-rows.rows c.new-text.result c.in_ok-rows.ensures c.new-text.ensures;
}

pub loop-preserved : goal.loop-preserved
loop-preserved c =
    let next : IsNextRow c.loop.rows c.advance.new.self = rw c.if-not-branch.false at c.in_ok-advance.ensures.row in
    record {
      few = omega (arith, next.counted, c.loop.invariant.few);
      answered = goes_on c.args.catalogues.now c.args.questions.now c.loop.rows c.advance.new.self c.loop.text c.add_answer.new.text c.in-Some.answer c.loop.invariant.answered next (sym c.in-Some.ensures) c.in_ok-add_answer-in-Some.ensures;
    }

pub returns-then-not-branch : goal.returns-then-not-branch
returns-then-not-branch c =
    let over : (c.loop.rows.left ≡ []) × HasEnded c.loop.rows c.advance.new.self = rw c.if-not-branch.true at c.in_ok-advance.ensures.row in
    subst (IsListing c.args.catalogues.now c.args.questions.now) (sym c.into_list.ensures) (ends c.args.catalogues.now c.args.questions.now c.loop.rows c.loop.text c.loop.invariant.answered over.0)
