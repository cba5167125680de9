use Rattle.std.proofs.Common.{◌+◌, ◌≤◌}
use Rattle.loss_listing.proofs.ListingLaws.{IsAnsweredTo}
use Rattle.loss_listing.proofs.listing.listing_of.Given as goal

-- no more rows than turns were read behind the header, and each was answered
abbrev pub invariant-loop : goal.invariant-loop
invariant-loop l = record {
  few : l.rows.number ≤ l.counter + 1;
  answered : IsAnsweredTo l.catalogues l.questions l.rows l.text;
}
