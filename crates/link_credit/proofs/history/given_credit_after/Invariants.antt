use Rattle.std.proofs.Common.{◌≡◌, take, reverse, IsTrue}
use Rattle.link_credit.specs.GivenCounts.{counted}
use Rattle.link_credit.specs.ProducerHistory.{link_events, stays_within}
use Rattle.link_credit.proofs.history.given_credit_after.Given as goal

abbrev pub invariant-loop-event : goal.invariant-loop-event
invariant-loop-event l = record {
  counted : l.credit ≡ counted l.first_count (link_events l.first_count (reverse (take l.event-index l.events)));
  kept : IsTrue (stays_within l.first_count (reverse (take l.event-index l.events)));
}
