-- That deliveries go to each link in the order in which they were completed, so that whatever is due may be sent (own rule).
use Rattle.std.specs.Prelude.{◌≡◌, Bool, true, ◌||◌, not, List, Some}
use Rattle.capture_form.specs.Rules.{RuleSet}
use Rattle.trace_events.specs.Words.{is_none_or}
use Rattle.trace_events.specs.Event.{Event, Link, Incoming}
use Rattle.trace_events.specs.Link.{is_live, link_at}
use Rattle.trace_events.specs.Credit.{begins_outgoing}
use Rattle.trace_events.specs.Outgoing.{noted}
use Rattle.trace_events.specs.Due.{is_unsent}
use Rattle.trace_events.specs.TransferClause.{is_in_order}
use Rattle.trace_duties.specs.Quiet.{has_earlier_unsent}

-- each copy that is due to a live link and unsent may go there by the order of completion: the delivery that the last one
-- begun on the link carries was completed before it
abbrev pub CopiesInOrder : RuleSet → List Event → Type 0
CopiesInOrder rules past =
    (l : Link) (d : Incoming) → link_at l.number past ≡ Some l → is_live past l ≡ true → is_unsent rules d l past ≡ true → is_in_order l past d ≡ true

-- a delivery that begins on a link carries one behind none of the link's unsent copies
abbrev pub is_earliest : RuleSet → Event → List Event → Bool
is_earliest rules e past =
    not (begins_outgoing e) || is_none_or (noted e.note past) (λ d. is_none_or e.link (λ l. not (has_earlier_unsent rules past l d)))
