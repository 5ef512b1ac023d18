-- Which delivery the router settles with its consumer, and which one an outcome is told of (part 2 of the standard,
-- section 2.6.12; own rules).
use Rattle.std.specs.Prelude.{ℕ, Bool, ◌&&◌, ◌||◌, not, List, Option, is_some, find, reverse, ◌==◌}
use Rattle.capture_form.specs.Rules.{RuleSet}
use Rattle.trace_events.specs.Words.{is_some_and, is_number}
use Rattle.trace_events.specs.Event.{Event, Incoming, Outgoing}
use Rattle.trace_events.specs.declared.session.Session.{Session}
use Rattle.trace_events.specs.Link.{is_live}
use Rattle.trace_events.specs.Incoming.{incoming_deliveries, is_settled, is_told}
use Rattle.trace_events.specs.Outgoing.{outgoing_deliveries, noted, decision, is_settled_by_consumer, is_settled_by_router}
use Rattle.trace_events.specs.Waiting.{is_undecided_of}

-- nothing more is to be told of an incoming delivery: it is told, settled, or of a link that is over
abbrev pub is_closed : List Event → Incoming → Bool
is_closed past d = is_told d past || is_settled d past || not (is_live past d.link)

-- the router is to settle the delivery: its link lives, its consumer has decided and settled nothing, the router hasn't
-- settled it, and nothing more is to be told of what it carries
abbrev pub is_to_settle : List Event → Outgoing → Bool
is_to_settle past j =
    is_live past j.link && is_some (decision j past) && not (is_settled_by_consumer j past)
    && not (is_settled_by_router j past) && is_some_and (noted j.note past) (is_closed past)

-- the earliest such delivery of the id on the session
abbrev pub to_settle : Session → ℕ → List Event → Option Outgoing
to_settle s id past =
    find (λ j. j.link.session.number == s.number && is_number j.id id && is_to_settle past j) (reverse (outgoing_deliveries past))

-- the undecided delivery of the id on the session, whose outcome may be told
abbrev pub to_tell : RuleSet → Session → ℕ → List Event → Option Incoming
to_tell rules s id past = find (is_undecided_of rules s id past) (incoming_deliveries past)
