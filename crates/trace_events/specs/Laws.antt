-- What the law amounts to, in the words of what it is for.
use Rattle.std.specs.Prelude.{◌≡◌, ◌≤◌, true, List, Option, Some, None}
use Rattle.flow_counts.specs.Window.{sent_since_flow, granted_window}
use Rattle.flow_counts.specs.Credit.{begun_since_grant, granted_credit}
use Rattle.trace_events.specs.Event.{Event, Link}
use Rattle.trace_events.specs.declared.session.Session.{Session}
use Rattle.trace_events.specs.Link.{is_consumer}
use Rattle.trace_events.specs.Credit.{link_events}
use Rattle.trace_events.specs.Window.{window_events}

-- the transfers sent on it since its client's last flow, or its begin, are no more than that granted, less what was
-- under way
abbrev pub IsWithinWindow : List Event → Option Session → Type 0
IsWithinWindow past None = Unit {0}
IsWithinWindow past (Some s) =
    sent_since_flow (window_events s past) ≤ granted_window s.our_first_id s.their_window (window_events s past)

-- the deliveries begun on a consumer's link since its client last gave credit are no more than that credit, less what
-- was under way
abbrev pub IsWithinCredit : List Event → Option Link → Type 0
IsWithinCredit past None = Unit {0}
IsWithinCredit past (Some l) =
    is_consumer l ≡ true → begun_since_grant (link_events l past) ≤ granted_credit l.our_first_count (link_events l past)
