-- That nothing is left which a router could write (own rules).
use Rattle.std.specs.Prelude.{Bool, ◌&&◌, ◌||◌, not, List, length, is_some, nat_le, nat_lt, ◌==◌}
use Rattle.std.specs.List.{list_any, list_all}
use Rattle.capture_form.specs.Rules.{RuleSet}
use Rattle.flow_counts.specs.declared.profile.TheConstants.{RENEWAL_MARK}
use Rattle.trace_events.specs.Event.{Event, Link, Incoming}
use Rattle.trace_events.specs.declared.session.Session.{Session}
use Rattle.trace_events.specs.Session.{live_sessions}
use Rattle.trace_events.specs.Link.{is_producer, is_consumer, live_links}
use Rattle.trace_events.specs.Window.{session_window, given_window}
use Rattle.trace_events.specs.Credit.{link_credit}
use Rattle.trace_events.specs.Incoming.{address_of, incoming_deliveries, completed_before}
use Rattle.trace_events.specs.Outgoing as outgoing
use Rattle.trace_events.specs.Outgoing.{outgoing_deliveries, noted, next_delivery_id}
use Rattle.trace_events.specs.Waiting.{is_waiting}
use Rattle.trace_events.specs.Due.{is_unsent}
use Rattle.trace_events.specs.Settling.{is_to_settle}
use Rattle.trace_events.specs.Outcome.{is_to_tell}
use Rattle.trace_events.specs.FlowClause.{may_be_topped_up, may_be_drained}
use Rattle.trace_duties.specs.Pick.{eligible}

-- no delivery waits at an address with a link that may be sent it
abbrev pub none_waits_in_vain : RuleSet → List Event → Bool
none_waits_in_vain rules past =
    list_all (λ d. not (is_waiting rules d past) || length (eligible (address_of d past) past) == 0) (incoming_deliveries past)

-- no delivery to a consumer is in progress on a session with window
abbrev pub stands_still : List Event → Link → Bool
stands_still past l = is_consumer l && is_some (outgoing.in_progress l past) && nat_lt 0 (session_window l.session past)

abbrev pub none_stands_still : List Event → Bool
none_stands_still past = list_all (λ l. not (stands_still past l)) (live_links past)

-- no outcome could be told
abbrev pub none_is_untold : RuleSet → List Event → Bool
none_is_untold rules past = list_all (λ d. not (is_to_tell rules past d)) (incoming_deliveries past)

-- no producer's link is to be given more credit
abbrev pub none_lacks_credit : RuleSet → List Event → Bool
none_lacks_credit rules past = list_all (λ l. not (is_producer l && may_be_topped_up rules past l)) (live_links past)

-- no session is to be given its window anew
abbrev pub lacks_window : List Event → Session → Bool
lacks_window past s = nat_le (given_window s past) RENEWAL_MARK

abbrev pub none_lacks_window : List Event → Bool
none_lacks_window past = list_all (λ s. not (lacks_window past s)) (live_sessions past)

-- no consumer's link is draining while nothing waits for it, and has credit
abbrev pub none_is_undrained : RuleSet → List Event → Bool
none_is_undrained rules past = list_all (λ l. not (is_consumer l && may_be_drained rules past l)) (live_links past)

-- a copy that is due to a link stands behind an earlier unsent one or a delivery in progress, or the link has no window
-- or no credit
abbrev pub has_earlier_unsent : RuleSet → List Event → Link → Incoming → Bool
has_earlier_unsent rules past l d =
    list_any (λ before. completed_before before d past && is_unsent rules before l past) (incoming_deliveries past)

abbrev pub is_held_back : RuleSet → List Event → Link → Incoming → Bool
is_held_back rules past l d =
    has_earlier_unsent rules past l d || is_some (outgoing.in_progress l past)
    || session_window l.session past == 0 || link_credit l past == 0

-- each copy that is due to a live link is sent, or held back
abbrev pub copies_are_sent : RuleSet → List Event → Bool
copies_are_sent rules past =
    list_all (λ l. list_all (λ d. not (is_unsent rules d l past) || is_held_back rules past l d) (incoming_deliveries past)) (live_links past)

-- no delivery is to be settled with its consumer
abbrev pub none_is_unsettled : List Event → Bool
none_is_unsettled past = list_all (λ j. not (is_to_settle past j)) (outgoing_deliveries past)

-- nothing that can go waits
abbrev pub is_quiet : RuleSet → List Event → Bool
is_quiet rules past =
    none_waits_in_vain rules past && none_stands_still past && none_is_untold rules past
    && none_lacks_credit rules past && none_lacks_window past && none_is_undrained rules past
    && copies_are_sent rules past && none_is_unsettled past
