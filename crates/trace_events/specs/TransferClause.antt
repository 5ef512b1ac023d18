-- L4 to L9: transfers that the router writes.
use Rattle.std.specs.Prelude.{ℕ, Bool, true, false, ◌&&◌, ◌||◌, not, List, ◌++◌, Option, is_none, unwrap_or, option_and_then, find, bytes_eq, nat_lt, ◌==◌, if◌then◌else◌}
use Rattle.std.specs.List.{starts_with}
use Rattle.std.specs.Bool.{beq}
use Rattle.amqp_perf.specs.Meaning.{TransferFields, flag}
use Rattle.pairing_cert.specs.declared.note.Note.{Note}
use Rattle.pairing_cert.specs.declared.note.Note.TheVariants as notes
use Rattle.pairing_cert.specs.Notes.{why_octet}
use Rattle.capture_form.specs.Rules.{RuleSet}
use Rattle.trace_events.specs.Words.{is_some_and, is_none_or, is_number, where_passes}
use Rattle.trace_events.specs.Event.{Event, Link, Incoming, Outgoing}
use Rattle.trace_events.specs.declared.session.Session.{Session}
use Rattle.trace_events.specs.Link.{is_consumer}
use Rattle.trace_events.specs.Window.{session_window}
use Rattle.trace_events.specs.Credit.{link_credit, begins_outgoing}
use Rattle.trace_events.specs.Incoming as incoming
use Rattle.trace_events.specs.Incoming.{address_of, is_complete, completed_before}
use Rattle.trace_events.specs.Outgoing as outgoing
use Rattle.trace_events.specs.Outgoing.{outgoing_deliveries, is_on, next_delivery_id, names, noted, is_paired, is_named_on}
use Rattle.trace_events.specs.Waiting.{is_of_multicast, is_gone}
use Rattle.trace_events.specs.Due.{is_due}

-- ---- L4: on a consumer's live link, within the session's window (part 2 of the standard, section 2.5.6); it neither resumes
-- nor aborts a delivery

abbrev pub has_window : List Event → Session → Bool
has_window past s = nat_lt 0 (session_window s past)

abbrev pub has_link_and_window : Event → TransferFields → List Event → Bool
has_link_and_window e fields past =
    is_some_and e.link is_consumer && is_some_and e.session (has_window past)
    && not (flag fields.resume) && not (flag fields.aborted)

-- ---- L5: a delivery that begins has credit (2.6.7) and the next delivery-id

abbrev pub has_credit_and_next_id : Link → TransferFields → List Event → Bool
has_credit_and_next_id l fields past =
    nat_lt 0 (link_credit l past) && is_number fields.delivery_id (next_delivery_id l.session past)

-- ---- what L4 to L6 ask before a delivery may begin: a consumer's live link has credit, its session has window, and nothing is
-- in progress

abbrev pub may_take : List Event → Link → Bool
may_take past l = nat_lt 0 (link_credit l past) && has_window past l.session && is_none (outgoing.in_progress l past)

-- ---- L6: a later transfer has no id, no settled flag, or those of the first (2.7.5), and its note

abbrev pub is_same_note : Note → Note → Bool
is_same_note notes.None notes.None = true
is_same_note (notes.Pair n) (notes.Pair m) = n == m
is_same_note (notes.Told why) (notes.Told other) = why_octet why == why_octet other
is_same_note _ _ = false

abbrev pub goes_on_with : Outgoing → Note → TransferFields → Bool
goes_on_with j note fields =
    is_none_or fields.delivery_id (λ id. is_number j.id id) && is_none_or fields.settled (λ settled. beq settled j.is_settled)
    && is_same_note note j.note

-- ---- L7: the incoming delivery that the note names may go to the link

-- the delivery that a note names, where it may go to consumers: it is complete, and not gone
abbrev pub to_carry : RuleSet → Note → List Event → Option Incoming
to_carry rules note past = where_passes (λ d. is_complete d past && not (is_gone rules d past)) (noted note past)

-- the first transfer has its message-format, 0 where it is absent, and is settled just on a pre-settled link
abbrev pub has_form : Incoming → Link → TransferFields → Bool
has_form d l fields = unwrap_or fields.message_format 0 == d.format && beq (flag fields.settled) l.is_pre_settled

-- it has the link's address, and where it begins there its form
abbrev pub has_address_and_form : Event → Link → TransferFields → List Event → Incoming → Bool
has_address_and_form e l fields past d =
    bytes_eq (address_of d past) l.address && (not (begins_outgoing e) || has_form d l fields)

abbrev pub names_what_may_go : RuleSet → Event → TransferFields → List Event → Link → Bool
names_what_may_go rules e fields past l = is_some_and (to_carry rules e.note past) (has_address_and_form e l fields past)

-- ---- L8: the payloads so far are the first octets of that delivery's payload, and at the last transfer all of it

abbrev pub is_payload_so_far : Bool → List ℕ → List ℕ → Bool
is_payload_so_far more whole so_far = if more then starts_with ◌==◌ whole so_far else bytes_eq whole so_far

abbrev pub carries : Outgoing → TransferFields → List ℕ → List Event → Incoming → Bool
carries j fields octets past d =
    is_payload_so_far (flag fields.more) (incoming.payload d past) (outgoing.payload j past ++ octets)

abbrev pub carries_its_octets : RuleSet → Event → TransferFields → List ℕ → List Event → Bool
carries_its_octets rules e fields octets past =
    is_some_and (to_carry rules e.note past) (λ d. is_some_and e.outgoing (λ j. carries j fields octets past d))

-- ---- L9: to one consumer, or once to each that it is due to; on each link in the order of completion

-- the incoming delivery that the last one begun on the link carries
abbrev pub carried_before : Link → List Event → Option Incoming
carried_before l past = option_and_then (λ j. noted j.note past) (find (is_on l) (outgoing_deliveries past))

abbrev pub goes_to_one_or_is_due : RuleSet → Link → List Event → Incoming → Bool
goes_to_one_or_is_due rules l past d =
    if is_of_multicast rules d past then not (is_named_on d l past) && is_due rules d l past else not (is_paired d past)

abbrev pub is_in_order : Link → List Event → Incoming → Bool
is_in_order l past d = is_none_or (carried_before l past) (λ before. completed_before before d past)

abbrev pub goes_once_and_in_order : RuleSet → Event → List Event → Link → Bool
goes_once_and_in_order rules e past l =
    is_some_and (to_carry rules e.note past) (λ d. goes_to_one_or_is_due rules l past d && is_in_order l past d)
