-- What records do to sessions and links, and what they come to: examples that hold, and ones beside them that do not.
use Rattle.std.proofs.Common.{◌≡◌, ℕ, Bool, true, false, List, [], ◌∷◌, Option, None, Some, refl}
use Rattle.amqp_perf.specs.declared.begin.Begin.{Begin}
use Rattle.amqp_perf.specs.declared.flow.Flow.{Flow}
use Rattle.amqp_perf.specs.declared.attach.Role.TheVariants.{Sender}
use Rattle.amqp_perf.specs.Meaning.{AttachFields, DetachFields, TransferFields, ABegin, AnAttach, AFlow, ATransfer, ADetach, AnEnd}
use Rattle.amqp_perf.specs.Nested.{TargetFields, TerminusFields}
use Rattle.capture_view.specs.declared.names.ChannelKey.{ChannelKey}
use Rattle.capture_view.specs.Saying.{NoBody, Says}
use Rattle.capture_view.specs.Viewed.{In, Out, Opened as AnOpening}
use Rattle.refusal_words.specs.declared.session.Opened.{Opened}
use Rattle.refusal_words.specs.declared.session.Windowed.{Windowed}
use Rattle.refusal_words.specs.declared.link.Credited.{Credited}
use Rattle.refusal_words.specs.declared.link.Change.TheVariants.{Credit, Transfer, Drain}
use Rattle.refusal_words.specs.Session.{SessionEvent, AnyEnd, Changes, OurBegin, OurTransfer, TheirBegin, TheirFlow, began, event_by, heard, last_begin, lives, opened, sent, session_of, window, written}
use Rattle.refusal_words.specs.Link as links
use Rattle.refusal_words.specs.Link.{LinkEvent, OurAttach, Over, attached, attached_in, begun, credit, credit_granted, drain_answered, drained, heard_of_handle, heard_of_link, in_progress, link_by, link_of, name, written_of_handle, written_of_link}

-- ---- what a record does to the session on a channel

abbrev channel : ℕ → ℕ → ChannelKey
channel connection number = record { connection = connection; channel = number }

abbrev a_begin : ℕ → Begin
a_begin transfers = record { remote_channel = None; next_outgoing_id = 0; incoming_window = transfers; outgoing_window = 9; handle_max = None }

-- a flow of the link on a handle, or of none
abbrev a_flow : Option ℕ → Option ℕ → Option Bool → Flow
a_flow handle granted drain = record {
  next_incoming_id = Some 4;
  incoming_window = 6;
  next_outgoing_id = 0;
  outgoing_window = 9;
  handle = handle;
  delivery_count = Some 2;
  link_credit = granted;
  drain = drain;
  echo = None;
}

their_begin : heard 7 (ABegin (a_begin 5)) ≡ Some (TheirBegin 7 (a_begin 5))
their_begin = refl

our_begin : written 7 (ABegin (a_begin 5)) ≡ Some (OurBegin 7)
our_begin = refl

-- a flow of the client's opens the window, one of the router's does not
their_flow : (flow : Flow) → heard 7 (AFlow flow) ≡ Some (Changes (TheirFlow 7 flow))
their_flow flow = refl

our_flow : (flow : Flow) → written 7 (AFlow flow) ≡ None
our_flow flow = refl

-- a transfer of the router's is counted, one of the client's is not
our_transfer : (fields : TransferFields) → written 7 (ATransfer fields) ≡ Some (Changes OurTransfer)
our_transfer fields = refl

their_transfer : (fields : TransferFields) → heard 7 (ATransfer fields) ≡ None
their_transfer fields = refl

either_end : (heard 7 (AnEnd None) ≡ Some AnyEnd) × (written 7 (AnEnd None) ≡ Some AnyEnd)
either_end = (refl, refl)

-- on its channel, on another one, in a frame without a body, and where a connection opens
here : (flow : Flow) → event_by (channel 1 2) 7 1 (In (Says 2 (AFlow flow) [])) ≡ Some (Changes (TheirFlow 7 flow))
here flow = refl

elsewhere : (flow : Flow) → event_by (channel 1 2) 7 1 (In (Says 3 (AFlow flow) [])) ≡ None
elsewhere flow = refl

on_other_connection : (flow : Flow) → event_by (channel 1 2) 7 4 (In (Says 2 (AFlow flow) [])) ≡ None
on_other_connection flow = refl

by_router : (flow : Flow) → event_by (channel 1 2) 7 1 (Out (Says 2 (AFlow flow) [])) ≡ None
by_router flow = refl

of_empty : event_by (channel 1 2) 7 1 (In (NoBody 2)) ≡ None
of_empty = refl

of_opening : event_by (channel 1 2) 7 1 AnOpening ≡ None
of_opening = refl

-- ---- what the events of a channel come to

abbrev begin_in : ℕ → ℕ → Opened
begin_in number transfers = record { number = number; incoming_window = transfers }

abbrev flow_in : ℕ → Windowed
flow_in number = record { number = number; next_incoming_id = Some 4; incoming_window = 6 }

abbrev told_flow : Flow
told_flow = a_flow None None None

-- the client begins in record 3, and the router in record 4
abbrev started : List SessionEvent
started = OurBegin 4 ∷ TheirBegin 3 (a_begin 5) ∷ []

-- the last begin of the client's, not one before it
last_of_two : last_begin (TheirBegin 9 (a_begin 8) ∷ started) ≡ Some (begin_in 9 8)
last_of_two = refl

lives_begun : lives started ≡ true
lives_begun = refl

lives_asked : lives (TheirBegin 3 (a_begin 5) ∷ []) ≡ false
lives_asked = refl

lives_ended : lives (AnyEnd ∷ started) ≡ false
lives_ended = refl

ended_is_told_nowhere : session_of (AnyEnd ∷ started) ≡ None
ended_is_told_nowhere = refl

in_its_record : began started ≡ 4
in_its_record = refl

anew_in_its_record : began (OurBegin 8 ∷ AnyEnd ∷ started) ≡ 8
anew_in_its_record = refl

-- the client's begin in front of the router's opens it, one behind it does not
opened_by : opened started ≡ Some (begin_in 3 5)
opened_by = refl

not_opened_by_later : opened (TheirBegin 9 (a_begin 8) ∷ started) ≡ Some (begin_in 3 5)
not_opened_by_later = refl

-- the last flow since the router's begin counts; one in front of it does not
window_of_flow : window (Changes (TheirFlow 7 told_flow) ∷ Changes (TheirFlow 6 told_flow) ∷ started) ≡ Some (flow_in 7)
window_of_flow = refl

no_window_yet : window started ≡ None
no_window_yet = refl

window_of_earlier_session : window (OurBegin 9 ∷ AnyEnd ∷ Changes (TheirFlow 7 told_flow) ∷ started) ≡ None
window_of_earlier_session = refl

-- transfers are counted from the begin, and from a flow anew
two_sent : sent (Changes OurTransfer ∷ Changes OurTransfer ∷ started) ≡ 2
two_sent = refl

one_sent_since : sent (Changes OurTransfer ∷ Changes (TheirFlow 7 told_flow) ∷ Changes OurTransfer ∷ started) ≡ 1
one_sent_since = refl

none_sent_by_next : sent (OurBegin 9 ∷ AnyEnd ∷ Changes OurTransfer ∷ started) ≡ 0
none_sent_by_next = refl

all_told : session_of (Changes OurTransfer ∷ Changes (TheirFlow 7 told_flow) ∷ started)
    ≡ Some (record { number = 4; opened = Some (begin_in 3 5); window = Some (flow_in 7); sent = 1 })
all_told = refl

-- ---- what a record does to the link on a handle

abbrev granted_in : ℕ → ℕ → Bool → Credited
granted_in number many drain = record { number = number; delivery_count = Some 2; link_credit = many; drain = drain }

-- a flow grants credit where it has a handle and a link-credit
grants : credit_granted 7 (a_flow (Some 3) (Some 5) (Some true)) ≡ Some (3, granted_in 7 5 true)
grants = refl

grants_none_without_handle : credit_granted 7 (a_flow None (Some 5) None) ≡ None
grants_none_without_handle = refl

grants_none_without_credit : credit_granted 7 (a_flow (Some 3) None None) ≡ None
grants_none_without_credit = refl

credit_here : heard_of_handle 3 7 (AFlow (a_flow (Some 3) (Some 5) None)) ≡ Some (links.Changes (Credit (granted_in 7 5 false)))
credit_here = refl

credit_of_other_handle : heard_of_handle 2 7 (AFlow (a_flow (Some 3) (Some 5) None)) ≡ None
credit_of_other_handle = refl

-- a flow of the router's grants nothing; it answers a drain where it says so and no credit is left
answers : drain_answered (a_flow (Some 3) (Some 0) (Some true)) ≡ Some 3
answers = refl

answers_none_with_credit : drain_answered (a_flow (Some 3) (Some 1) (Some true)) ≡ None
answers_none_with_credit = refl

answers_none_without_drain : drain_answered (a_flow (Some 3) (Some 0) None) ≡ None
answers_none_without_drain = refl

answer_here : written_of_handle 3 7 (AFlow (a_flow (Some 3) (Some 0) (Some true))) ≡ Some (links.Changes (Drain 7))
answer_here = refl

answer_of_other_handle : written_of_handle 2 7 (AFlow (a_flow (Some 3) (Some 0) (Some true))) ≡ None
answer_of_other_handle = refl

our_flow_grants_none : written_of_handle 3 7 (AFlow (a_flow (Some 3) (Some 5) None)) ≡ None
our_flow_grants_none = refl

-- an attach opens a link where it has a source and a target, and the router writes it
abbrev an_attach : Option TerminusFields → Option TargetFields → AttachFields
an_attach source target = record {
  name = 114 ∷ [];
  handle = 3;
  role = Sender;
  snd_settle_mode = None;
  rcv_settle_mode = None;
  source = source;
  target = target;
  initial_delivery_count = None;
  max_message_size = None;
}

attaches : (source : TerminusFields) (target : TargetFields)
    → written_of_handle 3 7 (AnAttach (an_attach (Some source) (Some target))) ≡ Some (OurAttach 7 (114 ∷ []))
attaches source target = refl

attaches_other_handle : (source : TerminusFields) (target : TargetFields) → written_of_handle 2 7 (AnAttach (an_attach (Some source) (Some target))) ≡ None
attaches_other_handle source target = refl

refuses_without_source : (target : TargetFields) → written_of_handle 3 7 (AnAttach (an_attach None (Some target))) ≡ None
refuses_without_source target = refl

refuses_without_target : (source : TerminusFields) → written_of_handle 3 7 (AnAttach (an_attach (Some source) None)) ≡ None
refuses_without_target source = refl

their_attach : (fields : AttachFields) → heard_of_handle 3 7 (AnAttach fields) ≡ None
their_attach fields = refl

abbrev a_transfer : Option Bool → TransferFields
a_transfer more = record { handle = 3; delivery_id = None; delivery_tag = None; message_format = None; settled = None; more = more; resume = None; aborted = None }

sends : written_of_handle 3 7 (ATransfer (a_transfer (Some true))) ≡ Some (links.Changes (Transfer true))
sends = refl

sends_last : written_of_handle 3 7 (ATransfer (a_transfer None)) ≡ Some (links.Changes (Transfer false))
sends_last = refl

sends_on_other_handle : written_of_handle 2 7 (ATransfer (a_transfer None)) ≡ None
sends_on_other_handle = refl

they_send : heard_of_handle 3 7 (ATransfer (a_transfer None)) ≡ None
they_send = refl

abbrev a_detach : DetachFields
a_detach = record { handle = 3; closed = None; error = None }

detaches : (heard_of_handle 3 7 (ADetach a_detach) ≡ Some Over) × (written_of_handle 3 7 (ADetach a_detach) ≡ Some Over)
detaches = (refl, refl)

detaches_other_handle : (heard_of_handle 2 7 (ADetach a_detach) ≡ None) × (written_of_handle 2 7 (ADetach a_detach) ≡ None)
detaches_other_handle = (refl, refl)

-- an end in either direction leaves no link, a begin of the router's neither; one of the client's does nothing to links
session_over : (heard_of_link 3 7 (AnEnd None) ≡ Some Over) × (written_of_link 3 7 (AnEnd None) ≡ Some Over)
session_over = (refl, refl)

session_anew : written_of_link 3 7 (ABegin (a_begin 5)) ≡ Some Over
session_anew = refl

session_asked : heard_of_link 3 7 (ABegin (a_begin 5)) ≡ None
session_asked = refl

link_here : link_by (channel 1 2) 3 7 1 (In (Says 2 (ADetach a_detach) [])) ≡ Some Over
link_here = refl

link_elsewhere : link_by (channel 1 2) 3 7 1 (In (Says 4 (ADetach a_detach) [])) ≡ None
link_elsewhere = refl

link_of_empty : link_by (channel 1 2) 3 7 1 (In (NoBody 2)) ≡ None
link_of_empty = refl

-- ---- what the events of a handle come to

abbrev made : List LinkEvent
made = OurAttach 6 (114 ∷ []) ∷ []

abbrev granting : ℕ → LinkEvent
granting number = links.Changes (Credit (granted_in number 5 false))

abbrev part : LinkEvent
part = links.Changes (Transfer true)

abbrev last_part : LinkEvent
last_part = links.Changes (Transfer false)

lives_attached : attached (granting 7 ∷ made) ≡ true
lives_attached = refl

lives_detached : attached (Over ∷ made) ≡ false
lives_detached = refl

lives_never : attached (granting 7 ∷ []) ≡ false
lives_never = refl

detached_is_told_nowhere : link_of (Over ∷ made) ≡ None
detached_is_told_nowhere = refl

attached_there : attached_in (granting 7 ∷ made) ≡ 6
attached_there = refl

attached_anew : attached_in (OurAttach 9 (115 ∷ []) ∷ Over ∷ made) ≡ 9
attached_anew = refl

named : name (granting 7 ∷ made) ≡ 114 ∷ []
named = refl

named_anew : name (OurAttach 9 (115 ∷ []) ∷ Over ∷ made) ≡ 115 ∷ []
named_anew = refl

-- the last credit since the attach counts; one in front of it does not
credit_of_flow : credit (granting 8 ∷ granting 7 ∷ made) ≡ Some (granted_in 8 5 false)
credit_of_flow = refl

no_credit_yet : credit made ≡ None
no_credit_yet = refl

credit_of_earlier_link : credit (OurAttach 9 (114 ∷ []) ∷ Over ∷ granting 7 ∷ made) ≡ None
credit_of_earlier_link = refl

-- the last transfer says whether another part follows
goes_on : in_progress (part ∷ made) ≡ true
goes_on = refl

is_whole : in_progress (last_part ∷ part ∷ made) ≡ false
is_whole = refl

is_left_behind : in_progress (OurAttach 9 (114 ∷ []) ∷ Over ∷ part ∷ made) ≡ false
is_left_behind = refl

-- a delivery is counted once, however many parts it has; a credit starts the count anew, amid a delivery too
one_begun : begun (last_part ∷ part ∷ part ∷ made) ≡ 1
one_begun = refl

two_begun : begun (part ∷ last_part ∷ made) ≡ 2
two_begun = refl

none_begun_since : begun (granting 7 ∷ last_part ∷ made) ≡ 0
none_begun_since = refl

none_begun_amid : begun (last_part ∷ granting 7 ∷ part ∷ made) ≡ 0
none_begun_amid = refl

one_begun_since : begun (last_part ∷ granting 7 ∷ last_part ∷ made) ≡ 1
one_begun_since = refl

none_begun_by_next : begun (OurAttach 9 (114 ∷ []) ∷ Over ∷ last_part ∷ made) ≡ 0
none_begun_by_next = refl

-- an answer to a drain counts until more credit is granted
drain_answered_in : drained (links.Changes (Drain 8) ∷ granting 7 ∷ made) ≡ Some 8
drain_answered_in = refl

drain_of_earlier_credit : drained (granting 9 ∷ links.Changes (Drain 8) ∷ granting 7 ∷ made) ≡ None
drain_of_earlier_credit = refl

drain_of_earlier_link : drained (OurAttach 9 (114 ∷ []) ∷ Over ∷ links.Changes (Drain 8) ∷ made) ≡ None
drain_of_earlier_link = refl

link_told_whole : link_of (part ∷ granting 7 ∷ made)
    ≡ Some (record { number = 6; name = 114 ∷ []; credit = Some (granted_in 7 5 false); begun = 1; drained = None; in_progress = true })
link_told_whole = refl
