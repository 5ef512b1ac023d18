-- The link of a handle (part 2 of the standard, section 2.6).
use Rattle.std.specs.Prelude.{ℕ, Bool, true, false, ◌&&◌, ◌||◌, List, [], ◌∷◌, length, Option, Some, None, IfSome, is_some, is_none, option_map, option_and_then, unwrap_or, find, filter, filter_map, ◌==◌, ◌≡◌, if◌then◌else◌}
use Rattle.amqp_perf.specs.declared.attach.Role.{Role}
use Rattle.amqp_perf.specs.declared.attach.Role.TheVariants.{Sender, Receiver}
use Rattle.amqp_perf.specs.declared.attach.SenderSettleMode.{SenderSettleMode}
use Rattle.amqp_perf.specs.declared.attach.SenderSettleMode.TheVariants.{Unsettled, Settled, Mixed}
use Rattle.amqp_perf.specs.Nested.{AddressFields, AText, AnOther, TerminusFields, TargetFields, ATerminus, ACoordinator}
use Rattle.amqp_perf.specs.Meaning.{AttachFields, sender_mode}
use Rattle.trace_events.specs.Words.{or_else, is_some_and, where_passes}
use Rattle.trace_events.specs.Event.{Event, Link, is_on_session}
use Rattle.trace_events.specs.declared.session.Session.{Session}
use Rattle.trace_events.specs.Said.{in_attach, out_attach, in_detach, out_detach}
use Rattle.trace_events.specs.Session.{live_session, IsLiveOn}

-- a link without address: each delivery on it is for the address in its message (own rule)
abbrev pub is_anonymous : Link → Bool
is_anonymous l = length l.address == 0

abbrev pub is_sender : Role → Bool
is_sender Sender = true
is_sender Receiver = false

abbrev pub is_receiver : Role → Bool
is_receiver Sender = false
is_receiver Receiver = true

-- attaches and detaches of the handle on the session
abbrev pub attaches_in : Session → ℕ → Event → Bool
attaches_in s handle e = is_some_and (in_attach e) (λ fields. fields.handle == handle) && is_on_session s e

abbrev pub attaches_out : Session → ℕ → Event → Bool
attaches_out s handle e = is_some_and (out_attach e) (λ fields. fields.handle == handle) && is_on_session s e

abbrev pub detaches_in : Session → ℕ → Event → Bool
detaches_in s handle e = is_some_and (in_detach e) (λ fields. fields.handle == handle) && is_on_session s e

abbrev pub detaches_out : Session → ℕ → Event → Bool
detaches_out s handle e = is_some_and (out_detach e) (λ fields. fields.handle == handle) && is_on_session s e

-- an attach with source and target opens a link; one without both refuses it (2.6.3)
abbrev pub opens_link : AttachFields → Bool
opens_link fields = is_some fields.source && is_some fields.target

-- an address that is a text; any other is empty
abbrev pub address_text : Option AddressFields → List ℕ
address_text (Some (AText text)) = text
address_text (Some (AnOther octets)) = []
address_text None = []

abbrev pub source_address : Option TerminusFields → List ℕ
source_address (Some source) = address_text source.address
source_address None = []

abbrev pub target_address : Option TargetFields → List ℕ
target_address (Some (ATerminus target)) = address_text target.address
target_address (Some ACoordinator) = []
target_address None = []

-- the address of a link, by the role that the router has on it: a receiver's is the target's, a sender's the source's
abbrev pub address_at : Role → AttachFields → List ℕ
address_at Receiver fields = target_address fields.target
address_at Sender fields = source_address fields.source

-- deliveries are sent settled (2.8.2)
abbrev pub is_settled_mode : SenderSettleMode → Bool
is_settled_mode Settled = true
is_settled_mode Unsettled = false
is_settled_mode Mixed = false

-- the client's last attach of the handle on the session that was heard
abbrev pub last_in_attach : Session → ℕ → List Event → Option Event
last_in_attach s handle past = find (λ e. attaches_in s handle e && e.is_heard) past

-- the initial-delivery-count of an attach, 0 where it has none (2.7.3)
abbrev pub first_count : AttachFields → ℕ
first_count fields = unwrap_or fields.initial_delivery_count 0

-- the link that an Out attach, in this record, opens in answer to the client's
abbrev pub new_link : ℕ → Session → AttachFields → Option Event → Link
new_link number s ours theirs = record {
  number = number;
  session = s;
  handle = ours.handle;
  role = ours.role;
  address = address_at ours.role ours;
  is_pre_settled = is_settled_mode (sender_mode ours);
  our_first_count = first_count ours;
  their_first_count = unwrap_or (option_map first_count (option_and_then in_attach theirs)) 0;
}

abbrev pub link_opened : Session → ℕ → Event → List Event → Option Link
link_opened s handle e past =
    option_map (λ ours. new_link e.number s ours (last_in_attach s handle past)) (where_passes opens_link (out_attach e))

-- the link of the last Out attach of the handle on the session that opens one, if no detach in either direction of the
-- handle stands since
abbrev pub session_link : Session → ℕ → List Event → Option Link
session_link s handle [] = None
session_link s handle (e ∷ past) =
    let earlier = session_link s handle past in
    if detaches_in s handle e || detaches_out s handle e then None
    else if attaches_out s handle e then or_else (link_opened s handle e past) earlier else earlier

-- the live link of a handle: that one on the channel's live session
abbrev pub live_link : ℕ → ℕ → ℕ → List Event → Option Link
live_link c channel handle past = option_and_then (λ s. session_link s handle past) (live_session c channel past)

abbrev pub is_live : List Event → Link → Bool
is_live past l = is_some_and (live_link l.session.connection l.session.channel l.handle past) (λ m. m.number == l.number)

-- deliveries come from the client, or go to it
abbrev pub is_producer : Link → Bool
is_producer l = is_receiver l.role

abbrev pub is_consumer : Link → Bool
is_consumer l = is_sender l.role

-- the client hasn't detached the handle since the last Out attach of it
abbrev pub is_undetached : Session → ℕ → List Event → Bool
is_undetached s handle [] = false
is_undetached s handle (e ∷ past) =
    let earlier = is_undetached s handle past in
    if attaches_out s handle e then true else if detaches_in s handle e then false else earlier

-- since the last Out attach of the handle the router has detached it, and the client hasn't: its detach is awaited
abbrev pub awaits_detach : Session → ℕ → List Event → Bool
awaits_detach s handle [] = false
awaits_detach s handle (e ∷ past) =
    let earlier = awaits_detach s handle past in
    if attaches_out s handle e || detaches_in s handle e then false
    else if detaches_out s handle e then is_undetached s handle past else earlier

-- the link that an Out attach opened
abbrev pub own_link : Event → Option Link
own_link e = where_passes (λ l. l.number == e.number) e.link

-- where it is a consumer's
abbrev pub opened_consumer : Event → Option Link
opened_consumer e = where_passes is_consumer (own_link e)

-- all links, the last attached first
abbrev pub links : List Event → List Link
links past = filter_map own_link past

abbrev pub live_links : List Event → List Link
live_links past = filter (is_live past) (links past)

-- the client's last heard attach of the handle, if no Out attach of it stands since
abbrev pub unanswered_attach : Session → ℕ → List Event → Option Event
unanswered_attach s handle [] = None
unanswered_attach s handle (e ∷ past) =
    let earlier = unanswered_attach s handle past in
    if attaches_out s handle e then None
    else if attaches_in s handle e && e.is_heard then Some e else earlier

-- since the last Out detach of the handle the client has detached a link that was live, or an attach was refused
abbrev pub owes_detach : Session → ℕ → List Event → Bool
owes_detach s handle [] = false
owes_detach s handle (e ∷ past) =
    let earlier = owes_detach s handle past in
    if detaches_out s handle e then false
    else detaches_in s handle e && is_some e.link || attaches_out s handle e && is_none e.link || earlier

-- the link that opened in this record
abbrev pub link_at : ℕ → List Event → Option Link
link_at n past = find (λ l. l.number == n) (links past)

-- it is the live link of its handle, on a live session
abbrev pub IsLiveLink : Link → List Event → Type 0
IsLiveLink l past = IsLiveOn l.session past × (session_link l.session l.handle past ≡ Some l)

-- where an event names a link, that one lives before it; one that the event opens itself is no such
abbrev pub NamesLive : Event → List Event → Type 0
NamesLive e past = IfSome e.link (λ l. IsLiveLink l past)
