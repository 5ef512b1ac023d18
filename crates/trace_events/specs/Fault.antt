-- The faults of a client's frames, in the order in which they are tested: the first that fits counts. The names of the
-- conditions are the standard's (part 2, sections 2.8.15 to 2.8.18); which fault gets which is an own rule.
use Rattle.std.specs.Prelude.{ℕ, Bool, ◌&&◌, ◌||◌, ◌+◌, not, List, [], ◌∷◌, length, Option, Some, None, is_some, is_none, nat_lt, ◌==◌, if◌then◌else◌}
use Rattle.std.specs.List.{list_any}
use Rattle.amqp_perf.specs.declared.attach.Role.{Role}
use Rattle.amqp_perf.specs.declared.attach.Role.TheVariants.{Sender, Receiver}
use Rattle.amqp_perf.specs.declared.begin.Begin.{Begin}
use Rattle.amqp_perf.specs.declared.condition.ErrorCondition.TheVariants.{FramingError, DecodeError, NotAllowed, InvalidField, HandleInUse, ResourceLimitExceeded, NotImplemented, WindowViolation, UnattachedHandle, TransferLimitExceeded, MessageSizeExceeded}
use Rattle.amqp_perf.specs.Nested.{AddressFields, AText, AnOther, TerminusFields, TargetFields, ATerminus, ACoordinator}
use Rattle.amqp_perf.specs.Meaning.{Meaning, AnOpen, ABegin, AnAttach, AFlow, ATransfer, ADisposition, ADetach, AnEnd, AClose, OpenFields, AttachFields, TransferFields, flag}
use Rattle.amqp_perf.specs.Meaning as meanings
use Rattle.capture_form.specs.Rules.{RuleSet, serves_anonymous}
use Rattle.flow_counts.specs.declared.profile.TheConstants.{MIN_MAX_FRAME_SIZE, CHANNEL_MAX, HANDLE_MAX, MAX_MESSAGE_SIZE, MAX_LINK_NAME, MAX_ADDRESS, MAX_DELIVERY_TAG}
use Rattle.trace_events.specs.declared.fault.Fault.{Fault}
use Rattle.trace_events.specs.declared.fault.Fault.TheVariants.{Close, End, Refuse, Detach}
use Rattle.trace_events.specs.Words.{is_some_and, is_number, or_else}
use Rattle.trace_events.specs.Frame.{Body, NoFrame, Empty, NoPerformative, Says, Spoken}
use Rattle.trace_events.specs.Event.{Event, Link, Incoming}
use Rattle.trace_events.specs.declared.session.Session.{Session}
use Rattle.trace_events.specs.Connection.{has_in_open}
use Rattle.trace_events.specs.Link.{session_link, awaits_detach, is_consumer}
use Rattle.trace_events.specs.Window.{given_window}
use Rattle.trace_events.specs.Credit.{given_credit}
use Rattle.trace_events.specs.Incoming.{in_progress, payload, incoming_deliveries}
use Rattle.trace_events.specs.Waiting.{is_undecided_of}

-- ---- attaches

-- an address that isn't dynamic: a text of 1 to 160 octets
abbrev pub address_fault : AddressFields → Option Fault
address_fault (AnOther octets) = Some (Refuse InvalidField)
address_fault (AText []) = Some (Refuse InvalidField)
address_fault (AText (octet ∷ rest)) =
    if nat_lt MAX_ADDRESS (length (octet ∷ rest)) then Some (Refuse ResourceLimitExceeded) else None

-- a target without address is that of an anonymous sender, which is served or not
abbrev pub target_address_fault : RuleSet → Option AddressFields → Option Fault
target_address_fault rules None = if serves_anonymous rules then None else Some (Refuse NotImplemented)
target_address_fault rules (Some address) = address_fault address

abbrev pub target_fault : RuleSet → Option TargetFields → Option Fault
target_fault rules (Some ACoordinator) = Some (Refuse NotImplemented)
target_fault rules (Some (ATerminus target)) =
    if flag target.dynamic then Some (Refuse NotImplemented) else target_address_fault rules target.address
target_fault rules None = Some (Refuse InvalidField)

abbrev pub source_address_fault : Option AddressFields → Option Fault
source_address_fault None = Some (Refuse InvalidField)
source_address_fault (Some address) = address_fault address

abbrev pub source_fault : Option TerminusFields → Option Fault
source_fault None = Some (Refuse InvalidField)
source_fault (Some source) = if flag source.dynamic then None else source_address_fault source.address

abbrev pub terminus_fault : RuleSet → AttachFields → Role → Option Fault
terminus_fault rules fields Sender =
    if is_none fields.initial_delivery_count then Some (Refuse InvalidField) else target_fault rules fields.target
terminus_fault rules fields Receiver = source_fault fields.source

abbrev pub is_handle_in_use : Session → ℕ → List Event → Bool
is_handle_in_use s handle past = is_some (session_link s handle past) || awaits_detach s handle past

abbrev pub attach_fault : RuleSet → Session → AttachFields → List Event → Option Fault
attach_fault rules s fields past =
    if nat_lt HANDLE_MAX fields.handle then Some (Close FramingError)
    else if is_handle_in_use s fields.handle past then Some (Close HandleInUse)
    else if nat_lt MAX_LINK_NAME (length fields.name) then Some (End ResourceLimitExceeded)
    else terminus_fault rules fields fields.role

-- ---- transfers

abbrev pub is_id_in_use : RuleSet → Session → ℕ → List Event → Bool
is_id_in_use rules s id past = list_any (is_undecided_of rules s id past) (incoming_deliveries past)

abbrev pub first_part_fault : RuleSet → Link → TransferFields → List Event → Option Fault
first_part_fault rules l fields past =
    if is_none fields.delivery_id then Some (Detach InvalidField)
    else if is_some_and fields.delivery_id (λ id. is_id_in_use rules l.session id past) then Some (Detach NotAllowed)
    else if given_credit l past == 0 then Some (Detach TransferLimitExceeded)
    else None

abbrev pub next_part_fault : Incoming → TransferFields → Option Fault
next_part_fault d fields =
    if is_some_and fields.delivery_id (λ id. not (is_number d.id id)) then Some (Detach InvalidField) else None

-- the payload of all parts; an aborted transfer's doesn't count
abbrev pub size_fault : TransferFields → ℕ → Option Fault
size_fault fields size =
    if not (flag fields.aborted) && nat_lt MAX_MESSAGE_SIZE size then Some (Detach MessageSizeExceeded) else None

-- of a delivery in progress, or of one that begins
abbrev pub part_fault : RuleSet → Link → TransferFields → List ℕ → List Event → Option Incoming → Option Fault
part_fault rules l fields octets past None = or_else (first_part_fault rules l fields past) (size_fault fields (length octets))
part_fault rules l fields octets past (Some d) =
    or_else (next_part_fault d fields) (size_fault fields (length (payload d past) + length octets))

abbrev pub link_transfer_fault : RuleSet → Link → TransferFields → List ℕ → List Event → Option Fault
link_transfer_fault rules l fields octets past =
    if is_consumer l then Some (End NotAllowed)
    else if flag fields.resume then Some (Detach NotImplemented)
    else if is_some_and fields.delivery_tag (λ tag. nat_lt MAX_DELIVERY_TAG (length tag)) then Some (Detach InvalidField)
    else part_fault rules l fields octets past (in_progress l past)

abbrev pub attached_fault : RuleSet → TransferFields → List ℕ → List Event → Option Link → Option Fault
attached_fault rules fields octets past None = Some (End UnattachedHandle)
attached_fault rules fields octets past (Some l) = link_transfer_fault rules l fields octets past

abbrev pub transfer_fault : RuleSet → Session → Event → TransferFields → List ℕ → List Event → Option Fault
transfer_fault rules s e fields octets past =
    if given_window s past == 0 then Some (End WindowViolation) else attached_fault rules fields octets past e.link

-- ---- whatever stands on a session, a channel, a connection

abbrev pub handle_fault : Event → Option Fault
handle_fault e = if is_none e.link then Some (End UnattachedHandle) else None

abbrev pub session_fault : RuleSet → Session → Event → Spoken → Meaning → List Event → Option Fault
session_fault rules s e spoken (AnAttach fields) past = attach_fault rules s fields past
session_fault rules s e spoken (ATransfer fields) past = transfer_fault rules s e fields spoken.payload past
session_fault rules s e spoken (AFlow flow) past = if is_some flow.handle then handle_fault e else None
session_fault rules s e spoken (ADetach fields) past = handle_fault e
session_fault rules s e spoken _ past = None

abbrev pub begin_fault : Event → Begin → Option Fault
begin_fault e begin = if is_some begin.remote_channel || is_some e.session then Some (Close NotAllowed) else None

abbrev pub on_session_fault : RuleSet → Event → Spoken → List Event → Option Session → Option Fault
on_session_fault rules e spoken past None = Some (Close NotAllowed)
on_session_fault rules e spoken past (Some s) = session_fault rules s e spoken spoken.meaning past

abbrev pub channel_fault : RuleSet → Event → Spoken → Meaning → List Event → Option Fault
channel_fault rules e spoken (ABegin begin) past = begin_fault e begin
channel_fault rules e spoken _ past = on_session_fault rules e spoken past e.session

abbrev pub open_fault : OpenFields → Option Fault
open_fault fields = if nat_lt (meanings.frame_limit fields) MIN_MAX_FRAME_SIZE then Some (Close InvalidField) else None

abbrev pub opened_fault : RuleSet → Event → Spoken → List Event → Option Fault
opened_fault rules e spoken past =
    if not (has_in_open e.connection past) then Some (Close NotAllowed)
    else if nat_lt CHANNEL_MAX spoken.channel then Some (Close FramingError)
    else channel_fault rules e spoken spoken.meaning past

abbrev pub spoken_fault : RuleSet → Event → Spoken → Meaning → List Event → Option Fault
spoken_fault rules e spoken (AnOpen fields) past =
    if has_in_open e.connection past then Some (Close NotAllowed) else open_fault fields
spoken_fault rules e spoken (AClose error) past = None
spoken_fault rules e spoken _ past = opened_fault rules e spoken past

abbrev pub body_fault : RuleSet → Event → Body → List Event → Option Fault
body_fault rules e NoFrame past = Some (Close FramingError)
body_fault rules e (NoPerformative channel) past = Some (Close DecodeError)
body_fault rules e (Empty channel) past = None
body_fault rules e (Says spoken) past = spoken_fault rules e spoken spoken.meaning past
