-- L3 and L13: attaches and detaches that the router writes.
use Rattle.std.specs.Prelude.{ℕ, Bool, true, false, ◌&&◌, ◌||◌, List, [], ◌++◌, Option, Some, None, is_some, is_none, option_and_then, option_map, bytes_eq, codes, decimal, if◌then◌else◌}
use Rattle.amqp_perf.specs.declared.attach.Role.{Role}
use Rattle.amqp_perf.specs.declared.attach.Role.TheVariants.{Sender, Receiver}
use Rattle.amqp_perf.specs.declared.attach.SenderSettleMode.{SenderSettleMode}
use Rattle.amqp_perf.specs.declared.attach.SenderSettleMode.TheVariants.{Unsettled, Settled, Mixed}
use Rattle.amqp_perf.specs.declared.attach.ReceiverSettleMode.{ReceiverSettleMode}
use Rattle.amqp_perf.specs.declared.attach.ReceiverSettleMode.TheVariants.{First, Second}
use Rattle.amqp_perf.specs.Nested.{TargetFields, ATerminus, ACoordinator}
use Rattle.amqp_perf.specs.Meaning.{AttachFields, DetachFields, flag, sender_mode, receiver_mode}
use Rattle.amqp_perf.specs.Router.{other_role}
use Rattle.trace_events.specs.declared.fault.Fault.{Fault}
use Rattle.trace_events.specs.declared.fault.Fault.TheVariants.{Close, End, Refuse, Detach}
use Rattle.trace_events.specs.Words.{is_some_and}
use Rattle.trace_events.specs.Event.{Event}
use Rattle.trace_events.specs.declared.session.Session.{Session}
use Rattle.trace_events.specs.Said.{in_attach}
use Rattle.trace_events.specs.Link.{is_receiver, opens_link, address_at, unanswered_attach, owes_detach}

abbrev pub is_same_role : Role → Role → Bool
is_same_role Sender Sender = true
is_same_role Receiver Receiver = true
is_same_role _ _ = false

abbrev pub is_same_sender_mode : SenderSettleMode → SenderSettleMode → Bool
is_same_sender_mode Unsettled Unsettled = true
is_same_sender_mode Settled Settled = true
is_same_sender_mode Mixed Mixed = true
is_same_sender_mode _ _ = false

abbrev pub is_same_receiver_mode : ReceiverSettleMode → ReceiverSettleMode → Bool
is_same_receiver_mode First First = true
is_same_receiver_mode Second Second = true
is_same_receiver_mode _ _ = false

-- a consumer asks for an address that is made up for it (part 3, section 3.5.3)
abbrev pub has_dynamic_source : AttachFields → Bool
has_dynamic_source fields = is_receiver fields.role && is_some_and fields.source (λ source. flag source.dynamic)

-- the address that the client's attach, in this record, asks for: the text dyn/N, N being the record's number, for a
-- dynamic source (own rule); else its target's or its source's
abbrev pub asked_address : ℕ → AttachFields → List ℕ
asked_address number theirs =
    if has_dynamic_source theirs then codes "dyn/" ++ decimal number else address_at (other_role theirs.role) theirs

-- the settle mode of the receiver in the answer, whose sender settles as the client asks: first to a producer, and to a
-- consumer its own
abbrev pub answering_receiver_mode : ReceiverSettleMode → Role → ReceiverSettleMode
answering_receiver_mode asked Sender = First
answering_receiver_mode asked Receiver = asked

-- what an attach of the client asks for: the client's role on a link of this name, settle modes and address; or its fault
pub record Asking : Type 0 where
  pub name : List ℕ
  pub role : Role
  pub sender_mode : SenderSettleMode
  pub receiver_mode : ReceiverSettleMode
  pub address : List ℕ
  pub fault : Option Fault

abbrev pub asked_by : Event → AttachFields → Asking
asked_by e fields = record {
  name = fields.name;
  role = fields.role;
  sender_mode = sender_mode fields;
  receiver_mode = receiver_mode fields;
  address = asked_address e.number fields;
  fault = e.fault;
}

-- what the client's attach of the handle that is still to be answered asks for
abbrev pub asking : Session → ℕ → List Event → Option Asking
asking s handle past = option_and_then (λ e. option_map (asked_by e) (in_attach e)) (unanswered_attach s handle past)

-- a target without address, as an anonymous sender has it; a coordinator has none either
abbrev pub is_without_address : TargetFields → Bool
is_without_address (ATerminus target) = is_none target.address
is_without_address ACoordinator = false

-- the address that was asked for; none, where an anonymous sender asks for none
abbrev pub has_address : List ℕ → AttachFields → Bool
has_address asked ours =
    if bytes_eq [] asked then is_some_and ours.target is_without_address else bytes_eq (address_at ours.role ours) asked

abbrev pub accepts : Asking → AttachFields → Bool
accepts asked ours =
    opens_link ours && has_address asked.address ours
    && is_same_sender_mode (sender_mode ours) asked.sender_mode
    && is_same_receiver_mode (receiver_mode ours) (answering_receiver_mode asked.receiver_mode asked.role)

-- by the fault of the client's attach
abbrev pub accepts_or_refuses : Asking → AttachFields → Option Fault → Bool
accepts_or_refuses asked ours None = accepts asked ours
accepts_or_refuses asked ours (Some (Refuse condition)) = is_none ours.source && is_none ours.target
accepts_or_refuses asked ours (Some (Close condition)) = false
accepts_or_refuses asked ours (Some (End condition)) = false
accepts_or_refuses asked ours (Some (Detach condition)) = false

abbrev pub answers_one : AttachFields → Asking → Bool
answers_one ours asked =
    bytes_eq ours.name asked.name && is_same_role ours.role (other_role asked.role)
    && accepts_or_refuses asked ours asked.fault

abbrev pub answers_attach : AttachFields → List Event → Session → Bool
answers_attach ours past s = is_some_and (asking s ours.handle past) (answers_one ours)

abbrev pub may_detach : Event → DetachFields → List Event → Bool
may_detach e fields past = is_some e.link || is_some_and e.session (λ s. owes_detach s fields.handle past)
